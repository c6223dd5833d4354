use Rattle.propagate.proofs.LawLemmas.{room_for_all}
use Rattle.propagate.proofs.laws.room_for_all_is_room.Goals as goal

pub returns : goal.returns
returns c = record { law = room_for_all }

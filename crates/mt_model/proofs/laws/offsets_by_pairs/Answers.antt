use Rattle.mt_model.proofs.Offsets.{by-pairs}
use Rattle.mt_model.proofs.laws.offsets_by_pairs.Goals as goal

pub returns : goal.returns
returns c = by-pairs

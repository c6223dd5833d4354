use Rattle.mt_model.proofs.PreviousRows.{is_last}
use Rattle.mt_model.proofs.laws.previous_row_is_last.Goals as goal

pub returns : goal.returns
returns c = is_last

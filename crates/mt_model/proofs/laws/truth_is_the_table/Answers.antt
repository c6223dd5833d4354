use Rattle.mt_model.proofs.TruthLemmas.{table}
use Rattle.mt_model.proofs.laws.truth_is_the_table.Goals as goal

pub returns : goal.returns
returns c = table

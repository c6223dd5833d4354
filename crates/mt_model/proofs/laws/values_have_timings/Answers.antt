use Rattle.mt_model.proofs.TruthLemmas.{values-none, values-timing}
use Rattle.mt_model.proofs.laws.values_have_timings.Goals as goal

pub returns : goal.returns
returns c = record { timing = values-timing; none = values-none }

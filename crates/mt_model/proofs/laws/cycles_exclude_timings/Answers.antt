use Rattle.mt_model.proofs.HappenedBefore.{no_timing}
use Rattle.mt_model.proofs.laws.cycles_exclude_timings.Goals as goal

pub returns : goal.returns
returns c = no_timing

use Rattle.mt_model.proofs.Conflicts.{excludes_timings}
use Rattle.mt_model.proofs.laws.conflict_excludes_timings.Goals as goal

pub returns : goal.returns
returns c = excludes_timings

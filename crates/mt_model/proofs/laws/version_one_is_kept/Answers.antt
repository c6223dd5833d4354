use Rattle.mt_model.proofs.VersionOneCases.{kept, states_kept}
use Rattle.mt_model.proofs.laws.version_one_is_kept.Goals as goal

pub returns-clause-timings : goal.returns-clause-timings
returns-clause-timings c = kept

pub returns-clause-states : goal.returns-clause-states
returns-clause-states c = states_kept

use Rattle.mt_model.proofs.VersionTwoCases.{kept_two}
use Rattle.mt_model.proofs.laws.version_two_is_kept.Goals as goal

pub returns : goal.returns
returns c = kept_two

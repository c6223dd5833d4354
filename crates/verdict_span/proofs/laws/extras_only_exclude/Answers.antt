use Rattle.verdict_span.proofs.Extras.{extras-only-exclude}
use Rattle.verdict_span.proofs.laws.extras_only_exclude.Goals as goal

pub returns : goal.returns
returns c = record { exclude = extras-only-exclude }

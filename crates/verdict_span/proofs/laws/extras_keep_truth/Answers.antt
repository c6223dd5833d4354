use Rattle.verdict_span.proofs.Extras.{extras-keep-truth}
use Rattle.verdict_span.proofs.laws.extras_keep_truth.Goals as goal

pub returns : goal.returns
returns c = record { keep = extras-keep-truth }

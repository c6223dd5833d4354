use Rattle.verdict.proofs.Places.{exact}
use Rattle.verdict.proofs.laws.audits_are_exact.Goals as goal

pub returns : goal.returns
returns c = record { exact = exact }

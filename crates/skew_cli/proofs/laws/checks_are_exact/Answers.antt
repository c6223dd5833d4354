use Rattle.skew_cli.proofs.ChecksExact.{checks-exact, checks-judged}
use Rattle.skew_cli.proofs.laws.checks_are_exact.Goals as goal

pub returns : goal.returns
returns c = record { exact = checks-exact c.texts_are_unambiguous.ensures; judged = checks-judged }

use Rattle.skew_cli.proofs.AcceptedAgain.{checks-accepted}
use Rattle.skew_cli.proofs.laws.checks_are_accepted.Goals as goal

pub returns : goal.returns
returns c = checks-accepted c.texts_are_unambiguous.ensures c.bytes_are_unambiguous.ensures c.texts_read_back.ensures c.audits_are_exact.ensures.exact c.right_reports_are_accepted.ensures.accepted

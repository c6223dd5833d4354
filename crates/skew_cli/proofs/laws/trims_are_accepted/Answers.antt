use Rattle.skew_cli.proofs.TrimmedAgain.{accepted-can-trim, trims-accepted}
use Rattle.skew_cli.proofs.laws.trims_are_accepted.Goals as goal

pub returns : goal.returns
returns c =
    let trims = c.trims_keep_refuting.ensures in
    record { can = accepted-can-trim trims.refutes trims.can; accepted = trims-accepted trims.refutes trims.can c.audits_are_exact.ensures.exact }

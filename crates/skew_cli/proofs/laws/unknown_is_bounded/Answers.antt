use Rattle.skew_cli.proofs.LeftUnknown.{in-report}
use Rattle.skew_cli.proofs.laws.unknown_is_bounded.Goals as goal

pub returns : goal.returns
returns c = λ conflicts f log out s checked v some unknown.
    let right = checked.right in
    let spent = in-report log f conflicts checked.report v right.says unknown in
    c.spent_conflicts_are_bounded.ensures.bounded log f v conflicts spent.0 spent.1 some

use Rattle.std.proofs.Common.{arith}
use Rattle.skew_words.specs.declared.limits.TheConstants.{DEFAULT_CONFLICTS}
use Rattle.demo_log.specs.DemoFormula.{demo_formula}
use Rattle.demo_log.specs.DemoLog.{log_of_seed}
use Rattle.skew_cli.proofs.LeftUnknown.{in-report}
use Rattle.skew_cli.proofs.laws.demo_unknown_is_bounded.Goals as goal

pub returns : goal.returns
returns c = λ seed out s demo v unknown.
    let spent = in-report (log_of_seed seed) demo_formula DEFAULT_CONFLICTS demo.report v demo.right.says unknown in
    c.spent_conflicts_are_bounded.ensures.bounded (log_of_seed seed) demo_formula v DEFAULT_CONFLICTS spent.0 spent.1 (omega arith)

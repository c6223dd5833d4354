use Rattle.std.proofs.Common.{inr}
use Rattle.axiom_rules.specs.Literals.{negated}
use Rattle.logic_table.proofs.Answered.{two_found}
use Rattle.logic_table.proofs.closed.is_settled.Goals as goal

pub returns-else-any : goal.returns-else-any
returns-else-any c = λ is. inr (two_found negated c.args.held.now c.args.clause.now (c.has_two_open.ensures is))

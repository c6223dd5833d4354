use Rattle.std.proofs.Common.{◌≡◌, None, inr, refl}
use Rattle.axiom_rules.specs.Clauses.{row_of}
use Rattle.axiom_rules.proofs.RowLemmas.{row-absent}
use Rattle.axiom_rules.proofs.rules.Rules.write_rule.Goals as goal

pub returns-in_default : goal.returns-in_default
returns-in_default c = let none : row_of ((c.args.rule).now).number ≡ None = search row-absent in inr (rw none refl)

use Rattle.std.proofs.Common.{rules, tests}
use Rattle.std.specs.List.{Contains}
use Rattle.std.proofs.lemmas.Iterator.{cases_from_all, YieldsList-from_slice}
use Rattle.axiom_rules.specs.Literals.{negated}
use Rattle.logic_table.proofs.Answered.{all_answered}
use Rattle.logic_table.proofs.closed.are_denied.Goals as goal

pub returns : goal.returns
returns c =
    let literals = c.args.literals.now in
    let held = c.args.held.now in
    all_answered (λ l. Contains held (negated l)) (λ _. Unit {0}) _ literals
    (cases_from_all _ _ _ (λ l. Contains held (negated l)) (λ _. Unit {0}) c.all.ensures.ran (YieldsList-from_slice literals cc)
    (λ x q k. search (rules, tests)) (λ x q k. tt {0}))

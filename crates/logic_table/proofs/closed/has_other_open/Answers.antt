use Rattle.std.proofs.Common.{◌≢◌, rules, tests}
use Rattle.std.specs.List.{Contains}
use Rattle.std.proofs.lemmas.Iterator.{cases_from_any, YieldsList-from_slice}
use Rattle.axiom_rules.specs.Literals.{negated}
use Rattle.logic_table.proofs.Answered.{any_answered}
use Rattle.logic_table.proofs.closed.has_other_open.Goals as goal

pub returns : goal.returns
returns c =
    let clause = c.args.clause.now in
    let held = c.args.held.now in
    let one = c.args.one in
    any_answered (λ l. (l ≢ one) × (Contains held (negated l) → ⊥)) (λ _. Unit {0}) _ clause (cases_from_any _ _ _ (λ l. (l ≢ one) × (Contains held (negated l) → ⊥)) (λ _. Unit {0}) c.any.ensures.ran
    (YieldsList-from_slice clause cc) (λ x q k. search (rules, tests)) (λ x q k. (search (rules, tests), tt {0})))

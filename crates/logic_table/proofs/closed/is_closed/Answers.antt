use Rattle.std.proofs.Common.{rules, tests}
use Rattle.std.proofs.lemmas.Iterator.{cases_from_all, YieldsList-from_slice}
use Rattle.hint_refutation.specs.Propagation.{IsSettled}
use Rattle.axiom_rules.specs.Literals.{negated}
use Rattle.logic_table.proofs.Answered.{all_answered}
use Rattle.logic_table.proofs.closed.is_closed.Goals as goal

pub returns-then-is_consistent : goal.returns-then-is_consistent
returns-then-is_consistent c = λ is.
    let clauses = c.args.clauses.now in
    let held = c.args.held.now in
    c.settled_is_closed.ensures.law negated clauses held (c.is_consistent.ensures c.if-is_consistent.true)
    (all_answered (IsSettled negated held) (λ _. Unit {0}) _ clauses (cases_from_all _ _ _ (IsSettled negated held) (λ _. Unit {0}) c.all.ensures.ran (YieldsList-from_slice clauses cc)
    (λ x q k. search (rules, tests)) (λ x q k. tt {0})) is)

use Rattle.std.proofs.Common.{◌≢◌, refl, rules, Some}
use Rattle.clause_db.specs.Literals.{negation}
use Rattle.propagate.proofs.ClauseLemmas.{unassigned_not_held}
use Rattle.propagate.proofs.PlaceLemmas.{not_both}
use Rattle.propagate.proofs.best.may_be_watched.Goals as goal

pub returns-in-Some-true-clause-open : goal.returns-in-Some-true-clause-open
returns-in-Some-true-clause-open c = λ open_here.
    let apart : c.args.beside ≢ Some c.args.lit = search rules in
    (apart, λ denied. not_both c.args.trail.now c.args.lit c.trails_are_in_order.ensures.trail (rw c.in-Some-true.field-0-test at c.in-Some-true.ensures.truth) denied)

pub returns-in-None-clause-open : goal.returns-in-None-clause-open
returns-in-None-clause-open c = λ open_here.
    let apart : c.args.beside ≢ Some c.args.lit = search rules in
    (apart, λ denied. unassigned_not_held c.args.trail.now.entries c.args.lit (negation c.args.lit) c.in-None.ensures.truth refl denied)

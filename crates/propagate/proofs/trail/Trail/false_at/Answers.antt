use Rattle.std.proofs.Common.{refl}
use Rattle.clause_db.specs.Literals.{negation}
use Rattle.propagate.proofs.ClauseLemmas.{unassigned_not_held}
use Rattle.propagate.proofs.PlaceLemmas.{held_assigned, held_at, not_both}
use Rattle.propagate.proofs.trail.Trail.false_at.Goals as goal

pub level_of-requires : goal.level_of-requires
level_of-requires c =
    record {
      assigned = held_assigned c.args.self.now.entries (negation c.args.lit) c.var.result c.var.ensures.variable
          (rw c.in-Some-false.field-0-test at c.in-Some-false.ensures.truth);
    }

pub returns-in-Some-false-clause-level : goal.returns-in-Some-false-clause-level
returns-in-Some-false-clause-level c =
    held_at c.args.self.now (negation c.args.lit) c.var.result c.level_of.result c.trails_are_in_order.ensures.trail c.var.ensures.variable
    (rw c.in-Some-false.field-0-test at c.in-Some-false.ensures.truth) c.level_of.ensures.level

pub returns-in-Some-true-clause-open : goal.returns-in-Some-true-clause-open
returns-in-Some-true-clause-open c = λ none denied. not_both c.args.self.now c.args.lit c.trails_are_in_order.ensures.trail (rw c.in-Some-true.field-0-test at c.in-Some-true.ensures.truth) denied

pub returns-in-None-clause-open : goal.returns-in-None-clause-open
returns-in-None-clause-open c = λ none denied. unassigned_not_held c.args.self.now.entries c.args.lit (negation c.args.lit) c.in-None.ensures.truth refl denied

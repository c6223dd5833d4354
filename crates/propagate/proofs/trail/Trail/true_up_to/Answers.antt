use Rattle.std.proofs.Common.{refl}
use Rattle.propagate.proofs.ClauseLemmas.{unassigned_not_held}
use Rattle.propagate.proofs.PlaceLemmas.{not_both, up_to_held}
use Rattle.propagate.proofs.trail.Trail.true_up_to.Goals as goal

pub returns-in-Some-false : goal.returns-in-Some-false
returns-in-Some-false c =
    record {
      since = (
        λ holds. absurd cc,
        λ since. absurd
            (not_both c.args.self.now c.args.lit c.trails_are_in_order.ensures.trail
            (up_to_held c.args.self.now.entries c.args.level c.args.lit since)
            (rw c.in-Some-false.field-0-test at c.in-Some-false.ensures.truth)),
      );
    }

pub returns-in-None : goal.returns-in-None
returns-in-None c =
    record {
      since = (
        λ holds. absurd cc,
        λ since. absurd
            (unassigned_not_held c.args.self.now.entries c.args.lit c.args.lit c.in-None.ensures.truth refl
            (up_to_held c.args.self.now.entries c.args.level c.args.lit since)),
      );
    }

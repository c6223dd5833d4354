use Rattle.std.proofs.Common.{refl, ℕ, ◌≤◌, leb, arith}
use Rattle.std.specs.Prelude.{IsTrue}
use Rattle.std.proofs.lemmas.Bool.Decides.{nat_tests}
use Rattle.propagate.proofs.PlaceLemmas.{at_up_to, held_assigned, held_at, up_to_level, up_to_top}
use Rattle.propagate.proofs.trail.Trail.reached_by.Goals as goal

to_test : (a b : ℕ) → a ≤ b → IsTrue (leb a b)
to_test a b le = grind (arith, nat_tests)

from_test : (a b : ℕ) → IsTrue (leb a b) → a ≤ b
from_test a b holds = grind (arith, nat_tests)

pub level_of-requires : goal.level_of-requires
level_of-requires c = record { assigned = held_assigned c.args.self.now.entries c.args.lit c.var.result c.var.ensures.variable c.requires.held }

pub returns-then-level : goal.returns-then-level
returns-then-level c =
    record {
      since = (
        λ holds. up_to_top c.args.self.now c.args.lit c.args.level c.level.ensures.trail
            (omega (arith, c.if-level.true, c.level.ensures.level)) c.requires.held,
        λ since. refl,
      );
    }

pub returns : goal.returns
returns c =
    let t = c.args.self.now in
    let at = held_at t c.args.lit c.var.result c.level_of.result c.level.ensures.trail c.var.ensures.variable c.requires.held c.level_of.ensures.level in
    record {
      since = (
        λ holds. at_up_to t.entries c.args.lit c.level_of.result c.args.level (from_test c.level_of.result c.args.level holds) at,
        λ since. to_test c.level_of.result c.args.level
            (up_to_level t c.args.lit c.level_of.result c.args.level c.level.ensures.trail at since),
      );
    }

-- Numbers that meet every edge of a walk: those of its ends differ by at most the sum of its bounds.
use Rattle.std.proofs.Common.{ℕ, List, [], ◌∷◌, ℤ, pos, ◌+ℤ◌, ◌≤ℤ◌, All, arith}
use Rattle.std.proofs.lemmas.Int.{ints}
use Rattle.neg_cycle.specs.declared.system.Edge.{Edge}
use Rattle.neg_cycle.specs.Systems.{number_of, Meets, edge_at, LeadsTo, IsClosedWalk, sum_of_bounds}
use Rattle.neg_cycle.specs.Laws.{PotentialExcludesCycles}

module _ (edges : List Edge) (numbers : List ℤ) (meets : All (Meets numbers) edges) where
  walk_meets : (a b : ℕ) (places : List ℕ) → LeadsTo edges a places b → number_of numbers a ≤ℤ (number_of numbers b +ℤ sum_of_bounds edges places)
  walk_meets a b [] walk = rw walk (omega (arith, ints))
  walk_meets a b (p ∷ ps) walk =
      let first = rw walk.1 at (meets p (record { from = 0; to = 0; bound = pos 0 }) walk.0) in
      let rest = walk_meets (edge_at edges p).to b ps walk.2 in
      omega (arith, ints, first, rest)

  closed_walk_meets : (places : List ℕ) → IsClosedWalk edges places → pos 0 ≤ℤ sum_of_bounds edges places
  closed_walk_meets [] closed = absurd closed
  closed_walk_meets (p ∷ ps) closed =
      let whole = walk_meets (edge_at edges p).from (edge_at edges p).from (p ∷ ps) closed in
      omega (arith, ints, whole)

pub excludes_cycles : PotentialExcludesCycles
excludes_cycles edges numbers places meets cycle = absurd (omega (arith, ints, closed_walk_meets edges numbers meets places cycle.closed, cycle.negative))

-- Atoms over other variables.
use Rattle.std.specs.Prelude.{◌≡◌, ◌≢◌, ℕ, ◌<◌, List, ◌++◌, length, map, slice_index, All, AllPairs, Contains}
use Rattle.axiom_rules.specs.declared.literal.Atom.{Atom}
use Rattle.axiom_rules.specs.Atoms.{IsVar}
use Rattle.mtl_encode.specs.declared.variables.Ranking.{Ranking}

-- each atom of the one table has in the other the variable that stands at the place of its own
pub record AreMoved (old new : List Atom) (places : List ℕ) : Type 0 where
  pub count : length places ≡ length old
  pub each : (v : ℕ) (a : Atom) → IsVar old v a → IsVar new (slice_index places v) a

-- the variables that are ranked, those of orders first
abbrev pub vars_in : Ranking → List ℕ
vars_in ranking = map (λ r. r.var) ranking.orders.items ++ map (λ r. r.var) ranking.others.items

-- all variables below a number, each once
pub record IsOrder (vars : ℕ) (order : List ℕ) : Type 0 where
  pub count : length order ≡ vars
  pub below : All (λ v. v < vars) order
  pub apart : AllPairs (λ v w. v ≢ w) order
  pub every : (v : ℕ) → v < vars → Contains order v

-- at the place of each variable stands its place in the order
pub record ArePlaces (order places : List ℕ) : Type 0 where
  pub count : length places ≡ length order
  pub each : (n : ℕ) → n < length order → slice_index places (slice_index order n) ≡ n

-- The places of literals in a list, in the order of the literals. Places count from 0.
use Rattle.std.specs.Prelude.{◌≡◌, ◌+◌, ◌<◌, ◌≤◌, ℕ, Bool, true, List, length, take, All, Contains, slice_index_or}
use Rattle.std.specs.List.Sorted.{IsSortedByKey}
use Rattle.std.specs.Ordering.{is_lt}
use Rattle.axiom_rules.specs.declared.literal.Atom.TheVariants.{First}
use Rattle.axiom_rules.specs.declared.literal.Literal.{Literal}
use Rattle.axiom_rules.specs.contracts.literal.LiteralOrd.TheImpl.{cmp-value as literal_cmp}

-- what is read where there is no literal
abbrev pub blank : Literal
blank = record { atom = First 0; positive = true }

-- the literal at a place
abbrev pub literal_at : List Literal → ℕ → Literal
literal_at lits place = slice_index_or lits place blank

-- whether a literal comes before another
abbrev pub comes_before : Literal → Literal → Bool
comes_before l m = is_lt (literal_cmp.it l m)

-- each place of the list is one of these, which are in the order of their literals; those of one literal rise
pub record AreSortedPlaces (lits : List Literal) (places : List ℕ) : Type 0 where
  pub within : All (λ k. k < length lits) places
  pub each : (k : ℕ) → k < length lits → Contains places k
  pub sorted : IsSortedByKey (literal_at lits) literal_cmp.it places
  pub rising : (i d : ℕ) → i + 1 < length places → literal_at lits (slice_index_or places i d) ≡ literal_at lits (slice_index_or places (i + 1) d)
      → slice_index_or places i d ≤ slice_index_or places (i + 1) d

-- the literal stands at this place, and at none before it
pub record StandsFirst (lits : List Literal) (literal : Literal) (place : ℕ) : Type 0 where
  pub within : place < length lits
  pub there : literal_at lits place ≡ literal
  pub first : Contains (take place lits) literal → ⊥

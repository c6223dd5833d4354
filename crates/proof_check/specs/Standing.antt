-- What is known of the literals that are assumed.
use Rattle.std.specs.Prelude.{◌≡◌, ◌⊎◌, ◌<◌, ℕ, List, ◌++◌, length, map, All, Contains, Ok}
use Rattle.axiom_rules.specs.declared.literal.Atom.{Atom}
use Rattle.axiom_rules.specs.declared.literal.Atom.TheVariants.{Gap}
use Rattle.axiom_rules.specs.declared.literal.Literal.{Literal}
use Rattle.axiom_rules.specs.declared.rule.Rule.{Rule}
use Rattle.axiom_rules.specs.Clauses.{arg, clause_of}
use Rattle.axiom_rules.specs.Literals.{negated, no, yes}
use Rattle.axiom_rules.specs.Sought.{Sought}
use Rattle.proof_check.specs.Places.{AreSortedPlaces}

-- each event before one is assumed to be no gap of a node from an event on
abbrev pub AreNoGaps : List Literal → ℕ → ℕ → ℕ → Type 0
AreNoGaps assumed k i count = (x : ℕ) → x < count → Contains assumed (no (Gap k i x))

-- where an atom says that an event is a gap, each event before it is none
abbrev pub IsGapless : List Literal → Atom → Type 0
IsGapless assumed a = (k i m : ℕ) → a ≡ Gap k i m → AreNoGaps assumed k i m

-- the places of what is denied are in order, what is listed was given, and there are no gaps where it was found so
pub record IsAssumedRight (denied : List Literal) (places : List ℕ) (given list : List Literal) (gapless : List Atom) : Type 0 where
  pub sorted : AreSortedPlaces denied places
  pub listed : All (Contains given) list
  pub found : All (IsGapless (map negated denied ++ given)) gapless

-- the literal is that of an event which is a gap of a node from an event on
pub record IsGapAmong (count k i : ℕ) (l : Literal) : Type 0 where
  pub event : ℕ
  pub there : event < count
  pub is : l ≡ yes (Gap k i event)

-- the rule has a clause with this literal, each other one of which is that of a gap of its node from its event on
pub record IsSpanOrGap (s : Sought) (rule : Rule) (l : Literal) : Type 0 where
  pub clause : List Literal
  pub is_clause : clause_of s rule ≡ Ok clause
  pub has : Contains clause l
  pub others : All (λ m. (m ≡ l) ⊎ IsGapAmong (length s.log.rows) (arg rule.args 0) (arg rule.args 1) m) clause

-- Unit propagation, and the sets of literals that are closed under it. A set is given as a list of its literals.
use Rattle.std.specs.Prelude.{◌≢◌, ◌⊎◌, List, [], ◌∷◌, All, Any, Contains}
use Rattle.hint_refutation.specs.Hints.{IsFalseUnder, LeavesOnly}

-- the set makes no clause false, and it has the literal that a clause leaves, if one leaves only one
pub record ClosedUnder {L : Type 0} (neg : L → L) (clauses : List (List L)) (set : List L) : Type 0 where
  pub none_false : All (λ clause. IsFalseUnder neg set clause → ⊥) clauses
  pub keeps : All (λ clause. (u : L) → LeavesOnly neg set clause u → Contains set u) clauses

-- unit propagation from what is assumed reaches these literals one after another: some clause leaves only the next one
abbrev pub Reaches : {L : Type 0} → (L → L) → List (List L) → List L → List L → Type 0
Reaches neg clauses assumed [] = Unit {0}
Reaches neg clauses assumed (u ∷ us) = Any (λ clause. LeavesOnly neg assumed clause u) clauses × Reaches neg clauses (u ∷ assumed) us

-- unit propagation from what is assumed reaches neither a false clause nor l: a closed set has what is assumed, and lacks l
pub record Misses {L : Type 0} (neg : L → L) (clauses : List (List L)) (assumed : List L) (l : L) : Type 0 where
  pub set : List L
  pub closed : ClosedUnder neg clauses set
  pub has : All (Contains set) assumed
  pub lacks : Contains set l → ⊥

-- no literal of the set stands in it negated
abbrev pub IsConsistent : {L : Type 0} → (L → L) → List L → Type 0
IsConsistent neg set = All (λ l. Contains set (neg l) → ⊥) set

-- two different literals of the clause aren't false
pub record HasTwoOpen {L : Type 0} (neg : L → L) (set clause : List L) : Type 0 where
  pub one : L
  pub other : L
  pub has_one : Contains clause one
  pub has_other : Contains clause other
  pub differ : one ≢ other
  pub one_open : Contains set (neg one) → ⊥
  pub other_open : Contains set (neg other) → ⊥

-- the clause is neither false nor unit: the set has a literal of it, or two of its literals aren't false
abbrev pub IsSettled : {L : Type 0} → (L → L) → List L → List L → Type 0
IsSettled neg set clause = Any (Contains set) clause ⊎ HasTwoOpen neg set clause

-- Laws of refutation by hints.
use Rattle.std.specs.Prelude.{◌≡◌, ◌↔◌, ◌+◌, List, [], ◌∷◌, ◌++◌, length, map, Bool, not, IsTrue, IsFalse, All, Any, Contains}
use Rattle.hint_refutation.specs.Hints.{IsFalseUnder, Gives, Refutes, RefutesGiving, AreSpent, Used}
use Rattle.hint_refutation.specs.Propagation.{ClosedUnder, Reaches, Misses, IsConsistent, IsSettled}

-- of each literal and its negation exactly one holds
abbrev pub IsValuation : {L : Type 0} → (L → L) → (L → Bool) → Type 0
IsValuation {L} neg holds = (l : L) → holds (neg l) ≡ not (holds l)

-- a literal of the clause holds
abbrev pub IsMet : {L : Type 0} → (L → Bool) → List L → Type 0
IsMet holds clause = Any (λ l. IsTrue (holds l)) clause

-- where each hint is met, some literal that they refute doesn't hold
abbrev pub RefutedAssumptionsFail : Type 0 → Type 0
RefutedAssumptionsFail L = (neg : L → L) (holds : L → Bool) → IsValuation neg holds → (assumed : List L) (hints : List (List L)) → All (IsMet holds) hints
    → Refutes neg assumed hints → Any (λ l. IsFalse (holds l)) assumed

-- where each hint is met, a clause whose literals' negations they refute is met
abbrev pub HintsAreSound : Type 0 → Type 0
HintsAreSound L = (neg : L → L) (holds : L → Bool) → IsValuation neg holds → (clause : List L) (hints : List (List L)) → All (IsMet holds) hints
    → Refutes neg (map neg clause) hints → IsMet holds clause

-- hints refute exactly where they refute giving some literals
abbrev pub RefutersGive : Type 0 → Type 0
RefutersGive L = (neg : L → L) (assumed : List L) (hints : List (List L)) → Refutes neg assumed hints ↔ ((given : List L) × RefutesGiving neg assumed hints given)

-- a clause gives at most one literal, and none where it is false; hints give one list of literals, one for each hint but the last;
-- so where literals are used, whatever the hints give is spent
pub record GivenIsDetermined (L : Type 0) : Type 0 where
  pub one : (neg : L → L) (assumed clause : List L) (u w : L) → Gives neg assumed clause u → Gives neg assumed clause w → u ≡ w
  pub none : (neg : L → L) (assumed clause : List L) (u : L) → IsFalseUnder neg assumed clause → Gives neg assumed clause u → ⊥
  pub list : (neg : L → L) (assumed : List L) (hints : List (List L)) (given other : List L) → RefutesGiving neg assumed hints given → RefutesGiving neg assumed hints other → given ≡ other
  pub count : (neg : L → L) (assumed : List L) (hints : List (List L)) (given : List L) → RefutesGiving neg assumed hints given → length hints ≡ length given + 1
  pub spent : (neg : L → L) (lits : List L) (hints : List (List L)) (given : List L) → Used neg lits hints → RefutesGiving neg (map neg lits) hints given → AreSpent neg hints given

-- of what is assumed only the set counts: neither the order nor how often a literal is assumed
abbrev pub AssumedIsSet : Type 0 → Type 0
AssumedIsSet L = (neg : L → L) (assumed same : List L) (hints : List (List L)) (given : List L) → All (Contains same) assumed → All (Contains assumed) same
    → RefutesGiving neg assumed hints given → RefutesGiving neg same hints given

-- the first hint forces what follows: what it gives is assumed too, after a false one nothing may follow, and after one that is
-- neither false nor gives a literal nothing helps
pub record StepsAreForced (L : Type 0) : Type 0 where
  pub gives : (neg : L → L) (assumed hint : List L) (later : List (List L)) (u : L) → Gives neg assumed hint u → Refutes neg assumed (hint ∷ later) ↔ Refutes neg (u ∷ assumed) later
  pub last : (neg : L → L) (assumed hint : List L) (later : List (List L)) → IsFalseUnder neg assumed hint → Refutes neg assumed (hint ∷ later) ↔ (later ≡ [])
  pub stuck : (neg : L → L) (assumed hint : List L) (later : List (List L)) → (IsFalseUnder neg assumed hint → ⊥) → ((u : L) → Gives neg assumed hint u → ⊥) → Refutes neg assumed (hint ∷ later) → ⊥

-- neither a literal of these nor its negation is assumed
abbrev pub AreUndecided : {L : Type 0} → (L → L) → List L → List L → Type 0
AreUndecided neg assumed lits = All (λ l. (Contains assumed l → ⊥) × (Contains assumed (neg l) → ⊥)) lits

-- what hints give was undecided, and they refute under more assumptions too where it stays undecided
pub record AssumedMayGrow (L : Type 0) : Type 0 where
  pub undecided : (neg : L → L) (assumed : List L) (hints : List (List L)) (given : List L) → RefutesGiving neg assumed hints given → AreUndecided neg assumed given
  pub grown : (neg : L → L) (assumed more : List L) (hints : List (List L)) (given : List L) → All (Contains more) assumed → AreUndecided neg more given
      → RefutesGiving neg assumed hints given → RefutesGiving neg more hints given

-- a closed set that has what is assumed has all that unit propagation reaches, which makes no clause false; so what is missed
-- isn't reached
pub record ClosedHasReached (L : Type 0) : Type 0 where
  pub has : (neg : L → L) (clauses : List (List L)) (set assumed reached : List L) → ClosedUnder neg clauses set → All (Contains set) assumed → Reaches neg clauses assumed reached
      → All (Contains set) reached
  pub none_false : (neg : L → L) (clauses : List (List L)) (set assumed reached : List L) → ClosedUnder neg clauses set → All (Contains set) assumed → Reaches neg clauses assumed reached
      → All (λ clause. IsFalseUnder neg (reached ++ assumed) clause → ⊥) clauses
  pub missed : (neg : L → L) (clauses : List (List L)) (assumed reached : List L) (l : L) → Misses neg clauses assumed l → Reaches neg clauses assumed reached → Contains reached l → ⊥

-- what unit propagation reaches is closed where it makes no clause false and reaches nothing more
abbrev pub WholeReachedIsClosed : Type 0 → Type 0
WholeReachedIsClosed L = (neg : L → L) (clauses : List (List L)) (set : List L) → All (λ clause. IsFalseUnder neg set clause → ⊥) clauses
    → ((u : L) → Reaches neg clauses set (u ∷ []) → Contains set u) → ClosedUnder neg clauses set

-- no hints from the clauses refute what a closed set has
abbrev pub ClosedIsNotRefuted : Type 0 → Type 0
ClosedIsNotRefuted L = (neg : L → L) (clauses : List (List L)) (set assumed : List L) (hints : List (List L)) → ClosedUnder neg clauses set → All (Contains set) assumed
    → All (Contains clauses) hints → Refutes neg assumed hints → ⊥

-- a consistent set that settles each clause is closed
abbrev pub SettledIsClosed : Type 0 → Type 0
SettledIsClosed L = (neg : L → L) (clauses : List (List L)) (set : List L) → IsConsistent neg set → All (IsSettled neg set) clauses → ClosedUnder neg clauses set

-- what is closed or missed over clauses is so over fewer of them; what is closed over these and over those is closed over all
pub record ClosedByClauses (L : Type 0) : Type 0 where
  pub fewer : (neg : L → L) (clauses fewer : List (List L)) (set : List L) → All (Contains clauses) fewer → ClosedUnder neg clauses set → ClosedUnder neg fewer set
  pub missed : (neg : L → L) (clauses fewer : List (List L)) (assumed : List L) (l : L) → All (Contains clauses) fewer → Misses neg clauses assumed l → Misses neg fewer assumed l
  pub joined : (neg : L → L) (these those : List (List L)) (set : List L) → ClosedUnder neg these set → ClosedUnder neg those set → ClosedUnder neg (these ++ those) set

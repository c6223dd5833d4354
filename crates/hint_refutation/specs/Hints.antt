-- Refutation by hints, which is reverse unit propagation over given clauses. Literals are assumed, and clauses, the hints,
-- are taken in order: each but the last is unit and gives one more literal, and the last is false. A clause is a list of
-- literals; `neg` gives the negation of a literal.
use Rattle.std.specs.Prelude.{◌≡◌, ◌⊎◌, List, [], ◌∷◌, map, All, Any, Contains}

-- each literal of the clause is false: its negation is assumed
abbrev pub IsFalseUnder : {L : Type 0} → (L → L) → List L → List L → Type 0
IsFalseUnder neg assumed clause = All (λ l. Contains assumed (neg l)) clause

-- the clause has u, and each other literal of it is false
pub record LeavesOnly {L : Type 0} (neg : L → L) (assumed clause : List L) (u : L) : Type 0 where
  pub has : Contains clause u
  pub others_false : All (λ l. (l ≡ u) ⊎ Contains assumed (neg l)) clause

-- the clause leaves only u, and neither u nor its negation is assumed
pub record Gives {L : Type 0} (neg : L → L) (assumed clause : List L) (u : L) : Type 0 where
  pub leaves : LeavesOnly neg assumed clause u
  pub not_true : Contains assumed u → ⊥
  pub not_false : Contains assumed (neg u) → ⊥

-- there is a hint; the last one is false, and each one before it gives a literal, which is then assumed too
abbrev pub Refutes : {L : Type 0} → (L → L) → List L → List (List L) → Type 0
Refutes neg assumed [] = ⊥
Refutes {L} neg assumed (hint ∷ later) = ((later ≡ []) × IsFalseUnder neg assumed hint) ⊎ ((u : L) × Gives neg assumed hint u × Refutes neg (u ∷ assumed) later)

-- the hints refute, and these are the literals that each hint but the last gives, in order
abbrev pub RefutesGiving : {L : Type 0} → (L → L) → List L → List (List L) → List L → Type 0
RefutesGiving neg assumed [] given = ⊥
RefutesGiving neg assumed (hint ∷ later) [] = (later ≡ []) × IsFalseUnder neg assumed hint
RefutesGiving neg assumed (hint ∷ later) (u ∷ us) = Gives neg assumed hint u × RefutesGiving neg (u ∷ assumed) later us

-- the literal stands in one of the clauses
abbrev pub StandsIn : {L : Type 0} → List (List L) → L → Type 0
StandsIn clauses l = Any (λ clause. Contains clause l) clauses

-- each given literal stands negated in a hint after the one that gives it
abbrev pub AreSpent : {L : Type 0} → (L → L) → List (List L) → List L → Type 0
AreSpent neg hints [] = Unit {0}
AreSpent neg [] (u ∷ us) = ⊥
AreSpent neg (hint ∷ later) (u ∷ us) = StandsIn later (neg u) × AreSpent neg later us

-- the hints refute the negations of the literals; each literal stands in a hint, and what each hint but the last gives
-- stands negated in a later one
pub record Used {L : Type 0} (neg : L → L) (lits : List L) (hints : List (List L)) : Type 0 where
  pub stand : All (StandsIn hints) lits
  pub given : List L
  pub refutes : RefutesGiving neg (map neg lits) hints given
  pub spent : AreSpent neg hints given

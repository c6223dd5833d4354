-- Words carried from one type of literals to another.
use Rattle.std.specs.Prelude.{◌≡◌, ◌↔◌, List, map, Bool, IsTrue, All}
use Rattle.hint_refutation.specs.Hints.{Refutes, RefutesGiving, StandsIn, Used}
use Rattle.hint_refutation.specs.Propagation.{ClosedUnder, Misses}

-- a map that takes negations to negations, and keeps apart the literals that are among some; the negation of each of these
-- is among them too
pub record Carrier (L M : Type 0) : Type 0 where
  pub among : L → Bool
  pub neg : L → L
  pub opposite : M → M
  pub carry : L → M
  pub negated : (l : L) → IsTrue (among l) → IsTrue (among (neg l))
  pub commutes : (l : L) → IsTrue (among l) → carry (neg l) ≡ opposite (carry l)
  pub apart : (k l : L) → IsTrue (among k) → IsTrue (among l) → carry k ≡ carry l → k ≡ l

-- each of the literals is among those that the map keeps apart
abbrev pub AreAmong : {L M : Type 0} → Carrier L M → List L → Type 0
AreAmong c lits = All (λ l. IsTrue (c.among l)) lits

-- of literals that the map keeps apart, what refutes, is used or closed does so there too and the other way round; what is
-- missed is missed there
pub record WordsAreCarried (L M : Type 0) : Type 0 where
  pub refutes : (c : Carrier L M) (assumed : List L) (hints : List (List L)) → AreAmong c assumed → All (AreAmong c) hints
      → Refutes c.neg assumed hints ↔ Refutes c.opposite (map c.carry assumed) (map (map c.carry) hints)
  pub giving : (c : Carrier L M) (assumed : List L) (hints : List (List L)) (given : List L) → AreAmong c assumed → All (AreAmong c) hints
      → RefutesGiving c.neg assumed hints given → RefutesGiving c.opposite (map c.carry assumed) (map (map c.carry) hints) (map c.carry given)
  pub given_back : (c : Carrier L M) (assumed : List L) (hints : List (List L)) (others : List M) → AreAmong c assumed → All (AreAmong c) hints
      → RefutesGiving c.opposite (map c.carry assumed) (map (map c.carry) hints) others → (given : List L) × RefutesGiving c.neg assumed hints given × (map c.carry given ≡ others)
  pub stands : (c : Carrier L M) (clauses : List (List L)) (l : L) → All (AreAmong c) clauses → IsTrue (c.among l)
      → StandsIn clauses l ↔ StandsIn (map (map c.carry) clauses) (c.carry l)
  pub used : (c : Carrier L M) (lits : List L) (hints : List (List L)) → AreAmong c lits → All (AreAmong c) hints
      → Used c.neg lits hints ↔ Used c.opposite (map c.carry lits) (map (map c.carry) hints)
  pub closed : (c : Carrier L M) (clauses : List (List L)) (set : List L) → All (AreAmong c) clauses → AreAmong c set
      → ClosedUnder c.neg clauses set ↔ ClosedUnder c.opposite (map (map c.carry) clauses) (map c.carry set)
  pub missed : (c : Carrier L M) (clauses : List (List L)) (assumed : List L) (l : L) → All (AreAmong c) clauses → AreAmong c assumed → IsTrue (c.among l)
      → Misses c.neg clauses assumed l → Misses c.opposite (map (map c.carry) clauses) (map c.carry assumed) (c.carry l)

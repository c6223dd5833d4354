-- Laws about positions, states, truth and values.
use Rattle.std.specs.Prelude.{◌≡◌, ◌↔◌, ◌⊎◌, ℕ, ◌<◌, ◌≤◌, List, length, Bool, true, IfSome, ℤ, pos, ◌-ℤ◌, ◌<ℤ◌, ◌≤ℤ◌}
use Rattle.mt_model.specs.declared.tree.Interval.{Interval}
use Rattle.mt_model.specs.Form.{Form, True, False, Prop, Not, And, Or, Implies, Until, Since, Eventually, Always, Once, Historically}
use Rattle.mt_model.specs.Log.{Logged}
use Rattle.mt_model.specs.Timing.{Admissible, time_of}
use Rattle.mt_model.specs.Positions.{place_of, positions_of}
use Rattle.mt_model.specs.State.{state_named}
use Rattle.mt_model.specs.Truth.{IsValue, truth, truth_of}

-- the time of a position, by its index
abbrev pub position_time : List ℤ → ℕ → ℤ
position_time t i = time_of (positions_of t) i

-- i is the index of a position
abbrev pub IsIndex : List ℤ → ℕ → Type 0
IsIndex t i = i < length (positions_of t)

-- the positions are the times of the rows, each once, rising
pub record PositionsAreTimes : Type 0 where
  pub rising : (t : List ℤ) (i j : ℕ) → i < j → IsIndex t j → position_time t i <ℤ position_time t j
  pub of_row : (t : List ℤ) (e : ℕ) → e < length t → IsIndex t (place_of t e) × (position_time t (place_of t e) ≡ time_of t e)
  pub has_row : (t : List ℤ) (i : ℕ) → IsIndex t i → (e : ℕ) × (e < length t) × (time_of t e ≡ position_time t i)

-- truth at the place of a row, and at the first position, can be told by the rows
pub record TruthByRows : Type 0 where
  pub at_row : (log : Logged) (t : List ℤ) (e : ℕ) (f : Form) → e < length t → truth_of log t e f ≡ truth log t (place_of t e) f
  pub at_first : (log : Logged) (t : List ℤ) (e : ℕ) (f : Form) → e < length t → ((k : ℕ) → k < length t → time_of t e ≤ℤ time_of t k) → truth_of log t e f ≡ truth log t 0 f

-- the formula is true at the position of an index
abbrev pub IsTrueAt : Logged → List ℤ → ℕ → Form → Type 0
IsTrueAt log t i f = truth log t i f ≡ true

-- from the lower bound of an interval to the upper one, where there is one
abbrev pub LiesIn : Interval → ℤ → Type 0
LiesIn I distance = (pos I.low ≤ℤ distance) × IfSome I.high (λ b. distance ≤ℤ pos b)

-- j is a position from i on, at a distance in the interval
pub record LiesAhead (t : List ℤ) (I : Interval) (i j : ℕ) : Type 0 where
  pub index : IsIndex t j
  pub from_here : i ≤ j
  pub distance : LiesIn I (position_time t j -ℤ position_time t i)

-- j is a position up to i, at a distance in the interval
pub record LiesBehind (t : List ℤ) (I : Interval) (i j : ℕ) : Type 0 where
  pub index : IsIndex t j
  pub up_to_here : j ≤ i
  pub distance : LiesIn I (position_time t i -ℤ position_time t j)

-- what each form says at a position
pub record TruthIsTheTable : Type 0 where
  pub constant_true : (log : Logged) (t : List ℤ) (i : ℕ) → IsTrueAt log t i True
  pub constant_false : (log : Logged) (t : List ℤ) (i : ℕ) → IsTrueAt log t i False → ⊥
  pub proposition : (log : Logged) (t : List ℤ) (i : ℕ) (host name : List ℕ) → truth log t i (Prop host name) ≡ state_named log t (position_time t i) host name
  pub negation : (log : Logged) (t : List ℤ) (i : ℕ) (f : Form) → IsTrueAt log t i (Not f) ↔ (IsTrueAt log t i f → ⊥)
  pub conjunction : (log : Logged) (t : List ℤ) (i : ℕ) (f g : Form) → IsTrueAt log t i (And f g) ↔ (IsTrueAt log t i f × IsTrueAt log t i g)
  pub disjunction : (log : Logged) (t : List ℤ) (i : ℕ) (f g : Form) → IsTrueAt log t i (Or f g) ↔ (IsTrueAt log t i f ⊎ IsTrueAt log t i g)
  pub implication : (log : Logged) (t : List ℤ) (i : ℕ) (f g : Form) → IsTrueAt log t i (Implies f g) ↔ (IsTrueAt log t i f → IsTrueAt log t i g)
  -- the left side of an until is asked from here on up to the witness, and not at the witness
  pub until : (log : Logged) (t : List ℤ) (i : ℕ) (I : Interval) (f g : Form) → IsIndex t i
      → IsTrueAt log t i (Until I f g) ↔ ((j : ℕ) × LiesAhead t I i j × IsTrueAt log t j g × ((k : ℕ) → i ≤ k → k < j → IsTrueAt log t k f))
  -- that of a since from after the witness on up to here
  pub since : (log : Logged) (t : List ℤ) (i : ℕ) (I : Interval) (f g : Form) → IsIndex t i
      → IsTrueAt log t i (Since I f g) ↔ ((j : ℕ) × LiesBehind t I i j × IsTrueAt log t j g × ((k : ℕ) → j < k → k ≤ i → IsTrueAt log t k f))
  pub eventually : (log : Logged) (t : List ℤ) (i : ℕ) (I : Interval) (f : Form) → IsTrueAt log t i (Eventually I f) ↔ ((j : ℕ) × LiesAhead t I i j × IsTrueAt log t j f)
  pub always : (log : Logged) (t : List ℤ) (i : ℕ) (I : Interval) (f : Form) → IsTrueAt log t i (Always I f) ↔ ((j : ℕ) → LiesAhead t I i j → IsTrueAt log t j f)
  pub once : (log : Logged) (t : List ℤ) (i : ℕ) (I : Interval) (f : Form) → IsTrueAt log t i (Once I f) ↔ ((j : ℕ) × LiesBehind t I i j × IsTrueAt log t j f)
  pub historically : (log : Logged) (t : List ℤ) (i : ℕ) (I : Interval) (f : Form) → IsTrueAt log t i (Historically I f) ↔ ((j : ℕ) → LiesBehind t I i j → IsTrueAt log t j f)

-- each value has a timing that gives it, and there is no value exactly where no timing is admissible
pub record ValuesHaveTimings : Type 0 where
  pub timing : (log : Logged) (f : Form) (v : Bool) → IsValue log f v ↔ ((t : List ℤ) × Admissible log t × (truth log t 0 f ≡ v))
  pub none : (log : Logged) (f : Form) → ((v : Bool) → IsValue log f v → ⊥) ↔ ((t : List ℤ) → Admissible log t → ⊥)

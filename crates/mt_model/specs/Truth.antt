-- Truth of a formula in a timing, in the finite pointwise semantics of metric temporal logic (Koymans 1990).
use Rattle.std.specs.Prelude.{◌≡◌, ℕ, List, length, Bool, true, false, not, ◌&&◌, ◌||◌, nat_le, ℤ, int_le}
use Rattle.std.specs.List.{range_with_len}
use Rattle.mt_model.specs.Form.{Form, True, False, Prop, Not, And, Or, Implies, Until, Since, Eventually, Always, Once, Historically}
use Rattle.mt_model.specs.Log.{Logged}
use Rattle.mt_model.specs.Timing.{Admissible, time_of}
use Rattle.mt_model.specs.Positions.{positions_of}
use Rattle.mt_model.specs.State.{state_named}
use Rattle.mt_model.specs.Frame.{Frame, turned, implies, reaches, sometimes, always, is_ahead, is_behind}

-- truth at a point in time
abbrev pub truth_in : {X : Type 0} → Logged → List ℤ → Frame X → X → Form → Bool
truth_in log t F x True = true
truth_in log t F x False = false
truth_in log t F x (Prop host name) = state_named log t (F.instant x) host name
truth_in log t F x (Not f) = not (truth_in log t F x f)
truth_in log t F x (And f g) = truth_in log t F x f && truth_in log t F x g
truth_in log t F x (Or f g) = truth_in log t F x f || truth_in log t F x g
truth_in log t F x (Implies f g) = implies (truth_in log t F x f) (truth_in log t F x g)
truth_in log t F x (Until I f g) = reaches F (is_ahead F I) (λ y. truth_in log t F y f) (λ y. truth_in log t F y g) x
truth_in log t F x (Since I f g) = reaches (turned F) (is_behind F I) (λ y. truth_in log t F y f) (λ y. truth_in log t F y g) x
truth_in log t F x (Eventually I f) = sometimes F (is_ahead F I) (λ y. truth_in log t F y f) x
truth_in log t F x (Always I f) = always F (is_ahead F I) (λ y. truth_in log t F y f) x
truth_in log t F x (Once I f) = sometimes (turned F) (is_behind F I) (λ y. truth_in log t F y f) x
truth_in log t F x (Historically I f) = always (turned F) (is_behind F I) (λ y. truth_in log t F y f) x

-- the positions, by their indices
abbrev pub positions_in : List ℤ → Frame ℕ
positions_in ps = record { points = range_with_len 0 (length ps); not_after = nat_le; instant = time_of ps }

-- truth at a position, by its index
abbrev pub truth : Logged → List ℤ → ℕ → Form → Bool
truth log t i f = truth_in log t (positions_in (positions_of t)) i f

-- a value that the formula can have: its truth at the first position of some timing that the log admits
pub record IsValue (log : Logged) (f : Form) (v : Bool) : Type 0 where
  pub timing : List ℤ
  pub admissible : Admissible log timing
  pub value : truth log timing 0 f ≡ v

-- the rows, each at its true time
abbrev pub rows_in : List ℤ → Frame ℕ
rows_in t = record { points = range_with_len 0 (length t); not_after = λ e f. int_le (time_of t e) (time_of t f); instant = time_of t }

-- truth at a row, by the rows: each row at one instant counts as a point of its own
abbrev pub truth_of : Logged → List ℤ → ℕ → Form → Bool
truth_of log t e f = truth_in log t (rows_in t) e f

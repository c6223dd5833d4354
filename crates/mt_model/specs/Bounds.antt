-- The bounds of a log, in their order.
use Rattle.std.specs.Prelude.{◌≡◌, ◌↔◌, ℕ, ◌==◌, List, [], ◌∷◌, ◌++◌, length, map, find, All, Bool, false, not, ◌&&◌, Option, None, IfSome, is_some, if◌then◌else◌, ℤ, ◌+ℤ◌, ◌-ℤ◌, int_le}
use Rattle.std.specs.List.{flat_map, list_any, range_with_len}
use Rattle.std.specs.Option.{option_map_or}
use Rattle.mt_model.specs.declared.bound.Bound.{Bound}
use Rattle.mt_model.specs.declared.bound.Bound.TheVariants as bound
use Rattle.mt_model.specs.declared.step.Step.{Step}
use Rattle.mt_model.specs.declared.step.Step.TheVariants as step
use Rattle.mt_model.specs.Log.{IsLog, Logged}
use Rattle.mt_model.specs.Timing.{Admissible, clock_of, error_of, local_of, most_delay, previous_row, send_of, time_of}
use Rattle.mt_model.specs.Walks.{Edge, Meets, edge_of, is_row, node_time}

-- a bound as a step of a walk
abbrev pub step_of : Bound → Step
step_of (bound.Low e) = step.Low e
step_of (bound.High e) = step.High e
step_of (bound.Rise e) = step.Rise e
step_of (bound.Message e) = step.Message e
step_of (bound.Late e) = step.Late e
step_of (bound.Under e) = step.Under e
step_of (bound.Over e) = step.Over e
step_of (bound.Extra k) = step.Extra k

-- row r is a receive that comes at most some time after its send
abbrev pub is_limited : Logged → ℕ → Bool
is_limited log r = is_some (send_of log r) && is_some (most_delay log r)

-- the bounds of a row
abbrev pub bounds_at : Logged → ℕ → List Bound
bounds_at log e =
    bound.Low e
    ∷ bound.High e
    ∷ []
    ++ (if is_some (previous_row log e) then bound.Rise e ∷ [] else [])
    ++ (if is_some (send_of log e) then bound.Message e ∷ [] else [])
    ++ (if is_limited log e then bound.Late e ∷ [] else [])
    ++ (if is_some (clock_of log e) then bound.Under e ∷ bound.Over e ∷ [] else [])

-- the bounds of a log: those of each row, in the order of the rows, and then the extra bounds
abbrev pub bounds_of : Logged → List Bound
bounds_of log = flat_map (bounds_at log) (range_with_len 0 (length log.rows)) ++ map bound.Extra (range_with_len 0 (length log.extras))

-- the times of the rows, and behind them the offsets of the clocks, meet each bound of the log
abbrev pub MeetsEach : Logged → List ℤ → Type 0
MeetsEach log times = All (λ b. IfSome (edge_of log (step_of b)) (Meets times)) (bounds_of log)

-- there are offsets, one per clock, with which a timing meets each bound of the log
pub record MeetsBounds (log : Logged) (t : List ℤ) : Type 0 where
  pub offsets : List ℤ
  pub count : length offsets ≡ length log.clocks
  pub each : MeetsEach log (t ++ offsets)

-- a valid log admits the lists of a time per row that meet its bounds, and no others
abbrev pub BoundsAreAdmissible : Type 0
BoundsAreAdmissible = (log : Logged) (t : List ℤ) → IsLog log → Admissible log t ↔ ((length t ≡ length log.rows) × MeetsBounds log t)

-- times meet an edge, as a test
abbrev pub meets : List ℤ → Edge → Bool
meets t x = int_le (node_time t x.from -ℤ node_time t x.to) x.bound

-- how far the true time of row e is ahead of its local time
abbrev pub shift_of : Logged → List ℤ → ℕ → ℤ
shift_of log t e = time_of t e -ℤ local_of log e

-- rows e and f read one clock
abbrev pub read_one : Logged → ℕ → ℕ → Bool
read_one log e f = option_map_or (λ k. option_map_or (λ m. k == m) (clock_of log f) false) (clock_of log e) false

-- rows e and f read one clock, and the shift of e is greater than that of f by more than both errors together
abbrev pub is_too_far_ahead : Logged → List ℤ → ℕ → ℕ → Bool
is_too_far_ahead log t e f = read_one log e f && not (int_le (shift_of log t e -ℤ shift_of log t f) (error_of log e +ℤ error_of log f))

-- the bound is between rows or the zero moment
abbrev pub IsBetweenRows : Bound → Type 0
IsBetweenRows (bound.Low e) = Unit {0}
IsBetweenRows (bound.High e) = Unit {0}
IsBetweenRows (bound.Rise e) = Unit {0}
IsBetweenRows (bound.Message e) = Unit {0}
IsBetweenRows (bound.Late e) = Unit {0}
IsBetweenRows (bound.Under e) = ⊥
IsBetweenRows (bound.Over e) = ⊥
IsBetweenRows (bound.Extra k) = Unit {0}

-- a timing breaks a bound between rows or the zero moment that the log has
abbrev pub breaks_edge : Logged → List ℤ → Bound → Bool
breaks_edge log t b = option_map_or (λ x. not (meets t x)) (edge_of log (step_of b)) false

-- a timing breaks a bound that the log has; one on a clock, where an earlier row that reads the clock can't have the same offset
abbrev pub breaks : Logged → List ℤ → Bound → Bool
breaks log t (bound.Low e) = breaks_edge log t (bound.Low e)
breaks log t (bound.High e) = breaks_edge log t (bound.High e)
breaks log t (bound.Rise e) = breaks_edge log t (bound.Rise e)
breaks log t (bound.Message e) = breaks_edge log t (bound.Message e)
breaks log t (bound.Late e) = breaks_edge log t (bound.Late e)
breaks log t (bound.Under e) = is_row log e && list_any (λ f. is_too_far_ahead log t f e) (range_with_len 0 e)
breaks log t (bound.Over e) = is_row log e && list_any (λ f. is_too_far_ahead log t e f) (range_with_len 0 e)
breaks log t (bound.Extra k) = breaks_edge log t (bound.Extra k)

-- the first of the log's bounds that a timing breaks
abbrev pub first_broken : Logged → List ℤ → Option Bound
first_broken log t = find (breaks log t) (bounds_of log)

-- a time per row breaks no bound exactly where a valid log admits the timing
abbrev pub UnbrokenIsAdmissible : Type 0
UnbrokenIsAdmissible = (log : Logged) (t : List ℤ) → IsLog log → length t ≡ length log.rows → (first_broken log t ≡ None) ↔ Admissible log t

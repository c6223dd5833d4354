-- What happens before a row is earlier than it, or at its instant and before it in the log.
use Rattle.std.proofs.Common.{◌≡◌, ℕ, ◌<◌, ◌⊎◌, inl, inr, List, length, Some, ℤ, ◌≤ℤ◌, arith}
use Rattle.std.specs.Prelude.{◌<ℤ◌}
use Rattle.std.proofs.lemmas.Int.{ints}
use Rattle.mt_model.specs.Log.{Logged, IsLog}
use Rattle.mt_model.specs.Timing.{Admissible, previous_row, send_of, time_of}
use Rattle.mt_model.specs.Before.{Before, BeforeIsNotLater, CyclesExcludeTimings, directly, through}
use Rattle.mt_model.proofs.PreviousRows.{is_last}
use Rattle.mt_model.proofs.Resyncs.{gap-least, least-delay}

-- earlier, or at the same instant and before it in the log
record IsEarlier (t : List ℤ) (e f : ℕ) : Type 0 where
  least : time_of t e ≤ℤ time_of t f
  order : (time_of t e <ℤ time_of t f) ⊎ (e < f)

earlier-through : (t : List ℤ) (e k f : ℕ) → IsEarlier t e k → IsEarlier t k f → IsEarlier t e f
earlier-through t e k f one two = record { least = let first = one.least in let second = two.least in omega (arith, ints); order = by one.order two.order }
  where
    by : (time_of t e <ℤ time_of t k) ⊎ (e < k) → (time_of t k <ℤ time_of t f) ⊎ (k < f) → (time_of t e <ℤ time_of t f) ⊎ (e < f)
    by (inl less) other = inl (let next = two.least in omega (arith, ints))
    by (inr less) (inl later) = inl (let first = one.least in omega (arith, ints))
    by (inr less) (inr later) = inr (omega arith)

module _ (log : Logged) (t : List ℤ) (valid : IsLog log) (ok : Admissible log t) where
  earlier-directly : (e f : ℕ) → f < length log.rows → (previous_row log f ≡ Some e) ⊎ (send_of log f ≡ Some e) → IsEarlier t e f
  earlier-directly e f within (inl previous) =
      let apart = ok.rise e f within previous in
      let least = gap-least log valid f in
      record { least = omega (arith, ints, apart, least); order = inr (is_last.found log e f previous).before }
  earlier-directly e f within (inr sent) =
      let later = ok.message e f within sent in
      let delay = least-delay log valid f in
      record { least = omega (arith, ints, later, delay); order = inl (omega (arith, ints, later, delay)) }

  earlier : {e f : ℕ} → Before log e f → IsEarlier t e f
  earlier (directly e f near) = earlier-directly e f near.0 near.1
  earlier (through e k f one two) = earlier-through t e k f (earlier one) (earlier two)

pub not_later : BeforeIsNotLater
not_later log e f t valid before ok = (earlier log t valid ok before).least

pub no_timing : CyclesExcludeTimings
no_timing log e t valid before ok = by (earlier log t valid ok before).order
  where
    by : (time_of t e <ℤ time_of t e) ⊎ (e < e) → ⊥
    by (inl less) = omega (arith, ints)
    by (inr less) = omega arith

-- What clocks that keep their offset say of a timing, and that they and extra bounds only exclude timings.
use Rattle.std.specs.Prelude.{◌≡◌, ◌↔◌, ℕ, zero, suc, ◌==◌, ◌<◌, List, [], length, map, Bool, false, Option, Some, None, if◌then◌else◌, slice_index_or, ℤ, pos, ◌+ℤ◌, ◌-ℤ◌, ◌≤ℤ◌, int_le}
use Rattle.std.specs.List.{range_with_len}
use Rattle.std.specs.Option.{option_map_or}
use Rattle.mt_model.specs.declared.reading.Reading.{Reading}
use Rattle.mt_model.specs.Bounds.{shift_of}
use Rattle.mt_model.specs.Log.{IsLog, Logged}
use Rattle.mt_model.specs.Timing.{Admissible, HasOffsets, clock_of, error_of, reading_of}

-- the true times of any two rows that read one clock are ahead of their local times by amounts that are apart by at most both errors
abbrev pub ClocksAgree : Logged → List ℤ → Type 0
ClocksAgree log t =
    (e f k : ℕ) → e < length log.rows → f < length log.rows → clock_of log e ≡ Some k → clock_of log f ≡ Some k
    → (shift_of log t e -ℤ shift_of log t f) ≤ℤ (error_of log e +ℤ error_of log f)

-- a timing has offsets exactly where each two rows of one clock agree
abbrev pub OffsetsByPairs : Type 0
OffsetsByPairs = (log : Logged) (t : List ℤ) → IsLog log → HasOffsets log t ↔ ClocksAgree log t

-- row e reads clock k
abbrev pub reads : Logged → ℕ → ℕ → Bool
reads log k e = option_map_or (λ m. k == m) (clock_of log e) false

-- the least offset that row e allows of the clock that it reads
abbrev pub least_offset : Logged → List ℤ → ℕ → ℤ
least_offset log t e = shift_of log t e -ℤ error_of log e

-- the greater one of a number and another, where there is another
abbrev pub greater_of : Option ℤ → ℤ → ℤ
greater_of o x = option_map_or (λ y. if int_le x y then y else x) o x

-- the greatest of the least offsets that the rows below n allow of clock k, where one of them reads it
abbrev pub greatest_below : Logged → List ℤ → ℕ → ℕ → Option ℤ
greatest_below log t k zero = None
greatest_below log t k (suc e) = if reads log k e then Some (greater_of (greatest_below log t k e) (least_offset log t e)) else greatest_below log t k e

-- the least offset of clock k that all rows allow, and 0 where no row reads it
abbrev pub offset_at : Logged → List ℤ → ℕ → ℤ
offset_at log t k = option_map_or (λ x. x) (greatest_below log t k (length log.rows)) (pos 0)

-- those of all clocks
abbrev pub offsets_of : Logged → List ℤ → List ℤ
offsets_of log t = map (offset_at log t) (range_with_len 0 (length log.clocks))

-- the log without its clocks and the readings of them
abbrev pub without_clocks : Logged → Logged
without_clocks log = record { hosts = log.hosts; rows = log.rows; resyncs = log.resyncs; clocks = []; readings = []; extras = log.extras }

-- a timing that a log admits is admitted without its clocks
abbrev pub ClocksOnlyExclude : Type 0
ClocksOnlyExclude = (log : Logged) (t : List ℤ) → Admissible log t → Admissible (without_clocks log) t

-- readings at the same places, of the same hosts and clocks, of which none has a smaller error
pub record AreCoarser (fine coarse : List Reading) : Type 0 where
  pub count : length coarse ≡ length fine
  pub place : (i : ℕ) (d : Reading) → i < length fine → (slice_index_or coarse i d).place ≡ (slice_index_or fine i d).place
  pub host : (i : ℕ) (d : Reading) → i < length fine → (slice_index_or coarse i d).host ≡ (slice_index_or fine i d).host
  pub clock : (i : ℕ) (d : Reading) → i < length fine → (slice_index_or coarse i d).clock ≡ (slice_index_or fine i d).clock
  pub error : (i : ℕ) (d : Reading) → i < length fine → (slice_index_or fine i d).error ≤ℤ (slice_index_or coarse i d).error

-- the log with other readings
abbrev pub with_readings : List Reading → Logged → Logged
with_readings readings log = record { hosts = log.hosts; rows = log.rows; resyncs = log.resyncs; clocks = log.clocks; readings = readings; extras = log.extras }

-- a timing that a log admits is admitted with any errors made greater
abbrev pub FinerClocksExcludeMore : Type 0
FinerClocksExcludeMore = (log : Logged) (coarse : List Reading) (t : List ℤ) → AreCoarser log.readings coarse → Admissible log t → Admissible (with_readings coarse log) t

-- the log without its extra bounds
abbrev pub without_extras : Logged → Logged
without_extras log = record { hosts = log.hosts; rows = log.rows; resyncs = log.resyncs; clocks = log.clocks; readings = log.readings; extras = [] }

-- a timing that a log admits is admitted without its extra bounds
abbrev pub BoundsOnlyExclude : Type 0
BoundsOnlyExclude = (log : Logged) (t : List ℤ) → Admissible log t → Admissible (without_extras log) t

-- the reading of each row, in the order of the rows
abbrev pub readings_of : Logged → List (Option Reading)
readings_of log = map (reading_of log) (range_with_len 0 (length log.rows))

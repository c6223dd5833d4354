-- The times that a file writes, a line for each row of a log.
use Rattle.std.specs.Prelude.{ℕ, ◌+◌, ◌==◌, ◌⊎◌, ◌≡◌, List, length, take, min, Option, Some, None, is_none, Result, Ok, Err, MatchResult, if◌then◌else◌, ℤ}
use Rattle.std.specs.List.{filter_map, position_from}
use Rattle.std.specs.Str.Lines.{lines}
use Rattle.mt_model.specs.declared.limits.TheConstants.{MAX_TIME}
use Rattle.decimal.specs.Numbers.{signed_up_to}
use Rattle.times_read.specs.declared.fault.TimesFault.{TimesFault}
use Rattle.times_read.specs.declared.fault.TimesFault.TheVariants as fault

-- the time that a line writes
abbrev pub time_in : List ℕ → Option ℤ
time_in line = signed_up_to MAX_TIME line

-- the number, from 1, of the first line that writes no time
abbrev pub first_bad : List (List ℕ) → Option ℕ
first_bad ls = position_from (λ line. is_none (time_in line)) 1 ls

-- the times of a file's lines, where so many are wanted: a fault is the first of those lines that writes no time, and else the first line that is missing or too many
abbrev pub times_in : ℕ → List (List ℕ) → Result (List ℤ) TimesFault
times_in count ls =
    elim (first_bad (take count ls)) [
      | Some number ↦ Err (fault.Number number)
      | None ↦ if length ls == count then Ok (filter_map time_in ls) else Err (fault.Count (min (length ls) count + 1))
    ]

-- the times that a file's bytes write. A line ends with a newline, which may be missing after the last one; one carriage return before the newline is left out, and an empty last line without a newline is no line
abbrev pub times_of : ℕ → List ℕ → Result (List ℤ) TimesFault
times_of count bytes = times_in count (lines bytes)

-- a call answered what is due, or want of memory
abbrev pub Answers : {X : Type 0} → Result X TimesFault → Result X TimesFault → Type 0
Answers result due = MatchResult result (λ x. due ≡ Ok x) (λ f. (f ≡ fault.Memory) ⊎ (due ≡ Err f))

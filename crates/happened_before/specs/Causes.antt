-- The events directly before each event, in a table, and which events wait for them.
use Rattle.std.specs.Prelude.{◌≡◌, ◌⊎◌, ℕ, ◌<◌, Bool, true, false, List, length, map, Some, None, slice_index_or}
use Rattle.std.specs.List.{range_with_len}
use Rattle.mt_model.specs.Log.{Logged}
use Rattle.mt_model.specs.Timing.{previous_row, send_of}
use Rattle.happened_before.specs.declared.causes.Causes.{Causes}

-- event e is one of the causes
abbrev pub IsAmong : Causes → ℕ → Type 0
IsAmong causes e = (causes.previous ≡ Some e) ⊎ (causes.send ≡ Some e)

-- the causes are among so many events
abbrev pub AreWithin : ℕ → Causes → Type 0
AreWithin count causes = (e : ℕ) → IsAmong causes e → e < count

-- the causes of event f, in a table of the causes of each event
abbrev pub causes_at : List Causes → ℕ → Causes
causes_at table f = slice_index_or table f (record { previous = None; send = None })

-- the causes in the table are events of the table
abbrev pub IsWhole : List Causes → Type 0
IsWhole table = (f : ℕ) → AreWithin (length table) (causes_at table f)

-- the rows directly before row f
abbrev pub causes_of_row : Logged → ℕ → Causes
causes_of_row log f = record { previous = previous_row log f; send = send_of log f }

-- the rows directly before each row of the log, in the order of the rows
abbrev pub causes_of_rows : Logged → List Causes
causes_of_rows log = map (causes_of_row log) (range_with_len 0 (length log.rows))

-- whether event e is finished
abbrev pub is_finished : List Bool → ℕ → Bool
is_finished finished e = slice_index_or finished e false

-- event e isn't finished, and all its causes are
pub record IsReady (table : List Causes) (finished : List Bool) (e : ℕ) : Type 0 where
  pub within : e < length table
  pub unfinished : is_finished finished e ≡ false
  pub causes : (d : ℕ) → IsAmong (causes_at table e) d → is_finished finished d ≡ true

-- event e waits for a cause that isn't finished
pub record Waits (table : List Causes) (finished : List Bool) (e : ℕ) : Type 0 where
  pub cause : ℕ
  pub among : IsAmong (causes_at table e) cause
  pub unfinished : is_finished finished cause ≡ false

-- each event that isn't finished waits
abbrev pub IsStuck : List Causes → List Bool → Type 0
IsStuck table finished = (e : ℕ) → e < length table → is_finished finished e ≡ false → Waits table finished e

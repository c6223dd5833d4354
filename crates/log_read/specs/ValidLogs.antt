-- Which logs and faults files can have.
use Rattle.std.specs.Prelude.{◌≡◌, ℕ, List, Err, Ok}
use Rattle.mt_model.specs.Log.{IsLog, IsPlain, Logged}
use Rattle.log_read.specs.declared.fault.LogFault.TheVariants as fault
use Rattle.log_read.specs.LogOf.{log_of}

-- the log that a file's bytes are is valid
abbrev pub LogsAreValid : Type 0
LogsAreValid = (bytes : List ℕ) (log : Logged) → log_of bytes ≡ Ok log → IsLog log

-- it has no more extra bounds, and no greater skew, than a file may state
abbrev pub LogsArePlain : Type 0
LogsArePlain = (bytes : List ℕ) (log : Logged) → log_of bytes ≡ Ok log → IsPlain log

-- want of memory is no fault of a file
abbrev pub NoFileLacksMemory : Type 0
NoFileLacksMemory = (bytes : List ℕ) → log_of bytes ≡ Err fault.Memory → ⊥

-- The statuses of the program.
use Rattle.std.specs.Prelude.{ℕ}
use Rattle.skew_answers.specs.declared.status.Status.{Status}
use Rattle.skew_answers.specs.declared.status.Status.TheVariants as status

-- the exit status
abbrev pub code_of : Status → ℕ
code_of status.Zero = 0
code_of status.One = 1
code_of status.Two = 2
code_of status.Inconsistent = 3
code_of status.Unknown = 4
code_of status.Rejected = 5
code_of status.NotAdmissible = 6
code_of status.Words = 64
code_of status.FormulaRefused = 65
code_of status.LogRefused = 66
code_of status.TooLarge = 67
code_of status.TimesRefused = 68
code_of status.EventRefused = 69
code_of status.NoMemory = 70
code_of status.ReadFailed = 74
code_of status.WriteFailed = 75

-- what a command found, which is no refusal
abbrev pub IsVerdict : Status → Type 0
IsVerdict status.Zero = Unit {0}
IsVerdict status.One = Unit {0}
IsVerdict status.Two = Unit {0}
IsVerdict status.Inconsistent = Unit {0}
IsVerdict status.Unknown = Unit {0}
IsVerdict status.Rejected = ⊥
IsVerdict status.NotAdmissible = Unit {0}
IsVerdict status.Words = ⊥
IsVerdict status.FormulaRefused = ⊥
IsVerdict status.LogRefused = ⊥
IsVerdict status.TooLarge = ⊥
IsVerdict status.TimesRefused = ⊥
IsVerdict status.EventRefused = ⊥
IsVerdict status.NoMemory = ⊥
IsVerdict status.ReadFailed = ⊥
IsVerdict status.WriteFailed = ⊥

-- a refusal of what the files hold
abbrev pub IsRefusal : Status → Type 0
IsRefusal status.Zero = ⊥
IsRefusal status.One = ⊥
IsRefusal status.Two = ⊥
IsRefusal status.Inconsistent = ⊥
IsRefusal status.Unknown = ⊥
IsRefusal status.Rejected = Unit {0}
IsRefusal status.NotAdmissible = ⊥
IsRefusal status.Words = ⊥
IsRefusal status.FormulaRefused = Unit {0}
IsRefusal status.LogRefused = Unit {0}
IsRefusal status.TooLarge = Unit {0}
IsRefusal status.TimesRefused = Unit {0}
IsRefusal status.EventRefused = Unit {0}
IsRefusal status.NoMemory = ⊥
IsRefusal status.ReadFailed = ⊥
IsRefusal status.WriteFailed = ⊥

-- an answer: neither want of memory nor a failure of a device
abbrev pub IsAnswer : Status → Type 0
IsAnswer status.Zero = Unit {0}
IsAnswer status.One = Unit {0}
IsAnswer status.Two = Unit {0}
IsAnswer status.Inconsistent = Unit {0}
IsAnswer status.Unknown = Unit {0}
IsAnswer status.Rejected = Unit {0}
IsAnswer status.NotAdmissible = Unit {0}
IsAnswer status.Words = Unit {0}
IsAnswer status.FormulaRefused = Unit {0}
IsAnswer status.LogRefused = Unit {0}
IsAnswer status.TooLarge = Unit {0}
IsAnswer status.TimesRefused = Unit {0}
IsAnswer status.EventRefused = Unit {0}
IsAnswer status.NoMemory = ⊥
IsAnswer status.ReadFailed = ⊥
IsAnswer status.WriteFailed = ⊥

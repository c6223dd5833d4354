-- The numbers of the faults of a times file.
use Rattle.std.specs.Prelude.{ℕ}
use Rattle.times_read.specs.declared.fault.TimesFault.{TimesFault}
use Rattle.times_read.specs.declared.fault.TimesFault.TheVariants as fault

-- the number of a fault; want of memory has 0
abbrev pub number_of : TimesFault → ℕ
number_of (fault.Number line) = 1
number_of (fault.Count line) = 2
number_of fault.Memory = 0

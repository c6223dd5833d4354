-- The numbers and the places of the faults of a formula's text.
use Rattle.std.specs.Prelude.{ℕ, Option, Some, None}
use Rattle.mtl_parse.specs.declared.fault.FormulaFault.{FormulaFault}
use Rattle.mtl_parse.specs.declared.fault.FormulaFault.TheVariants as fault

-- the number of a fault; want of memory has 0
abbrev pub number_of : FormulaFault → ℕ
number_of (fault.Token byte) = 1
number_of (fault.Expected byte) = 2
number_of (fault.Number byte) = 3
number_of (fault.EmptyInterval byte) = 4
number_of (fault.TooDeep byte) = 5
number_of (fault.Trailing byte) = 6
number_of (fault.Empty byte) = 7
number_of fault.Memory = 0

-- the byte of a fault, from 0; want of memory has none
abbrev pub byte_of : FormulaFault → Option ℕ
byte_of (fault.Token byte) = Some byte
byte_of (fault.Expected byte) = Some byte
byte_of (fault.Number byte) = Some byte
byte_of (fault.EmptyInterval byte) = Some byte
byte_of (fault.TooDeep byte) = Some byte
byte_of (fault.Trailing byte) = Some byte
byte_of (fault.Empty byte) = Some byte
byte_of fault.Memory = None

-- What a whole read and a whole write mean.
use Rattle.std.specs.Prelude.{◌≡◌, ℕ, ◌<◌, ◌≤◌, List, ◌++◌, length, take, Option, Some, IsSomeAnd, Result, IsErrOf}
use Rattle.mt_port.specs.Port.{Files, file_of}
use Rattle.mt_port.specs.declared.whole.ReadFault.{ReadFault}
use Rattle.mt_port.specs.declared.whole.ReadFault.TheVariants.{TooLong}

-- a file that is held, and longer than the limit
abbrev pub IsLonger : Option (List ℕ) → ℕ → Type 0
IsLonger file limit = IsSomeAnd file (λ bytes. limit < length bytes)

-- so many bytes of the file were given, and these are left
pub record GaveSoMany (file : Option (List ℕ)) (left : List ℕ) (n : ℕ) : Type 0 where
  pub given : List ℕ
  pub count : length given ≡ n
  pub split : file ≡ Some (given ++ left)

-- no more bytes of the file were given than the limit, and these are left
pub record GaveAtMost (file : Option (List ℕ)) (left : List ℕ) (limit : ℕ) : Type 0 where
  pub given : List ℕ
  pub count : length given ≤ limit
  pub split : file ≡ Some (given ++ left)

-- a file was found too long
abbrev pub IsTooLong : {X : Type 0} → Result X ReadFault → Type 0
IsTooLong result = IsErrOf result TooLong

-- no more bytes of the file of a name were given than the limit, unless it was found too long, and these are left
abbrev pub GaveWithin : {X : Type 0} → Result X ReadFault → Files → List ℕ → List ℕ → ℕ → Type 0
GaveWithin result files name left limit = ¬ IsTooLong result → GaveAtMost (file_of files name) left limit

-- a prefix of the bytes was written
pub record WrotePrefix (old now bytes : List ℕ) : Type 0 where
  pub count : ℕ
  pub within : count ≤ length bytes
  pub prefix : now ≡ old ++ take count bytes

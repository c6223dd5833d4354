-- What contracts see of the real files and of the standard output.
use Rattle.std.specs.Prelude.{◌≡◌, Bool, true, false, ℕ, List, take, Option, None, Result, Ok, Err, IsOk, IsErr}
use Rattle.std.specs.Io.KnownBytes.{Consumes}
use Rattle.std.specs.declared.io.Error.{Error}
use Rattle.mt_port.specs.declared.outside.Source.{Source}
use Rattle.mt_port.specs.declared.outside.Source.TheVariants.{Nothing, Opened, Input}
use Rattle.mt_port.specs.Calls.{ToldOfRead}

-- what is open, whether the standard input was opened before, and the counts
pub record Reached (F I : Type 0) : Type 0 where
  pub source : Source F I
  pub input_taken : Bool
  pub openings : ℕ
  pub faults : ℕ

-- what takes the bytes, and the count
pub record Written (W : Type 0) : Type 0 where
  pub output : W
  pub faults : ℕ

-- whether a file or the input is open
abbrev pub stands_open : {F I : Type 0} → Source F I → Bool
stands_open Nothing = false
stands_open (Opened f) = true
stands_open (Input i) = true

-- what a source has left, where it tells that
abbrev pub left_of : {F I : Type 0} → (F → Option (List ℕ)) → (I → Option (List ℕ)) → Source F I → Option (List ℕ)
left_of file input Nothing = None
left_of file input (Opened f) = file f
left_of file input (Input i) = input i

-- n bytes at the front of a buffer are the next ones that a source had left
abbrev pub GivesNext : {F I : Type 0} → (F → Option (List ℕ)) → (I → Option (List ℕ)) → Source F I → Source F I → List ℕ → ℕ → Type 0
GivesNext file input old new filled n = Consumes (left_of file input old) (left_of file input new) (take n filled)

-- the standard input is open
abbrev pub IsInput : {F I : Type 0} → (I → Type 0) → Source F I → Type 0
IsInput Is Nothing = ⊥
IsInput Is (Opened f) = ⊥
IsInput Is (Input i) = Is i

-- a file that the system opened is open, and where it opened none nothing is
abbrev pub TellsOpening : {F I X E : Type 0} → Result F Error → Source F I → Result X E → Type 0
TellsOpening (Ok f) source told = (source ≡ Opened f) × IsOk told
TellsOpening (Err e) source told = (source ≡ Nothing) × IsErr told

-- what the system answered to an opening is told
pub record IsOpened {F I X E : Type 0} (Opens : Result F Error → Type 0) (source : Source F I) (told : Result X E) : Type 0 where
  pub answer : Result F Error
  pub called : Opens answer
  pub tells : TellsOpening answer source told

-- what is told of reads of what is open
abbrev pub ToldOfOpen : {F I X : Type 0} → (F → List ℕ → Result ℕ Error → F → List ℕ → Type 0) → (I → List ℕ → Result ℕ Error → I → List ℕ → Type 0)
    → Source F I → List ℕ → Source F I → List ℕ → Result ℕ X → Type 0
ToldOfOpen file input (Opened f) old (Opened g) new told = ToldOfRead file f old g new told
ToldOfOpen file input (Input i) old (Input j) new told = ToldOfRead input i old j new told
ToldOfOpen file input _ old _ new told = ⊥

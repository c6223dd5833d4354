-- What is told of the calls that the program makes of the system: one that a signal broke off is made again, and what the last one answered is told.
use Rattle.std.specs.Prelude.{◌≡◌, ℕ, zero, suc, ◌+◌, ◌<◌, nat_lt, ◌==◌, ◌||◌, List, length, Result, Ok, Err, IsErr, IsErrAnd}
use Rattle.std.specs.Bool.{MatchBool}
use Rattle.std.specs.IoError.{error_kind}
use Rattle.std.specs.declared.io.Error.{Error}
use Rattle.std.specs.declared.io.ErrorKind.TheVariants.{Interrupted}
use Rattle.mt_port.specs.declared.outside.TheConstants.{TRIES}

-- the call was broken off by a signal
abbrev pub IsBrokenOff : Result ℕ Error → Type 0
IsBrokenOff answer = IsErrAnd answer (λ e. error_kind e ≡ Interrupted)

-- a call that leads from here to there, and was broken off
pub record BreaksOff {D : Type 0} (Comes : D → Result ℕ Error → D → Type 0) (from to : D) : Type 0 where
  pub answer : Result ℕ Error
  pub called : Comes from answer to
  pub broken : IsBrokenOff answer

-- so many calls, one after the other, all broken off
abbrev pub BreakOff : {D : Type 0} → (D → Result ℕ Error → D → Type 0) → ℕ → D → D → Type 0
BreakOff Comes zero from to = to ≡ from
BreakOff {D} Comes (suc n) from to = (mid : D) × BreakOff Comes n from mid × BreaksOff Comes mid to

-- what is told is the answer of one call, before which fewer than so many were made, all broken off; that it was broken off
-- itself is told only where no more may be made
pub record IsTold {D T : Type 0} (Comes : D → Result ℕ Error → D → Type 0) (tries : ℕ) (Tells : Result ℕ Error → T → Type 0) (from to : D) (told : T) : Type 0 where
  pub before : ℕ
  pub within : before < tries
  pub last : D
  pub broken : BreakOff Comes before from last
  pub answer : Result ℕ Error
  pub called : Comes last answer to
  pub given_up : IsBrokenOff answer → before + 1 ≡ tries
  pub tells : Tells answer told

-- a count is told as it is, and an error as a failure
abbrev pub TellsCount : {F : Type 0} → Result ℕ Error → Result ℕ F → Type 0
TellsCount (Ok n) told = told ≡ Ok n
TellsCount (Err e) told = IsErr told

-- a count of bytes that were taken of so many is told as it is, and as a failure where nothing was taken of some; an error is a failure
abbrev pub TellsTaken : {F : Type 0} → ℕ → Result ℕ Error → Result ℕ F → Type 0
TellsTaken size (Ok n) told = MatchBool (nat_lt 0 n || (size == 0)) (told ≡ Ok n) (IsErr told)
TellsTaken size (Err e) told = IsErr told

-- a read, with the buffer that it is given and leaves, as a call that leads from here to there
abbrev pub Reading : {R : Type 0} → (R → List ℕ → Result ℕ Error → R → List ℕ → Type 0) → R × List ℕ → Result ℕ Error → R × List ℕ → Type 0
Reading reads from answer to = reads from.0 from.1 answer to.0 to.1

-- what is told of reads into a buffer
abbrev pub ToldOfRead : {R F : Type 0} → (R → List ℕ → Result ℕ Error → R → List ℕ → Type 0) → R → List ℕ → R → List ℕ → Result ℕ F → Type 0
ToldOfRead reads from old to new told = IsTold (Reading reads) TRIES TellsCount (from, old) (to, new) told

-- what is told of writes of a piece
abbrev pub ToldOfWrite : {W F : Type 0} → (W → List ℕ → Result ℕ Error → W → Type 0) → List ℕ → W → W → Result ℕ F → Type 0
ToldOfWrite writes piece from to told = IsTold (λ a answer b. writes a piece answer b) TRIES (TellsTaken (length piece)) from to told

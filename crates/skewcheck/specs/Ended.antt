-- How the program ends: by the exit status of an answer.
use Rattle.std.specs.Prelude.{◌≡◌, ◌⊎◌, ℕ, Bool, true, List, Result, IfOk, String, drop, map, string_bytes}
use Rattle.std.specs.Vec.Iter.{into_iter_items}
use Rattle.std.specs.declared.alloc.Global.{Global}
use Rattle.std.specs.declared.vec.IntoIter.{IntoIter}
use Rattle.mt_port.specs.Port.{Files, Openings}
use Rattle.skew_answers.specs.declared.status.Status.{Status}
use Rattle.skew_answers.specs.declared.status.Status.TheVariants as status
use Rattle.skew_answers.specs.Statuses.{code_of}
use Rattle.skew_commands.specs.Reads.{Agree}
use Rattle.skew_cli.specs.Outcome.{Ends, OpensNamedInTurn, Outcome}

-- the words: the arguments behind the first, which is the program's name
abbrev pub words_in : IntoIter (String Global) Global → List (List ℕ)
words_in arguments = map string_bytes (drop 1 (into_iter_items arguments))

-- the exit status is that of an answer of which this holds
abbrev pub EndsBy : (Status → Type 0) → ℕ → Type 0
EndsBy Holds exit = (s : Status) × (exit ≡ code_of s) × Holds s

-- where a sink tells its bytes, and the system gave arguments: the exit status is that of a call on their words that is to write what
-- is due of them, whatever files agree with those that are held
abbrev pub ExitsFor : {K E : Type 0} → Result (IntoIter (String Global) Global) E → Files → (K → Bool) → (K → List ℕ) → K → K → ℕ → Type 0
ExitsFor given held tells bytes old now exit =
    tells old ≡ true → IfOk given (λ arguments. (files : Files) → Agree held files → EndsBy (Ends (Outcome (words_in arguments) files) (bytes old) (bytes now)) exit)

-- the exit status is one with which nothing is written: there are no words, or no memory, or a read failed
abbrev pub IsSilent : ℕ → Type 0
IsSilent exit = (exit ≡ 71) ⊎ (exit ≡ code_of status.NoMemory) ⊎ (exit ≡ code_of status.ReadFailed)

-- each file that the command of the words among given arguments opens comes after the tests of those before it
abbrev pub OpensGivenInTurn : {E : Type 0} → Result (IntoIter (String Global) Global) E → Files → Openings → Openings → Type 0
OpensGivenInTurn given files before now = IfOk given (λ arguments. OpensNamedInTurn (words_in arguments) files before now)

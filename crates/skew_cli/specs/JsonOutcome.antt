-- What `json` answers.
use Rattle.std.specs.Prelude.{◌≡◌, ℕ, List, MatchResult, Result, Ok, Err}
use Rattle.mt_model.specs.Log.{Logged}
use Rattle.mt_port.specs.Port.{Files}
use Rattle.log_read.specs.LogOf.{log_of}
use Rattle.log_read.specs.LogText.{log_text}
use Rattle.json_log.specs.declared.fault.JsonFault.{JsonFault}
use Rattle.json_log.specs.declared.fault.JsonFault.TheVariants as fault
use Rattle.json_log.specs.JsonLogOf.{json_log_of}
use Rattle.skew_answers.specs.declared.status.Status.{Status}
use Rattle.skew_answers.specs.declared.status.Status.TheVariants as status
use Rattle.skew_words.specs.Words.{Word}
use Rattle.skew_commands.specs.declared.refusal.Named.TheVariants as named
use Rattle.skew_commands.specs.declared.refusal.Refusal.{Refusal}
use Rattle.skew_commands.specs.declared.refusal.Refusal.TheVariants as refusal
use Rattle.skew_commands.specs.Refusals.{Refuses}
use Rattle.skew_commands.specs.Tests.{OnFile}
use Rattle.skew_cli.specs.declared.limits.TheConstants.{JSON_LIMIT}

-- the text of the log, which reads back as the log
pub record Converted (log : Logged) (out : List ℕ) (s : Status) : Type 0 where
  pub written : out ≡ log_text log
  pub reads_back : log_of out ≡ Ok log
  pub zero : s ≡ status.Zero

-- the refusal of a fault of a JSON file
abbrev pub RefusesJson : JsonFault → List ℕ → Status → Type 0
RefusesJson fault.Syntax = Refuses refusal.JsonSyntax
RefusesJson fault.Shape = Refuses refusal.JsonShape
RefusesJson (fault.Log f) = Refuses (refusal.Log f)
RefusesJson fault.Memory = λ out s. ⊥

-- a JSON file: refused at its fault
abbrev pub OnJson : List ℕ → (Logged → List ℕ → Status → Type 0) → List ℕ → Status → Type 0
OnJson file next out s = MatchResult (json_log_of file) (λ log. next log out s) (λ f. RefusesJson f out s)

-- what `json` gives
abbrev pub JsonOutcome : Files → Word → List ℕ → Status → Type 0
JsonOutcome files name = OnFile files name JSON_LIMIT named.Json (λ file. OnJson file Converted)

-- the refusal tells the fault that a JSON file has
abbrev pub TellsJsonFault : Result Logged JsonFault → Refusal → Type 0
TellsJsonFault (Ok log) r = ⊥
TellsJsonFault (Err fault.Syntax) r = r ≡ refusal.JsonSyntax
TellsJsonFault (Err fault.Shape) r = r ≡ refusal.JsonShape
TellsJsonFault (Err (fault.Log f)) r = r ≡ refusal.Log f
TellsJsonFault (Err fault.Memory) r = ⊥

-- What it means that the work of a command ended early, and that it ended.
use Rattle.std.specs.Prelude.{◌≡◌, ℕ, Bool, true, List, Option, Some, Result, Ok, Err, IsErrOf, ℤ}
use Rattle.mt_model.specs.Log.{Logged}
use Rattle.log_read.specs.declared.fault.LogFault.{LogFault}
use Rattle.mt_model.specs.Form.{Form}
use Rattle.mt_port.specs.Whole.{IsLonger}
use Rattle.mtl_parse.specs.declared.fault.FormulaFault.{FormulaFault}
use Rattle.mtl_parse.specs.FormulaOf.{FormulaOf}
use Rattle.mtl_parse.specs.Places.{host_byte}
use Rattle.times_read.specs.declared.fault.TimesFault.{TimesFault}
use Rattle.times_read.specs.declared.fault.TimesFault.TheVariants as times
use Rattle.skew_answers.specs.declared.status.Status.{Status}
use Rattle.skew_answers.specs.Texts.{line}
use Rattle.skew_commands.specs.declared.refusal.Named.{Named}
use Rattle.skew_commands.specs.declared.refusal.Refusal.{Refusal}
use Rattle.skew_commands.specs.declared.refusal.Refusal.TheVariants as refusal
use Rattle.skew_commands.specs.declared.reply.Reply.{Reply}
use Rattle.skew_commands.specs.declared.reply.Stop.{Stop}
use Rattle.skew_commands.specs.declared.reply.Stop.TheVariants as stop
use Rattle.skew_commands.specs.Refusals.{status_of, text_of}

-- a stop is a refusal only for a reason
abbrev pub HasReason : Stop → (Refusal → Type 0) → Type 0
HasReason (stop.Refused r) Reason = Reason r
HasReason stop.NoMemory Reason = Unit {0}
HasReason stop.ReadFailed Reason = Unit {0}

-- a step refuses only for a reason
abbrev pub RefusesFor : {X : Type 0} → Result X Stop → (Refusal → Type 0) → Type 0
RefusesFor (Ok x) Reason = Unit {0}
RefusesFor (Err s) Reason = HasReason s Reason

-- where no read fails from here on, and the files are told and those that are read are held, a step never ends with a failed read
abbrev pub NeverFailsToRead : {X : Type 0} → Type 0 → Bool → Type 0 → Result X Stop → Type 0
NeverFailsToRead Steady tells Held result = Steady → tells ≡ true → Held → IsErrOf result stop.ReadFailed → ⊥

-- the refusal tells that a file, where it is told, is longer than its limit
abbrev pub TellsLength : Named → Bool → Option (List ℕ) → ℕ → Refusal → Type 0
TellsLength named tells file limit r = (r ≡ refusal.Length named) × (tells ≡ true → IsLonger file limit)

-- the work of a command gave what is due, in a reply or in a refusal
abbrev pub Gives : (List ℕ → Status → Type 0) → Result Reply Stop → Type 0
Gives Due (Ok reply) = Due reply.text.items reply.status
Gives Due (Err s) = HasReason s (λ r. Due (line (text_of r)) (status_of r))

-- the refusal tells the fault that a log file has
abbrev pub TellsLogFault : Result Logged LogFault → Refusal → Type 0
TellsLogFault (Ok log) r = ⊥
TellsLogFault (Err fault) r = r ≡ refusal.Log fault

-- the refusal tells the fault that a formula's text has
pub record TellsFormulaFault (text : List ℕ) (r : Refusal) : Type 0 where
  pub fault : FormulaFault
  pub found : FormulaOf text (Err fault)
  pub told : r ≡ refusal.Formula fault

-- the refusal tells the byte of the host of the proposition of a number
pub record NamesHost (text : List ℕ) (number : Option ℕ) (r : Refusal) : Type 0 where
  pub index : ℕ
  pub unknown : number ≡ Some index
  pub byte : ℕ
  pub place : host_byte text index ≡ Some byte
  pub told : r ≡ refusal.UnknownHost byte

-- the refusal tells the fault that a times file has
abbrev pub TellsTimesFault : Result (List ℤ) TimesFault → Refusal → Type 0
TellsTimesFault (Ok t) r = ⊥
TellsTimesFault (Err (times.Number number)) r = r ≡ refusal.TimesNumber number
TellsTimesFault (Err (times.Count number)) r = r ≡ refusal.TimesCount number
TellsTimesFault (Err times.Memory) r = ⊥

-- nothing is answered but a refusal
abbrev pub NoAnswer : List ℕ → Form → Logged → List ℕ → Status → Type 0
NoAnswer text f log out s = ⊥

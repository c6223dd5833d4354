-- What is known of the bytes that were read where the shelf tells nothing of its files.
use Rattle.std.specs.Prelude.{◌≡◌, ◌≤◌, ℕ, List, length, Some, Result, Ok}
use Rattle.mt_model.specs.Form.{Form}
use Rattle.mt_model.specs.Log.{Logged}
use Rattle.mt_port.specs.Port.{Files, file_of}
use Rattle.log_read.specs.LogOf.{log_of}
use Rattle.mtl_parse.specs.FormulaOf.{FormulaOf}
use Rattle.skew_answers.specs.declared.status.Status.{Status}
use Rattle.skew_answers.specs.Texts.{line}
use Rattle.skew_words.specs.Words.{Word}
use Rattle.skew_commands.specs.declared.limits.TheConstants.{FORMULA_LIMIT, LOG_LIMIT}
use Rattle.skew_commands.specs.declared.refusal.Refusal.{Refusal}
use Rattle.skew_commands.specs.declared.reply.Reply.{Reply}
use Rattle.skew_commands.specs.declared.reply.Stop.{Stop}
use Rattle.skew_commands.specs.Possible.{OfSomeQuestion}
use Rattle.skew_commands.specs.Refusals.{status_of, text_of}
use Rattle.skew_commands.specs.Stops.{Gives, NoAnswer}
use Rattle.skew_commands.specs.Tests.{OnQuestion}

-- a text within its limit is the formula, and some file within its limit is the log
pub record AreRead (text : List ℕ) (f : Form) (l : Logged) : Type 0 where
  pub text_within : length text ≤ FORMULA_LIMIT
  pub formula_read : FormulaOf text (Ok f)
  pub file : List ℕ
  pub file_within : length file ≤ LOG_LIMIT
  pub log_read : log_of file ≡ Ok l

-- a formula and a log are refused so, whatever comes after them
abbrev pub RefusesQuestion : Files → Word → Word → Refusal → Type 0
RefusesQuestion files formula log r = OnQuestion files formula log NoAnswer (line (text_of r)) (status_of r)

-- some formula and log are refused so, whatever comes after them
abbrev pub RefusesSomeQuestion : Refusal → Type 0
RefusesSomeQuestion r = OfSomeQuestion (λ files formula log. OnQuestion files formula log NoAnswer) (line (text_of r)) (status_of r)

-- some bytes have this given for them, whatever files hold them and under whatever name
pub record GivesForSome (Due : Files → Word → List ℕ → Status → Type 0) (result : Result Reply Stop) : Type 0 where
  pub bytes : List ℕ
  pub given : (files : Files) (name : Word) → file_of files name ≡ Some bytes → Gives (Due files name) result

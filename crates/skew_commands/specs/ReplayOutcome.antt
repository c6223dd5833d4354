-- What `replay` answers.
use Rattle.std.specs.Prelude.{◌≡◌, ◌⊎◌, ◌++◌, ℕ, Bool, true, false, List, codes, Some, ℤ}
use Rattle.mt_model.specs.declared.bound.Bound.{Bound}
use Rattle.mt_model.specs.Bounds.{first_broken, step_of}
use Rattle.formula_arena.specs.Cores.{core_of}
use Rattle.mt_model.specs.Form.{Form, form_of}
use Rattle.mt_model.specs.Log.{Logged}
use Rattle.mt_model.specs.Texts.{step_text}
use Rattle.mt_model.specs.Timing.{Admissible}
use Rattle.mt_model.specs.Truth.{truth}
use Rattle.mt_port.specs.Port.{Files}
use Rattle.skew_answers.specs.declared.status.Status.{Status}
use Rattle.skew_answers.specs.declared.status.Status.TheVariants as status
use Rattle.skew_answers.specs.Texts.{line}
use Rattle.skew_words.specs.Words.{Word}
use Rattle.skew_commands.specs.declared.formula_and_log.Question.{Question}
use Rattle.skew_commands.specs.declared.limits.TheConstants.{TIMES_LIMIT}
use Rattle.skew_commands.specs.declared.refusal.Named.TheVariants as named
use Rattle.skew_commands.specs.Tests.{OnFile, OnHosts, OnNodes, OnQuestion, OnTimes}

-- the word of a truth value
abbrev pub value_text : Bool → List ℕ
value_text true = codes "true"
value_text false = codes "false"

-- and its status
abbrev pub value_status : Bool → Status
value_status true = status.Zero
value_status false = status.One

-- the timing is admissible, and the answer is the truth of the formula at its first position
pub record Valued (log : Logged) (f : Form) (t : List ℤ) (out : List ℕ) (s : Status) : Type 0 where
  pub admissible : Admissible log t
  pub written : out ≡ line (value_text (truth log t 0 f))
  pub value : s ≡ value_status (truth log t 0 f)

-- the timing is not admissible, and the answer is the first bound that it breaks
pub record Broken (log : Logged) (t : List ℤ) (out : List ℕ) (s : Status) : Type 0 where
  pub bound : Bound
  pub first : first_broken log t ≡ Some bound
  pub excluded : Admissible log t → ⊥
  pub written : out ≡ line (codes "not admissible " ++ step_text (step_of bound))
  pub refused : s ≡ status.NotAdmissible

-- with the times read: the truth where they are admissible, and else the first bound that they break
abbrev pub ReplayOfTimes : Logged → Form → List ℤ → List ℕ → Status → Type 0
ReplayOfTimes log f t out s = Valued log f t out s ⊎ Broken log t out s

-- this holds of each formula of a core
abbrev pub OfCore : Form → (Form → Type 0) → Type 0
OfCore core Holds = (f : Form) → core_of f ≡ core → Holds f

-- with the formula and the log read and tested: the file of times
abbrev pub ReplayOfFile : Files → Word → Logged → Form → List ℕ → Status → Type 0
ReplayOfFile files times log f = OnFile files times TIMES_LIMIT named.Times (λ file. OnTimes file log (ReplayOfTimes log f))

-- with the formula and the log read: the formula's hosts and its nodes, and then the file of times
abbrev pub ReplayOfLog : Files → Word → List ℕ → Form → Logged → List ℕ → Status → Type 0
ReplayOfLog files times text f log = OnHosts text f log (OnNodes f (ReplayOfFile files times log f))

-- with the question read
abbrev pub ReplayOfQuestion : Files → Word → Question → List ℕ → Status → Type 0
ReplayOfQuestion files times q = ReplayOfLog files times q.text.items (form_of q.formula) q.log

-- what `replay` gives
abbrev pub ReplayOutcome : Files → Word → Word → Word → List ℕ → Status → Type 0
ReplayOutcome files formula log times = OnQuestion files formula log (ReplayOfLog files times)

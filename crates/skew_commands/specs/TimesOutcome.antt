-- What `times` answers.
use Rattle.std.specs.Prelude.{◌≡◌, ◌⊎◌, ℕ, List, ℤ}
use Rattle.mt_model.specs.declared.step.Step.{Step}
use Rattle.mt_model.specs.Log.{Logged}
use Rattle.mt_model.specs.Timing.{Admissible}
use Rattle.mt_port.specs.Port.{Files}
use Rattle.skew_bounds.specs.Consistency.{IsConflict}
use Rattle.skew_answers.specs.declared.status.Status.{Status}
use Rattle.skew_answers.specs.declared.status.Status.TheVariants as status
use Rattle.skew_answers.specs.Texts.{inconsistent_text, times_text}
use Rattle.skew_words.specs.Words.{Word}
use Rattle.skew_commands.specs.declared.limits.TheConstants.{LOG_LIMIT}
use Rattle.skew_commands.specs.declared.refusal.Named.TheVariants as named
use Rattle.skew_commands.specs.Tests.{OnFile, OnLog}

-- an admissible timing of the log
pub record Timed (log : Logged) (out : List ℕ) (s : Status) : Type 0 where
  pub timing : List ℤ
  pub admissible : Admissible log timing
  pub written : out ≡ times_text timing
  pub zero : s ≡ status.Zero

-- bounds of the log in conflict, so that it admits no timing
pub record Impossible (log : Logged) (out : List ℕ) (s : Status) : Type 0 where
  pub steps : List Step
  pub conflict : IsConflict log steps
  pub none : (t : List ℤ) → Admissible log t → ⊥
  pub written : out ≡ inconsistent_text steps
  pub inconsistent : s ≡ status.Inconsistent

-- a timing, or why there is none
abbrev pub TimesOfLog : Logged → List ℕ → Status → Type 0
TimesOfLog log out s = Timed log out s ⊎ Impossible log out s

-- what `times` gives
abbrev pub TimesOutcome : Files → Word → List ℕ → Status → Type 0
TimesOutcome files log = OnFile files log LOG_LIMIT named.Log (λ file. OnLog file TimesOfLog)

-- What `order` answers.
use Rattle.std.specs.Prelude.{◌≡◌, ◌⊎◌, ℕ, ◌<◌, List, [], length, slice_index_or}
use Rattle.mt_model.specs.Log.{Logged}
use Rattle.mt_port.specs.Port.{Files}
use Rattle.happened_before.specs.Order.{IsAcyclic, IsClock, IsCycle, IsCyclic}
use Rattle.skew_answers.specs.declared.status.Status.{Status}
use Rattle.skew_answers.specs.declared.status.Status.TheVariants as status
use Rattle.skew_answers.specs.Texts.{clocks_text, cycle_text}
use Rattle.skew_words.specs.Words.{Word}
use Rattle.skew_commands.specs.declared.limits.TheConstants.{LOG_LIMIT}
use Rattle.skew_commands.specs.declared.refusal.Named.TheVariants as named
use Rattle.skew_commands.specs.Tests.{OnFile, OnLog}

-- no event happens before itself, and the answer is the clock of each
pub record Clocked (log : Logged) (out : List ℕ) (s : Status) : Type 0 where
  pub acyclic : IsAcyclic log
  pub clocks : List (List ℕ)
  pub count : length clocks ≡ length log.rows
  pub each : (e : ℕ) → e < length log.rows → IsClock log e (slice_index_or clocks e [])
  pub written : out ≡ clocks_text clocks
  pub zero : s ≡ status.Zero

-- some event happens before itself, and the answer is events each of which is directly before the next, and the last before the first
pub record Cyclic (log : Logged) (out : List ℕ) (s : Status) : Type 0 where
  pub cyclic : IsCyclic log
  pub events : List ℕ
  pub cycle : IsCycle log events
  pub written : out ≡ cycle_text events
  pub inconsistent : s ≡ status.Inconsistent

-- clocks, or why there are none
abbrev pub OrderOfLog : Logged → List ℕ → Status → Type 0
OrderOfLog log out s = Clocked log out s ⊎ Cyclic log out s

-- what `order` gives
abbrev pub OrderOutcome : Files → Word → List ℕ → Status → Type 0
OrderOutcome files log = OnFile files log LOG_LIMIT named.Log (λ file. OnLog file OrderOfLog)

-- The test of two events that a command names.
use Rattle.std.specs.Prelude.{◌≡◌, ℕ, List, length, nat_lt, Option, Some, None, MatchOption, if◌then◌else◌}
use Rattle.mt_model.specs.Log.{Logged}
use Rattle.skew_answers.specs.declared.status.Status.{Status}
use Rattle.skew_commands.specs.declared.refusal.Refusal.{Refusal}
use Rattle.skew_commands.specs.declared.refusal.Refusal.TheVariants as refusal
use Rattle.skew_commands.specs.Refusals.{Refuses}

-- the first of two events that is not a row of the log
abbrev pub missing_event : Logged → ℕ → ℕ → Option ℕ
missing_event log e to = if nat_lt e (length log.rows) then (if nat_lt to (length log.rows) then None else Some to) else Some e

-- two events: refused at the first one that is not a row of the log
abbrev pub OnEvents : ℕ → ℕ → Logged → (List ℕ → Status → Type 0) → List ℕ → Status → Type 0
OnEvents e to log next out s = MatchOption (missing_event log e to) (next out s) (λ event. Refuses (refusal.Event event) out s)

-- the refusal tells the first of two events that is not a row of the log
pub record TellsEvent (e to : ℕ) (log : Logged) (r : Refusal) : Type 0 where
  pub event : ℕ
  pub missing : missing_event log e to ≡ Some event
  pub told : r ≡ refusal.Event event

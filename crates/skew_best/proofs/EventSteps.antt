-- From what was found of two events to what is asked for, and back.
use Rattle.std.proofs.Common.{◌≡◌, refl, ℕ, ◌≤◌, List, length, Option, Some, None, arith, inl, inr}
use Rattle.std.specs.Prelude.{MatchOption}
use Rattle.mt_model.specs.Form.{Form}
use Rattle.mt_model.specs.Log.{Logged}
use Rattle.formula_arena.specs.Nodes.{nodes_of}
use Rattle.formula_arena.specs.declared.arena.TheConstants.{MAX_NODES}
use Rattle.skew_answers.specs.declared.status.Status.{Status}
use Rattle.skew_answers.specs.Statuses.{IsVerdict}
use Rattle.skew_answers.specs.Texts.{line}
use Rattle.skew_commands.specs.declared.refusal.Refusal.{Refusal}
use Rattle.skew_commands.specs.declared.refusal.Refusal.TheVariants as refusal
use Rattle.skew_commands.specs.Refusals.{Refuses, status_of, text_of}
use Rattle.skew_commands.proofs.Steps.{At}
use Rattle.skew_best.specs.EventTests.{OnEvents, TellsEvent, missing_event}
use Rattle.skew_best.specs.SizeTests.{OnSize, TellsLarge}
use Rattle.skew_best.proofs.Reaching.{refuses-no_verdict}
use Rattle.skew_best.proofs.SizeSteps.{size-refused}

module _ (e to : ℕ) (log : Logged) (next : List ℕ → Status → Type 0) where
  pub events-refused : (r : Refusal) → TellsEvent e to log r → At (OnEvents e to log next) r
  events-refused r h = rw (h.missing, h.told) (refl, refl)

  pub events-known : (out : List ℕ) (s : Status) → missing_event log e to ≡ None → next out s → OnEvents e to log next out s
  events-known out s none h = rw none h

  pub pass-events : (out : List ℕ) (s : Status) → missing_event log e to ≡ None → OnEvents e to log next out s → next out s
  pass-events out s none h = rw none at h

  pub reach-events : (out : List ℕ) (s : Status) → IsVerdict s → OnEvents e to log next out s → (missing_event log e to ≡ None) × next out s
  reach-events out s verdict h = go (missing_event log e to) refl h
    where
      go : (event : Option ℕ) → missing_event log e to ≡ event → MatchOption event (next out s) (λ event. Refuses (refusal.Event event) out s) → (missing_event log e to ≡ None) × next out s
      go None is h = (is, h)
      go (Some event) is h = absurd (refuses-no_verdict (refusal.Event event) out s verdict h)

-- a problem that is too large, where the formula's nodes are few and the events are known
pub large-after_events : (e to : ℕ) (f : Form) (log : Logged) (next : List ℕ → Status → Type 0) → length (nodes_of f) ≤ MAX_NODES → missing_event log e to ≡ None → (r : Refusal) → TellsLarge f log r
    → At (OnEvents e to log (OnSize f log next)) r
large-after_events e to f log next few none r (inl h) = let many = h.1 in absurd (omega (arith, few, many))
large-after_events e to f log next few none r (inr (less, large)) =
    let (n, told, is) = large in
    events-known e to log (OnSize f log next) (line (text_of r)) (status_of r) none (size-refused f log next r n told is)

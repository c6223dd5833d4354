-- The test of the size of a problem, which commands make after those of a formula and a log.
use Rattle.std.specs.Prelude.{◌≡◌, ◌⊎◌, ◌<◌, ◌≤◌, ℕ, List, length}
use Rattle.mt_model.specs.Form.{Form}
use Rattle.mt_model.specs.Log.{Logged}
use Rattle.formula_arena.specs.Nodes.{nodes_of}
use Rattle.formula_arena.specs.declared.arena.TheConstants.{MAX_NODES}
use Rattle.question.specs.Size.{IsSize, IsSmall}
use Rattle.question.specs.declared.size.TheConstants.{MAX_SIZE}
use Rattle.skew_answers.specs.declared.status.Status.{Status}
use Rattle.skew_commands.specs.declared.refusal.Refusal.{Refusal}
use Rattle.skew_commands.specs.declared.refusal.Refusal.TheVariants as refusal
use Rattle.skew_commands.specs.Refusals.{Refuses}

-- a number is the size of the problem of a formula and a log, and is above the limit
pub record IsLarge (f : Form) (log : Logged) (n : ℕ) : Type 0 where
  pub size : IsSize log (nodes_of f) n
  pub large : MAX_SIZE < n

-- the size of the problem of a formula and a log: refused where it is above the limit
abbrev pub OnSize : Form → Logged → (List ℕ → Status → Type 0) → List ℕ → Status → Type 0
OnSize f log next out s = ((n : ℕ) × IsLarge f log n × Refuses (refusal.Size n) out s) ⊎ (IsSmall log (nodes_of f) × next out s)

-- the refusal tells that a formula has too many nodes, or, where they are few, that the size of its problem is too large
abbrev pub TellsLarge : Form → Logged → Refusal → Type 0
TellsLarge f log r =
    ((r ≡ refusal.Nodes) × (MAX_NODES < length (nodes_of f)))
    ⊎ ((length (nodes_of f) ≤ MAX_NODES) × ((n : ℕ) × (r ≡ refusal.Size n) × IsLarge f log n))

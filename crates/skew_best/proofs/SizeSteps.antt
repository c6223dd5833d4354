-- From what was found of a size to what is asked for.
use Rattle.std.proofs.Common.{◌≡◌, refl, ℕ, List, inl, inr}
use Rattle.mt_model.specs.Form.{Form}
use Rattle.mt_model.specs.Log.{Logged}
use Rattle.formula_arena.specs.Nodes.{nodes_of}
use Rattle.question.specs.Size.{IsSmall}
use Rattle.skew_answers.specs.declared.status.Status.{Status}
use Rattle.skew_answers.specs.Texts.{line}
use Rattle.skew_commands.specs.declared.refusal.Refusal.{Refusal}
use Rattle.skew_commands.specs.declared.refusal.Refusal.TheVariants as refusal
use Rattle.skew_commands.specs.Refusals.{status_of, text_of}
use Rattle.skew_commands.specs.Tests.{OnNodes}
use Rattle.skew_commands.proofs.Steps.{At, nodes-few, nodes-refused}
use Rattle.skew_best.specs.SizeTests.{IsLarge, OnSize, TellsLarge}

module _ (f : Form) (log : Logged) (next : List ℕ → Status → Type 0) where
  pub size-refused : (r : Refusal) (n : ℕ) → r ≡ refusal.Size n → IsLarge f log n → At (OnSize f log next) r
  size-refused r n told large = inl (n, large, rw told (refl, refl))

  pub size-small : (out : List ℕ) (s : Status) → IsSmall log (nodes_of f) → next out s → OnSize f log next out s
  size-small out s small h = inr (small, h)

  pub large-refused : (r : Refusal) → TellsLarge f log r → At (OnNodes f (OnSize f log next)) r
  large-refused r (inl h) = nodes-refused f (OnSize f log next) r h
  large-refused r (inr (few, large)) = let (n, told, is) = large in nodes-few f (OnSize f log next) (line (text_of r)) (status_of r) few (size-refused r n told is)

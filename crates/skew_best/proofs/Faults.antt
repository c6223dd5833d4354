-- What a fault comes to, where the formula's hosts are in the log.
use Rattle.std.proofs.Common.{refl, ℕ, inl, inr}
use Rattle.mt_model.specs.Form.{Form}
use Rattle.mt_model.specs.Log.{Logged}
use Rattle.question.specs.Faults.{HasTooManyNodes, IsTooLarge}
use Rattle.least_skew.specs.Least.{wide}
use Rattle.skew_commands.specs.declared.refusal.Refusal.TheVariants as refusal
use Rattle.skew_best.specs.SizeTests.{TellsLarge}

module _ (log : Logged) (f : Form) (max : ℕ) where
  pub many-told : HasTooManyNodes (wide max log) f → TellsLarge f (wide max log) refusal.Nodes
  many-told h = inl (refl, h.many)

  pub large-told : (n : ℕ) → IsTooLarge (wide max log) f n → TellsLarge f (wide max log) (refusal.Size n)
  large-told n h = inr (h.nodes.few, (n, refl, record { size = h.size; large = h.large }))

module _ (log : Logged) (f : Form) where
  pub many-spanned : HasTooManyNodes log f → TellsLarge f log refusal.Nodes
  many-spanned h = inl (refl, h.many)

  pub large-spanned : (n : ℕ) → IsTooLarge log f n → TellsLarge f log (refusal.Size n)
  large-spanned n h = inr (h.nodes.few, (n, refl, record { size = h.size; large = h.large }))

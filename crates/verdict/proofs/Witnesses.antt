-- Whether a timing is a witness.
use Rattle.std.proofs.Common.{◌≡◌, ◌∙◌, sym, ◌↔◌, Bool, true, false, List, ℤ}
use Rattle.std.proofs.Math.Bool.{beq}
use Rattle.std.specs.Cmp.{booleans_Decides}
use Rattle.std.specs.Prelude.{IsTrue}
use Rattle.mt_model.specs.Form.{Form}
use Rattle.mt_model.specs.Log.{Logged}
use Rattle.mt_model.specs.Timing.{Admissible}
use Rattle.mt_model.specs.Truth.{truth}
use Rattle.verdict.specs.Right.{IsWitness}

module _ (log : Logged) (f : Form) (v : Bool) (t : List ℤ) (admits : Bool) (admissible : IsTrue admits ↔ Admissible log t) (answer : Bool) where
  -- of a timing that the log admits the formula's truth decides
  pub by_truth : (found : Bool) → found ≡ truth log t 0 f → admits ≡ true → answer ≡ beq found v → IsTrue answer ↔ IsWitness log f v t
  by_truth found value admitted same = (
    λ is. record { admissible = admissible.0 admitted; value = sym value ∙ (booleans_Decides found v).0 (sym same ∙ is) },
    λ witness. same ∙ (booleans_Decides found v).1 (value ∙ witness.value),
  )

  -- a timing that the log doesn't admit is none
  pub not_admitted : admits ≡ false → answer ≡ admits → IsTrue answer ↔ IsWitness log f v t
  not_admitted other same = (
    λ is. absurd (cc),
    λ witness. same ∙ admissible.1 witness.admissible,
  )

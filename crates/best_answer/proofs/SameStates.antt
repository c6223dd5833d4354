-- A formula's truth in a timing depends on a log only by the states of its propositions.
use Rattle.std.proofs.Common.{◌≡◌, ◌∙◌, ap, refl, Bool, List, ℕ, not, ℤ}
use Rattle.std.specs.Prelude.{◌&&◌, ◌||◌}
use Rattle.std.proofs.Math.Path.{fun_ext}
use Rattle.mt_model.specs.Form.{Form, True, False, Prop, Not, And, Or, Implies, Until, Since, Eventually, Always, Once, Historically}
use Rattle.mt_model.specs.Frame.{Frame, always, implies, is_ahead, is_behind, reaches, sometimes, turned}
use Rattle.mt_model.specs.Log.{Logged}
use Rattle.mt_model.specs.State.{state_named}
use Rattle.mt_model.specs.Truth.{truth_in}

-- where two logs give each proposition the same states, they give each formula the same truth
module _ {X : Type 0} (a b : Logged) (t : List ℤ) (same : (u : ℤ) (host name : List ℕ) → state_named a t u host name ≡ state_named b t u host name) (F : Frame X) where
  pub truths : (f : Form) → ◌≡◌ {A = X → Bool} (λ x. truth_in a t F x f) (λ x. truth_in b t F x f)
  truths True = refl
  truths False = refl
  truths (Prop host name) = fun_ext (λ x. same (F.instant x) host name)
  truths (Not f) = ap {B = X → Bool} (λ (p : X → Bool) (x : X). not (p x)) (truths f)
  truths (And f g) = ap {B = X → Bool} (λ (p : X → Bool) (x : X). p x && truth_in a t F x g) (truths f) ∙ ap {B = X → Bool} (λ (p : X → Bool) (x : X). truth_in b t F x f && p x) (truths g)
  truths (Or f g) = ap {B = X → Bool} (λ (p : X → Bool) (x : X). p x || truth_in a t F x g) (truths f) ∙ ap {B = X → Bool} (λ (p : X → Bool) (x : X). truth_in b t F x f || p x) (truths g)
  truths (Implies f g) =
      ap {B = X → Bool} (λ (p : X → Bool) (x : X). implies (p x) (truth_in a t F x g)) (truths f) ∙ ap {B = X → Bool} (λ (p : X → Bool) (x : X). implies (truth_in b t F x f) (p x)) (truths g)
  truths (Until I f g) =
      ap {B = X → Bool} (λ (p : X → Bool) (x : X). reaches F (is_ahead F I) p (λ y. truth_in a t F y g) x) (truths f)
      ∙ ap {B = X → Bool} (λ (p : X → Bool) (x : X). reaches F (is_ahead F I) (λ y. truth_in b t F y f) p x) (truths g)
  truths (Since I f g) =
      ap {B = X → Bool} (λ (p : X → Bool) (x : X). reaches (turned F) (is_behind F I) p (λ y. truth_in a t F y g) x) (truths f)
      ∙ ap {B = X → Bool} (λ (p : X → Bool) (x : X). reaches (turned F) (is_behind F I) (λ y. truth_in b t F y f) p x) (truths g)
  truths (Eventually I f) = ap {B = X → Bool} (λ (p : X → Bool) (x : X). sometimes F (is_ahead F I) p x) (truths f)
  truths (Always I f) = ap {B = X → Bool} (λ (p : X → Bool) (x : X). always F (is_ahead F I) p x) (truths f)
  truths (Once I f) = ap {B = X → Bool} (λ (p : X → Bool) (x : X). sometimes (turned F) (is_behind F I) p x) (truths f)
  truths (Historically I f) = ap {B = X → Bool} (λ (p : X → Bool) (x : X). always (turned F) (is_behind F I) p x) (truths f)

-- Truth goes along a map of points that keeps order and moments and reaches every point.
use Rattle.std.proofs.Common.{◌≡◌, ◌∙◌, ap, refl, Bool, not, List, ℤ, ◌-ℤ◌}
use Rattle.mt_model.specs.declared.tree.Interval.{Interval}
use Rattle.mt_model.specs.Form.{Form, True, False, Prop, Not, And, Or, Implies, Until, Since, Eventually, Always, Once, Historically}
use Rattle.mt_model.specs.Log.{Logged}
use Rattle.mt_model.specs.State.{state_named}
use Rattle.mt_model.specs.Frame.{Frame, turned, span, reaches, sometimes, always, is_ahead, is_behind, is_in}
use Rattle.mt_model.specs.Truth.{truth_in}
use Rattle.mt_model.proofs.Members.{Among, any_same, all_same}

-- the map keeps order and instants, and reaches every point
pub record Carries {X Y : Type 0} (A : Frame X) (B : Frame Y) (φ : X → Y) : Type 0 where
  pub into : (x : X) → Among A.points x → Among B.points (φ x)
  pub onto : (y : Y) → Among B.points y → (x : X) × Among A.points x × (φ x ≡ y)
  pub not_after : (x y : X) → Among A.points x → Among A.points y → A.not_after x y ≡ B.not_after (φ x) (φ y)
  pub instant : (x : X) → Among A.points x → A.instant x ≡ B.instant (φ x)

module _ {X Y : Type 0} (A : Frame X) (B : Frame Y) (φ : X → Y) where
  pub turned_too : Carries A B φ → Carries (turned A) (turned B) φ
  turned_too m = record { into = m.into; onto = m.onto; not_after = λ x y a b. m.not_after y x b a; instant = m.instant }

  pub is_ahead_same : Carries A B φ → (I : Interval) (x y : X) → Among A.points x → Among A.points y → is_ahead A I x y ≡ is_ahead B I (φ x) (φ y)
  is_ahead_same m I x y a b = ap (λ u. is_in I (A.instant y -ℤ u)) (m.instant x a) ∙ ap (λ u. is_in I (u -ℤ B.instant (φ x))) (m.instant y b)

  pub is_behind_same : Carries A B φ → (I : Interval) (x y : X) → Among A.points x → Among A.points y → is_behind A I x y ≡ is_behind B I (φ x) (φ y)
  is_behind_same m I x y a b = ap (λ u. is_in I (u -ℤ A.instant y)) (m.instant x a) ∙ ap (λ u. is_in I (B.instant (φ x) -ℤ u)) (m.instant y b)

module _ {X Y : Type 0} (A : Frame X) (B : Frame Y) (φ : X → Y) (m : Carries A B φ) (near : X → X → Bool) (near' : Y → Y → Bool)
    (near_same : (x y : X) → Among A.points x → Among A.points y → near x y ≡ near' (φ x) (φ y))
    (f : X → Bool) (f' : Y → Bool) (f_same : (x : X) → Among A.points x → f x ≡ f' (φ x)) where
  pub span_same : (x y : X) → Among A.points x → Among A.points y → span A f x y ≡ span B f' (φ x) (φ y)
  span_same x y a b = all_same A.points B.points φ m.into m.onto _ _ (λ z c. rw (m.not_after x z a c, m.not_after y z b c, f_same z c) refl)

  pub sometimes_same : (x : X) → Among A.points x → sometimes A near f x ≡ sometimes B near' f' (φ x)
  sometimes_same x a = any_same A.points B.points φ m.into m.onto _ _ (λ y b. rw (m.not_after x y a b, near_same x y a b, f_same y b) refl)

  pub always_same : (x : X) → Among A.points x → always A near f x ≡ always B near' f' (φ x)
  always_same x a = all_same A.points B.points φ m.into m.onto _ _ (λ y b. rw (m.not_after x y a b, near_same x y a b, f_same y b) refl)

  pub reaches_same : (g : X → Bool) (g' : Y → Bool) → ((x : X) → Among A.points x → g x ≡ g' (φ x)) → (x : X) → Among A.points x → reaches A near f g x ≡ reaches B near' f' g' (φ x)
  reaches_same g g' g_same x a = any_same A.points B.points φ m.into m.onto _ _ (λ y b. rw (m.not_after x y a b, near_same x y a b, g_same y b, span_same x y a b) refl)

module _ (log : Logged) (t : List ℤ) {X Y : Type 0} (A : Frame X) (B : Frame Y) (φ : X → Y) (m : Carries A B φ) where
  pub truth_same : (f : Form) (x : X) → Among A.points x → truth_in log t A x f ≡ truth_in log t B (φ x) f
  truth_same True x a = refl
  truth_same False x a = refl
  truth_same (Prop h n) x a = ap (λ u. state_named log t u h n) (m.instant x a)
  truth_same (Not f) x a = ap not (truth_same f x a)
  truth_same (And f g) x a = rw (truth_same f x a, truth_same g x a) refl
  truth_same (Or f g) x a = rw (truth_same f x a, truth_same g x a) refl
  truth_same (Implies f g) x a = rw (truth_same f x a, truth_same g x a) refl
  truth_same (Until I f g) x a =
      reaches_same A B φ m (is_ahead A I) (is_ahead B I) (is_ahead_same A B φ m I) (λ y. truth_in log t A y f) (λ y. truth_in log t B y f)
      (truth_same f) (λ y. truth_in log t A y g) (λ y. truth_in log t B y g) (truth_same g) x a
  truth_same (Since I f g) x a =
      reaches_same (turned A) (turned B) φ (turned_too A B φ m) (is_behind A I) (is_behind B I) (is_behind_same A B φ m I)
      (λ y. truth_in log t A y f) (λ y. truth_in log t B y f) (truth_same f) (λ y. truth_in log t A y g) (λ y. truth_in log t B y g)
      (truth_same g) x a
  truth_same (Eventually I f) x a = sometimes_same A B φ m (is_ahead A I) (is_ahead B I) (is_ahead_same A B φ m I) (λ y. truth_in log t A y f) (λ y. truth_in log t B y f) (truth_same f) x a
  truth_same (Always I f) x a = always_same A B φ m (is_ahead A I) (is_ahead B I) (is_ahead_same A B φ m I) (λ y. truth_in log t A y f) (λ y. truth_in log t B y f) (truth_same f) x a
  truth_same (Once I f) x a =
      sometimes_same (turned A) (turned B) φ (turned_too A B φ m) (is_behind A I) (is_behind B I) (is_behind_same A B φ m I)
      (λ y. truth_in log t A y f) (λ y. truth_in log t B y f) (truth_same f) x a
  truth_same (Historically I f) x a =
      always_same (turned A) (turned B) φ (turned_too A B φ m) (is_behind A I) (is_behind B I) (is_behind_same A B φ m I)
      (λ y. truth_in log t A y f) (λ y. truth_in log t B y f) (truth_same f) x a

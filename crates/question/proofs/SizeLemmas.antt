-- Propositions among the nodes.
use Rattle.std.proofs.Common.{◌≡◌, refl, ℕ, zero, suc, ◌<◌, true, false, List, [], ◌∷◌, length, inl, inr, arith}
use Rattle.std.proofs.lemmas.Bool.{cases_Bool}
use Rattle.mt_model.specs.Form.{Form, True, False, Prop, Not, And, Or, Implies, Until, Since, Eventually, Always, Once, Historically}
use Rattle.formula_arena.specs.Nodes.{is_proposition, propositions_in, tree_at}
use Rattle.question.specs.Extremes.{Extremes}
use Rattle.question.specs.Size.{is_true, tree_size}

-- a proposition isn't `true`
prop-not-true : (f : Form) → is_proposition f ≡ true → false ≡ is_true f
prop-not-true True is = absurd (cc)
prop-not-true False is = refl
prop-not-true (Prop host name) is = refl
prop-not-true (Not f) is = refl
prop-not-true (And f g) is = refl
prop-not-true (Or f g) is = refl
prop-not-true (Implies f g) is = refl
prop-not-true (Until I f g) is = refl
prop-not-true (Since I f g) is = refl
prop-not-true (Eventually I f) is = refl
prop-not-true (Always I f) is = refl
prop-not-true (Once I f) is = refl
prop-not-true (Historically I f) is = refl

-- a proposition adds nothing to a size
prop-none : (x : Extremes) (rows : ℕ) (f : Form) → is_proposition f ≡ true → 0 ≡ tree_size x rows f
prop-none x rows True is = refl
prop-none x rows False is = refl
prop-none x rows (Prop host name) is = refl
prop-none x rows (Not f) is = refl
prop-none x rows (And f g) is = refl
prop-none x rows (Or f g) is = refl
prop-none x rows (Implies f g) is = refl
prop-none x rows (Until I f g) is = absurd (cc)
prop-none x rows (Since I f g) is = absurd (cc)
prop-none x rows (Eventually I f) is = refl
prop-none x rows (Always I f) is = refl
prop-none x rows (Once I f) is = refl
prop-none x rows (Historically I f) is = refl

-- what stands among the propositions is one
prop-is : (trees : List Form) (p : ℕ) → p < length (propositions_in trees) → is_proposition (tree_at (propositions_in trees) p) ≡ true
prop-is [] p low = absurd (omega arith)
prop-is (f ∷ trees) p low = elim (cases_Bool (is_proposition f)) [
  | inl is ↦ rw is (kept p (rw is at low) (λ q less. prop-is trees q less) is)
  | inr fails ↦ rw fails (prop-is trees p (rw fails at low))
]
  where
    kept : (p : ℕ) → p < length (f ∷ propositions_in trees) → ((q : ℕ) → q < length (propositions_in trees) → is_proposition (tree_at (propositions_in trees) q) ≡ true) → is_proposition f ≡ true
        → is_proposition (tree_at (f ∷ propositions_in trees) p) ≡ true
    kept zero low rest is = is
    kept (suc p) low rest is = rest p (omega (arith, low))

pub proposition-not-true : (trees : List Form) (p : ℕ) → p < length (propositions_in trees) → false ≡ is_true (tree_at (propositions_in trees) p)
proposition-not-true trees p low = prop-not-true (tree_at (propositions_in trees) p) (prop-is trees p low)

pub proposition-none : (x : Extremes) (rows : ℕ) (trees : List Form) (p : ℕ) → p < length (propositions_in trees) → 0 ≡ tree_size x rows (tree_at (propositions_in trees) p)
proposition-none x rows trees p low = prop-none x rows (tree_at (propositions_in trees) p) (prop-is trees p low)

-- The test of equality of trees decides equality, and what it says of a list.
use Rattle.std.proofs.Common.{◌≡◌, ◌∙◌, ℕ, Bool, true, false, ◌&&◌, ◌==◌, refl, sym, ap, subst, true≢false, Option, Some, None, List, bytes_eq}
use Rattle.std.specs.Cmp.Lexicographic.{same_text}
use Rattle.std.proofs.lemmas.Bool.{and_parts, and_from, eqb-true, eq-eqb}
use Rattle.std.proofs.lemmas.Slice.Eq.{bytes_eq-Decides}
use Rattle.std.proofs.lemmas.List.{get_or_default}
use Rattle.std.proofs.lemmas.List.Folds.{list_any_at}
use Rattle.std.proofs.lemmas.Map.Views.{Contains-from_any}
use Rattle.mt_model.specs.declared.tree.Interval.{Interval}
use Rattle.mt_model.specs.Form.{Form, True, False, Prop, Not, And, Or, Implies, Until, Since, Eventually, Always, Once, Historically}
use Rattle.formula_arena.specs.Subtrees.{same_bound, same_form, same_interval}
use Rattle.formula_arena.specs.Nodes.{IsAt, has_form}

bound_same : (a b : Option ℕ) → same_bound a b ≡ true → a ≡ b
bound_same None None h = refl
bound_same (Some m) (Some n) h = ap Some (eqb-true m n h)
bound_same a b h = absurd (true≢false (sym h))

interval_same : (I J : Interval) → same_interval I J ≡ true → I ≡ J
interval_same I J h =
    let both = and_parts (I.low == J.low) (same_bound I.high J.high) h in
    let low = eqb-true I.low J.low both.0 in
    let high = bound_same I.high J.high both.1 in
    λ i. record { low = low i; high = high i }

under_two : (make : Form → Form → Form) (f g h k : Form) → f ≡ h → g ≡ k → make f g ≡ make h k
under_two make f g h k p q = λ i. make (p i) (q i)

-- trees that the test takes for equal are equal
pub form_same : (f g : Form) → same_form f g ≡ true → f ≡ g
form_same True True h = refl
form_same False False h = refl
form_same (Prop h m) (Prop i n) e =
    let both = and_parts (bytes_eq h i) (bytes_eq m n) e in
    let host = same_text h i (sym both.0) in
    let name = same_text m n (sym both.1) in
    λ j. Prop (host j) (name j)
form_same (Not f) (Not g) e = ap Not (form_same f g e)
form_same (And f g) (And h k) e =
    let both = and_parts (same_form f h) (same_form g k) e in
    under_two And f g h k (form_same f h both.0) (form_same g k both.1)
form_same (Or f g) (Or h k) e =
    let both = and_parts (same_form f h) (same_form g k) e in
    under_two Or f g h k (form_same f h both.0) (form_same g k both.1)
form_same (Implies f g) (Implies h k) e =
    let both = and_parts (same_form f h) (same_form g k) e in
    under_two Implies f g h k (form_same f h both.0) (form_same g k both.1)
form_same (Until I f g) (Until J h k) e =
    let rest = and_parts (same_interval I J && same_form f h) (same_form g k) e in
    let both = and_parts (same_interval I J) (same_form f h) rest.0 in
    ap (λ K. Until K f g) (interval_same I J both.0) ∙ under_two (Until J) f g h k (form_same f h both.1) (form_same g k rest.1)
form_same (Since I f g) (Since J h k) e =
    let rest = and_parts (same_interval I J && same_form f h) (same_form g k) e in
    let both = and_parts (same_interval I J) (same_form f h) rest.0 in
    ap (λ K. Since K f g) (interval_same I J both.0) ∙ under_two (Since J) f g h k (form_same f h both.1) (form_same g k rest.1)
form_same (Eventually I f) (Eventually J g) e =
    let both = and_parts (same_interval I J) (same_form f g) e in
    ap (λ K. Eventually K f) (interval_same I J both.0) ∙ ap (Eventually J) (form_same f g both.1)
form_same (Always I f) (Always J g) e =
    let both = and_parts (same_interval I J) (same_form f g) e in
    ap (λ K. Always K f) (interval_same I J both.0) ∙ ap (Always J) (form_same f g both.1)
form_same (Once I f) (Once J g) e =
    let both = and_parts (same_interval I J) (same_form f g) e in
    ap (λ K. Once K f) (interval_same I J both.0) ∙ ap (Once J) (form_same f g both.1)
form_same (Historically I f) (Historically J g) e =
    let both = and_parts (same_interval I J) (same_form f g) e in
    ap (λ K. Historically K f) (interval_same I J both.0) ∙ ap (Historically J) (form_same f g both.1)
form_same f g h = absurd (true≢false (sym h))

bound_itself : (a : Option ℕ) → same_bound a a ≡ true
bound_itself None = refl
bound_itself (Some n) = eq-eqb n n refl

interval_itself : (I : Interval) → same_interval I I ≡ true
interval_itself I = and_from (I.low == I.low) (same_bound I.high I.high) (eq-eqb I.low I.low refl) (bound_itself I.high)

text_itself : (xs : List ℕ) → bytes_eq xs xs ≡ true
text_itself xs = (bytes_eq-Decides xs xs).1 refl

-- and it takes each tree for equal to itself
pub form_itself : (f : Form) → same_form f f ≡ true
form_itself True = refl
form_itself False = refl
form_itself (Prop host name) = and_from (bytes_eq host host) (bytes_eq name name) (text_itself host) (text_itself name)
form_itself (Not f) = form_itself f
form_itself (And f g) = and_from (same_form f f) (same_form g g) (form_itself f) (form_itself g)
form_itself (Or f g) = and_from (same_form f f) (same_form g g) (form_itself f) (form_itself g)
form_itself (Implies f g) = and_from (same_form f f) (same_form g g) (form_itself f) (form_itself g)
form_itself (Until I f g) = and_from (same_interval I I && same_form f f) (same_form g g) (and_from (same_interval I I) (same_form f f) (interval_itself I) (form_itself f)) (form_itself g)
form_itself (Since I f g) = and_from (same_interval I I && same_form f f) (same_form g g) (and_from (same_interval I I) (same_form f f) (interval_itself I) (form_itself f)) (form_itself g)
form_itself (Eventually I f) = and_from (same_interval I I) (same_form f f) (interval_itself I) (form_itself f)
form_itself (Always I f) = and_from (same_interval I I) (same_form f f) (interval_itself I) (form_itself f)
form_itself (Once I f) = and_from (same_interval I I) (same_form f f) (interval_itself I) (form_itself f)
form_itself (Historically I f) = and_from (same_interval I I) (same_form f f) (interval_itself I) (form_itself f)

-- a tree that stands in a list is the tree of a number
pub at_from_has : (trees : List Form) (f : Form) → has_form trees f ≡ true → (k : ℕ) × IsAt trees k f
at_from_has trees f h = let there = Contains-from_any form_same f trees h in (there.0, (there.1, get_or_default trees there.0 True f there.1 ∙ there.2))

-- and the converse
pub has_from_at : (trees : List Form) (f : Form) (k : ℕ) → IsAt trees k f → has_form trees f ≡ true
has_from_at trees f k at = list_any_at (same_form f) trees k True at.0 (subst (λ g. same_form f g ≡ true) (sym at.1) (form_itself f))

-- a tree that is the tree of no number does not stand in the list
pub lacks_from_none : (trees : List Form) (f : Form) → ((k : ℕ) → IsAt trees k f → ⊥) → has_form trees f ≡ false
lacks_from_none trees f none = by (has_form trees f) refl
  where
    by : (b : Bool) → has_form trees f ≡ b → b ≡ false
    by true e = let at = at_from_has trees f e in absurd (none at.0 at.1)
    by false e = refl

-- Sets whose order tells their keys apart.
use Rattle.std.proofs.Common.{Ordering, ◌≡◌, ◌∙◌, sym, ap, subst, refl, Bool, true, false, cond, ◌↔◌, ◌⊎◌, inl, inr}
use Rattle.std.specs.Prelude.{Contains, IsTrue}
use Rattle.std.specs.BTreeSet.{BTreeSet, Updates, contains}
use Rattle.std.specs.Cmp.{IsTotalOrder, tied_itself}
use Rattle.std.specs.Ordering.{eq_by_cmp, is_eq}
use Rattle.std.proofs.lemmas.Map.Lookups.{CmpEqualImpliesEq}
use Rattle.std.proofs.lemmas.Map.Views.{btree_set_contains_iff, tells_apart}

was_either : (same old new : Bool) → new ≡ cond same true old → new ≡ true → (old ≡ true) ⊎ (same ≡ true)
was_either true old new is there = inr refl
was_either false old new is there = inl (sym is ∙ there)

from_either : (same old new : Bool) → new ≡ cond same true old → (old ≡ true) ⊎ (same ≡ true) → new ≡ true
from_either true old new is either = is
from_either false old new is (inl before) = is ∙ before
from_either false old new is (inr same) = absurd (cc)

module _ {K : Type 0} {R : K → K → Ordering} (order : IsTotalOrder R) (exact : CmpEqualImpliesEq R) where
  -- whether a set has a key
  pub has : (s : BTreeSet K) (q : K) → IsTrue (contains R s q) ↔ Contains s.keys q
  has s q = btree_set_contains_iff order exact s q

  -- a set that gets a key has it and the old ones
  pub has_more : (old new : BTreeSet K) (k : K) → Updates R old new k true → (q : K) → Contains new.keys q ↔ (Contains old.keys q ⊎ (k ≡ q))
  has_more old new k updates q = (
    λ there. elim (was_either (eq_by_cmp R k q) (contains R old q) (contains R new q) (updates.0 q) ((has new q).1 there)) [
      | inl before ↦ inl ((has old q).0 before)
      | inr same ↦ inr (tells_apart exact k q same)
    ],
    λ either. (has new q).0 (from_either (eq_by_cmp R k q) (contains R old q) (contains R new q) (updates.0 q) (elim either [
      | inl before ↦ inl ((has old q).1 before)
      | inr same ↦ inr (subst (λ (p : K). eq_by_cmp R k p ≡ true) same (ap is_eq (tied_itself order k)))
    ])),
  )

-- Whether the places of resyncs or of readings fall, one by one.
use Rattle.std.proofs.Common.{◌≡◌, ◌∙◌, sym, refl, ℕ, ◌+◌, ◌<◌, ◌≤◌, ◌⊎◌, inl, inr, List, length, get_or, arith}
use Rattle.std.specs.Prelude.{AllPairs}
use Rattle.std.proofs.lemmas.Bool.{cases_eq}
use Rattle.std.proofs.lemmas.List.{get_or_default}

-- no place among the first k falls or is above `least`, which is the last of them, or 0
pub record IsInOrder {X : Type 0} (place : X → ℕ) (xs : List X) (k least : ℕ) : Type 0 where
  pub pairs : (i j : ℕ) (d : X) → i < j → j < k → place (get_or xs i d) ≤ place (get_or xs j d)
  pub most : (i : ℕ) (d : X) → i < k → place (get_or xs i d) ≤ least
  pub reached : (least ≡ 0) ⊎ ((i : ℕ) × (i < k) × ((d : X) → place (get_or xs i d) ≡ least))

module _ {X : Type 0} (place : X → ℕ) (xs : List X) (k least : ℕ) (x : X) (within : k < length xs) (is : x ≡ get_or xs k x) where
  -- the one at k, whatever the default
  at : (d : X) → get_or xs k d ≡ x
  at d = get_or_default xs k d x within ∙ sym is

  pub in_order-more : IsInOrder place xs k least → least ≤ place x → IsInOrder place xs (k + 1) (place x)
  in_order-more before high = record {
    pairs = λ i j d first second. elim (cases_eq j k) [
      | inl same ↦ let m = before.most i d (omega arith) in rw (same, at d) (omega (arith, m, high))
      | inr other ↦ before.pairs i j d first (omega arith)
    ];
    most = λ i d first. elim (cases_eq i k) [
      | inl same ↦ rw (same, at d) (omega arith)
      | inr other ↦ let m = before.most i d (omega arith) in omega (arith, m, high)
    ];
    reached = inr (k, omega arith, λ d. rw (at d) refl);
  }

  pub in_order-falls : IsInOrder place xs k least → place x < least → AllPairs (λ q r. place q ≤ place r) xs → ⊥
  in_order-falls before low all = elim before.reached [
    | inl none ↦ absurd (omega (arith, none, low))
    | inr some ↦ let h = all some.0 k x some.1 within in let e = some.2 x in let f = at x in absurd (omega (arith, rw (e, f) at h, low))
  ]

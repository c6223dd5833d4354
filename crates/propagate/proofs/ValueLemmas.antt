-- The values of variables, as literals come and go.
use Rattle.std.proofs.Common.{◌≡◌, ◌≢◌, ◌∙◌, sym, refl, ℕ, zero, suc, ◌<◌, inl, inr, List, [], ◌∷◌, ◌++◌, length, set, get_or, arith, Bool, Option, Some, None, get_or-set_same, get_or-set_other, length-set}
use Rattle.std.specs.Prelude.{◌↔◌, IfSome, IsNone, replicate}
use Rattle.std.proofs.lemmas.Bool.{cases_eq}
use Rattle.std.proofs.lemmas.List.{get_or_default, get_or_read, length-replicate, length_push}
use Rattle.propagate.specs.declared.entry.Entry.{Entry}
use Rattle.propagate.specs.Trails.{no_entry, entry_at, HasEntry, IsUnassigned}
use Rattle.propagate.specs.Stored.{AreValues, IsTable, value_of}
use Rattle.propagate.proofs.TrailLemmas.{cases_push, old_entry, new_entry}
use Rattle.propagate.proofs.TableLemmas.{place_below, table_none}
use Rattle.std.proofs.lemmas.Option.{same_Some, none-some}

-- no variable has a place or a value at first
pub no_place : (n v : ℕ) → let none : Option ℕ = None in get_or (replicate n none) v none ≡ none
no_place zero v = refl
no_place (suc n) zero = refl
no_place (suc n) (suc v) = no_place n v

no_value : (n v : ℕ) → let none : Option Bool = None in get_or (replicate n none) v none ≡ none
no_value zero v = refl
no_value (suc n) zero = refl
no_value (suc n) (suc v) = no_value n v

pub no_values : (n : ℕ) (xs : List Entry) (places : List (Option ℕ)) (values : List (Option Bool)) → places ≡ replicate n None → values ≡ replicate n None → AreValues xs places values
no_values n xs places values unplaced unvalued = rw (unplaced, unvalued) (record {
  count = length-replicate n None ∙ sym (length-replicate n None);
  is = λ v. rw (no_place n v) (no_value n v);
})

-- a value as it was read
pub value_read : (values : List (Option Bool)) (v i : ℕ) (r : Option Bool) → i ≡ v → v < length values → r ≡ get_or values i r → get_or values v None ≡ r
value_read values v i r same below is =
    let got : r ≡ get_or values i None = get_or_read values i r (omega (arith, same, below)) is None in
    rw (← same) (sym got)

-- what a variable's value tells
pub value_tells : (xs : List Entry) (places : List (Option ℕ)) (v : ℕ) (r : Option Bool) → IsTable xs places
    → r ≡ value_of xs (get_or places v None) → (IsNone r ↔ IsUnassigned xs v) × IfSome r (λ b. HasEntry xs v (λ e. e.lit.positive ≡ b))
value_tells xs places v r table is = by (get_or places v None) refl r is where
  by : (p : Option ℕ) → get_or places v None ≡ p → (r : Option Bool) → r ≡ value_of xs p → (IsNone r ↔ IsUnassigned xs v) × IfSome r (λ b. HasEntry xs v (λ e. e.lit.positive ≡ b))
  by None at None same = ((λ none. table_none xs places v table at, λ free. refl), tt)
  by None at (Some b) same = absurd (none-some _ (sym same))
  by (Some k) at None same = absurd (none-some _ same)
  by (Some k) at (Some b) same =
      let there = table.there v k at in (
        (λ none. absurd cc, λ free. absurd (free k no_entry there.0 there.1)),
        (k, entry_at xs k, there.0, get_or_default xs k (entry_at xs k) no_entry there.0, (there.1, sym (same_Some _ _ same))),
      )

module _ (xs : List Entry) (e : Entry) (places : List (Option ℕ)) (values : List (Option Bool)) where
  -- one more literal
  pub values_push : AreValues xs places values → IsTable xs places → e.lit.var < length places
      → AreValues (xs ++ e ∷ []) (set places e.lit.var (Some (length xs))) (set values e.lit.var (Some e.lit.positive))
  values_push old table below = record {
    count = length-set values e.lit.var (Some e.lit.positive) ∙ old.count ∙ sym (length-set places e.lit.var (Some (length xs)));
    is = λ v. elim (cases_eq v e.lit.var) [
      | inl same ↦ rw (same, get_or-set_same places e.lit.var (Some (length xs)) None below, get_or-set_same values e.lit.var (Some e.lit.positive) None (let count = old.count in omega (arith, count, below)), new_entry xs e (length xs) refl) refl
      | inr other ↦ rw (
        get_or-set_other places e.lit.var v (Some (length xs)) None other,
        get_or-set_other values e.lit.var v
            (Some e.lit.positive) None other,
      ) (old.is v ∙ kept v (get_or places v None) refl)
    ];
  } where
    kept : (v : ℕ) (p : Option ℕ) → get_or places v None ≡ p → value_of xs p ≡ value_of (xs ++ e ∷ []) p
    kept v None at = refl
    kept v (Some k) at = rw (old_entry xs e k (table.there v k at).0) refl

  -- without the last literal
  pub values_pop : AreValues (xs ++ e ∷ []) places values → IsTable (xs ++ e ∷ []) places → AreValues xs (set places e.lit.var None) (set values e.lit.var None)
  values_pop old table = record {
    count = length-set values e.lit.var None ∙ old.count ∙ sym (length-set places e.lit.var None);
    is = λ v. elim (cases_eq v e.lit.var) [
      | inl same ↦ rw (same, get_or-set_same places e.lit.var None None below, get_or-set_same values e.lit.var None None (let count = old.count in omega (arith, count, below))) refl
      | inr other ↦ rw (get_or-set_other places e.lit.var v None None other, get_or-set_other values e.lit.var v None None other) (old.is v ∙ kept v (get_or places v None) refl other)
    ];
  } where
    last : get_or places e.lit.var None ≡ Some (length xs)
    last = let got = table.here (length xs) (omega (arith, length_push xs e)) in rw (new_entry xs e (length xs) refl) at got

    below : e.lit.var < length places
    below = place_below places e.lit.var (length xs) last

    kept : (v : ℕ) (p : Option ℕ) → get_or places v None ≡ p → v ≢ e.lit.var → value_of (xs ++ e ∷ []) p ≡ value_of xs p
    kept v None at other = refl
    kept v (Some k) at other =
        let there = table.there v k at in
        elim (cases_push xs e k there.0) [
          | inl b ↦ rw (old_entry xs e k b) refl
          | inr is ↦ absurd (other (sym (rw (new_entry xs e k is) at there.1)))
        ]

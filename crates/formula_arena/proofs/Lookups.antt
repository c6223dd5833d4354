-- What look-ups and insertions of indexed sets and maps say, where the keys' comparison tells different keys apart.
use Rattle.std.proofs.Common.{◌≡◌, ◌∙◌, ℕ, Bool, true, false, refl, sym, ap, subst, List, [], ◌∷◌, ◌++◌, Option, Some, None, slice_get, position, Contains, true≢false, if◌then◌else◌}
use Rattle.std.specs.Prelude.{IfSome, IfNone, IsSome, is_some}
use Rattle.std.specs.List.{list_any}
use Rattle.std.specs.Map.{keys_of, lookup}
use Rattle.std.specs.Cmp.{IsEquivalence}
use Rattle.std.proofs.lemmas.List.Quantifiers.{position-Some}
use Rattle.std.proofs.lemmas.Map.Views.{Contains-from_any, Contains-keys_from_lookup, IfSome-lookup, IsSome-lookup_from_Contains}
use Rattle.std.proofs.lemmas.Option.{slice_get-get_or}
use Rattle.indexmap.specs.IndexMap.{IndexMap, insert_entry, keys}
use Rattle.indexmap.specs.IndexSet.{insert_key}
use Rattle.indexmap.proofs.CallerLemmas.{insert_entry-new}

module _ {K : Type 0} (eq : K → K → Bool) (same : (x y : K) → eq x y ≡ true → x ≡ y) where
  pub found-position : (k : K) (ks : List K) (r : Option ℕ) → r ≡ position (eq k) ks → IfSome r (λ i. slice_get ks i ≡ Some k)
  found-position k ks None e = tt
  found-position k ks (Some i) e =
      let at = position-Some (eq k) ks i k (sym e) in
      slice_get-get_or ks i k at.0 ∙ ap Some (sym (same k _ at.1))

  pub insert_key-new : (k : K) (ks : List K) → (Contains ks k → ⊥) → insert_key eq ks k ≡ ks ++ k ∷ []
  insert_key-new k ks absent = by (list_any (eq k) ks) refl
    where
      by : (b : Bool) → list_any (eq k) ks ≡ b → insert_key eq ks k ≡ ks ++ k ∷ []
      by true e = absurd (absent (Contains-from_any same k ks e))
      by false e = ap (λ b. if b then ks else ks ++ k ∷ []) e

  module _ {X : Type 0} where
    pub found-lookup : (k : K) (es : List (K × X)) (r : Option X) → r ≡ lookup (eq k) es → IfSome r (λ v. Contains es (k, v))
    found-lookup k es r e = subst (λ o. IfSome o (λ v. Contains es (k, v))) (sym e) (IfSome-lookup same k es)

    pub absent-lookup : IsEquivalence eq → (k : K) (es : List (K × X)) (r : Option X) → r ≡ lookup (eq k) es → IfNone r (Contains (keys_of es) k → ⊥)
    absent-lookup laws k es None e = λ there. true≢false (sym (subst (λ o. IsSome o) (sym e) (IsSome-lookup_from_Contains laws k es there)))
    absent-lookup laws k es (Some v) e = tt

    pub insert_entry-fresh : {S : Type 0} (m : IndexMap K X S) (k : K) (v : X) → (Contains (keys m) k → ⊥) → insert_entry eq m.entries k v ≡ m.entries ++ (k, v) ∷ []
    insert_entry-fresh m k v absent = by (lookup (eq k) m.entries) refl
      where
        by : (r : Option X) → lookup (eq k) m.entries ≡ r → insert_entry eq m.entries k v ≡ m.entries ++ (k, v) ∷ []
        by None e = insert_entry-new eq m k v e
        by (Some w) e = absurd (absent (Contains-keys_from_lookup same k m.entries (ap is_some e)))

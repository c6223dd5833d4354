-- What the values of arrays and objects are, as data.
use Rattle.std.proofs.Common.{◌≡◌, ◌∙◌, ap, refl, arith, ℕ, ◌+◌, ◌<◌, ◌≤◌, ◌||◌, Bool, true, false, List, [], ◌∷◌, length, get_or, drop, drop-cons, add-one, None}
use Rattle.std.proofs.lemmas.List.{drop_all}
use Rattle.serde_json.specs.Data.{Data}
use Rattle.serde_json.specs.View.{items_view, view}
use Rattle.serde_json.specs.declared.value.Value.{Value}
use Rattle.json_log.specs.Entries.{delays_of}
use Rattle.json_log.specs.JsonLogOf.{any_in}

-- delays stand in an array of two values alone
pub too-few : (vs : List Value) → length vs < 2 → None ≡ delays_of (items_view vs)
too-few [] few = refl
too-few (v ∷ []) few = refl
too-few (v ∷ w ∷ vs) few = absurd (omega arith)

pub too-many : (vs : List Value) → 3 ≤ length vs → None ≡ delays_of (items_view vs)
too-many [] many = absurd (omega arith)
too-many (v ∷ []) many = absurd (omega arith)
too-many (v ∷ w ∷ []) many = absurd (omega arith)
too-many (v ∷ w ∷ x ∷ vs) many = refl

-- whether one of some values passes a test, one value at a time
module _ (passes : Data → Bool) (vs : List Value) (i : ℕ) where
  -- so far none does
  abbrev pub IsNoneBefore : Type 0
  IsNoneBefore = any_in passes (items_view vs) ≡ any_in passes (items_view (drop i vs))

  module _ (v : Value) (within : i < length vs) (is : v ≡ get_or vs i v) (before : IsNoneBefore) where
    split : any_in passes (items_view vs) ≡ (passes (view v) || any_in passes (items_view (drop (i + 1) vs)))
    split = before ∙ ap (λ ws. any_in passes (items_view ws)) (let tail : drop i vs ≡ v ∷ drop (i + 1) vs = rw (add-one, drop-cons vs i v within, ← is) refl in tail)

    pub passes-here : passes (view v) ≡ true → any_in passes (items_view vs) ≡ true
    passes-here test = split ∙ ap (λ b. b || any_in passes (items_view (drop (i + 1) vs))) test

    pub none-here : passes (view v) ≡ false → any_in passes (items_view vs) ≡ any_in passes (items_view (drop (i + 1) vs))
    none-here test = split ∙ ap (λ b. b || any_in passes (items_view (drop (i + 1) vs))) test

  pub none-passes : length vs ≤ i → IsNoneBefore → any_in passes (items_view vs) ≡ false
  none-passes over before = before ∙ ap (λ ws. any_in passes (items_view ws)) (drop_all i vs over)

-- What the rules on a proposition leave open is its state alone.
use Rattle.std.proofs.Common.{◌≡◌, ◌∙◌, sym, ap, refl, ℕ, zero, suc, Bool, true, false, cond, ◌||◌, List, [], ◌∷◌, Option, Some, None, inl, inr}
use Rattle.std.specs.Prelude.{find, reverse, slice_get}
use Rattle.std.specs.Option.{option_map_or, option_or}
use Rattle.std.proofs.lemmas.Bool.{cases_Bool}
use Rattle.std.proofs.lemmas.List.{reverse-append}
use Rattle.std.proofs.lemmas.List.Folds.{find-append}
use Rattle.mt_model.specs.State.{Change}
use Rattle.axiom_rules.proofs.BoolLemmas.{apart}
use Rattle.axiom_rules.proofs.ChangeLemmas.{first_passes, last_of}

module _ (p : Change → Bool) where
  last-of_more : (c : Change) (cs : List Change) → last_of p (c ∷ cs) ≡ option_or (last_of p cs) (cond (p c) (Some c) None)
  last-of_more c cs = ap (find p) (reverse-append (c ∷ []) cs) ∙ find-append p (reverse cs) (c ∷ [])

  -- where no change passes, the first one does not
  none-first : (cs : List Change) → last_of p cs ≡ None → first_passes p cs ≡ false
  none-first [] h = refl
  none-first (c ∷ cs) h = go (last_of p cs) (p c) (sym (last-of_more c cs) ∙ h)
    where
      go : (o : Option Change) (b : Bool) → option_or o (cond b (Some c) None) ≡ None → b ≡ false
      go None true h = absurd (cc)
      go None false h = refl
      go (Some x) b h = absurd (cc)

  module _ (value : Bool) where
    -- from a change that passes on, up to one that does not, the value is what the change makes it
    abbrev pub FollowsChanges : List Change → Type 0
    FollowsChanges cs = (place : ℕ) (c : Change) → slice_get cs place ≡ Some c → p c ≡ true → option_map_or p (slice_get cs (suc place)) false ≡ false → value ≡ c.sets

    is-last : (cs : List Change) → FollowsChanges cs → (c : Change) → last_of p cs ≡ Some c → value ≡ c.sets
    is-last [] follows c last = absurd (cc)
    is-last (d ∷ ds) follows c last = go (λ h. is-last ds (λ place x. follows (suc place) x) c h) (last_of p ds) refl (p d) refl (sym (last-of_more d ds) ∙ last)
      where
        go : (last_of p ds ≡ Some c → value ≡ c.sets) → (o : Option Change) → last_of p ds ≡ o → (b : Bool) → p d ≡ b → option_or o (cond b (Some d) None) ≡ Some c → value ≡ c.sets
        go later None none true passes is =
            let same : d ≡ c = cc in
            follows zero d refl passes (none-first ds none) ∙ ap (λ (x : Change). x.sets) same
        go later None none false passes is = absurd (cc)
        go later (Some x) some b passes is = later (some ∙ is)

    -- the value is what the last change that passes makes it, and false where there is none
    state-exact : (cs : List Change) → (value ≡ true → first_passes p cs ≡ true) → FollowsChanges cs → value ≡ option_map_or (λ c. c.sets) (last_of p cs) false
    state-exact cs changed follows = go (last_of p cs) refl
      where
        go : (o : Option Change) → last_of p cs ≡ o → value ≡ option_map_or (λ c. c.sets) o false
        go (Some c) last = is-last cs follows c last
        go None none = elim (cases_Bool value) [
          | inl holds ↦ absurd (apart (first_passes p cs) (changed holds) (none-first cs none))
          | inr fails ↦ fails
        ]

    -- and where the proposition is pulsed, it is true
    pub pulsed-exact : (pulsed : Bool) (cs : List Change) → (pulsed ≡ true → value ≡ true) → (pulsed ≡ false → value ≡ true → first_passes p cs ≡ true) → (pulsed ≡ false → FollowsChanges cs)
        → value ≡ pulsed || option_map_or (λ c. c.sets) (last_of p cs) false
    pulsed-exact true cs on changed follows = on refl
    pulsed-exact false cs on changed follows = state-exact cs (changed refl) (follows refl)

-- The way back along causes, one event longer, and the cycle that it ends in.
use Rattle.std.proofs.Common.{◌≡◌, ◌≢◌, ◌∙◌, sym, ap, ℕ, ◌+◌, ◌-◌, ◌<◌, ◌≤◌, inl, inr, Bool, false, List, [], ◌∷◌, ◌++◌, length, drop, get_or, arith, length-drop, get_or-drop}
use Rattle.std.specs.Prelude.{All, AllPairs, reverse, slice_index}
use Rattle.std.specs.List.{AllAdjacentBelow}
use Rattle.std.proofs.lemmas.Bool.{cases_eq}
use Rattle.std.proofs.lemmas.Bool.Decides.{Decides-eqb}
use Rattle.std.proofs.lemmas.List.{get_or-reverse, get_or_append_left, get_or_push, length-reverse, length_push}
use Rattle.std.proofs.lemmas.List.Elements.{All-push}
use Rattle.std.proofs.lemmas.List.Quantifiers.{all_pairs_push}
use Rattle.std.proofs.lemmas.Map.Made.{IsDistinct-from_AllPairs}
use Rattle.std.proofs.lemmas.Map.Steps.{length-le_from_distinct_below}
use Rattle.happened_before.specs.declared.causes.Causes.{Causes}
use Rattle.happened_before.specs.Causes.{IsAmong, causes_at, is_finished}
use Rattle.happened_before.specs.Cycles.{IsCausal, IsPath}
use Rattle.mt_list.proofs.Lists.{stands_below}

-- distinct numbers below n are at most n
few-below : (n : ℕ) (xs : List ℕ) → AllPairs (λ x y. x ≢ y) xs → All (λ x. x < n) xs → length xs ≤ n
few-below n xs once each = length-le_from_distinct_below xs n (IsDistinct-from_AllPairs Decides-eqb xs once) (stands_below n xs each)

module _ (table : List Causes) (finished : List Bool) (path : List ℕ) (here : ℕ) (is : IsPath table finished path here) where
  abbrev Back : ℕ → ℕ → Type 0
  Back e f = IsAmong (causes_at table e) f

  -- each event of the way has the next as a cause
  back-next : (k j d : ℕ) → k + 1 ≡ j → j < length path → Back (get_or path k d) (get_or path j d)
  back-next k j d next within =
      let first = get_or_append_left path (here ∷ []) d k (omega arith) in
      let second = get_or_append_left path (here ∷ []) d j within in
      rw (← first, ← second, ← next) (is.back k d (omega arith))

  -- and the last one the event here
  back-last : (k d : ℕ) → k + 1 ≡ length path → Back (get_or path k d) here
  back-last k d last =
      let first = get_or_append_left path (here ∷ []) d k (omega arith) in
      let second = get_or_push path here d (k + 1) (sym last) in
      let step = is.back k d (omega arith) in
      rw (first, second) at step

  module _ (new : All (λ e. e ≢ here) path) where
    once-push : AllPairs (λ e f. e ≢ f) (path ++ here ∷ [])
    once-push = all_pairs_push (λ e f. e ≢ f) path here is.once (λ k d within. new k d within)

    within-push : All (λ e. e < length table) (path ++ here ∷ [])
    within-push = All-push (λ e. e < length table) path here is.within is.last

    -- so the way has fewer events than the table
    pub path-short : length path < length table
    path-short = omega (arith, few-below (length table) (path ++ here ∷ []) once-push within-push, length_push path here)

    back-push : (d : ℕ) → Back here d → AllAdjacentBelow Back (path ++ here ∷ [] ++ d ∷ []) (length (path ++ here ∷ []) + 1)
    back-push d cause k z within =
        let size = length_push path here in
        let first = get_or_append_left (path ++ here ∷ []) (d ∷ []) z k (omega arith) in
        elim (cases_eq k (length path)) [
          | inl end ↦
              let one : get_or (path ++ here ∷ []) k z ≡ here = get_or_push path here z k (sym end) in
              let two : get_or (path ++ here ∷ [] ++ d ∷ []) (k + 1) z ≡ d = get_or_push (path ++ here ∷ []) d z (k + 1) (omega arith) in
              rw (first, one, two) cause
          | inr other ↦
              let two = get_or_append_left (path ++ here ∷ []) (d ∷ []) z (k + 1) (omega arith) in
              rw (first, two) (is.back k z (omega arith))
        ]

    pub path-push : (d : ℕ) → Back here d → d < length table → is_finished finished d ≡ false → IsPath table finished (path ++ here ∷ []) d
    path-push d cause within waits = record {
      once = once-push;
      within = within-push;
      back = back-push d cause;
      last = within;
      unfinished = waits;
    }

  -- from the place where the event here stands, the way back is a cycle
  module _ (i : ℕ) (within : i < length path) (found : slice_index path i ≡ here) where
    abbrev events : List ℕ
    events = reverse (drop i path)

    size : length events + i ≡ length path
    size = omega (arith, length-reverse (drop i path), length-drop i path)

    event-at : (k j d : ℕ) → k + 1 + j ≡ length path → k < length events → get_or events k d ≡ get_or path j d
    event-at k j d sum low =
        let place : i + (length (drop i path) - 1 - k) ≡ j = omega (arith, length-reverse (drop i path), size) in
        get_or-reverse (drop i path) k d (omega (arith, length-reverse (drop i path))) ∙ get_or-drop i path (length (drop i path) - 1 - k) d ∙ ap (λ n. get_or path n d) place

    pub path-cycle : IsCausal table events
    path-cycle = record {
      some = omega (arith, size);
      within = λ k d low.
          let j = length path - 1 - k in
          let at = event-at k j d (omega (arith, size)) low in
          rw at (is.within j d (omega (arith, size)));
      once = λ a b d order low same.
          let first = event-at a (length path - 1 - a) d (omega (arith, size)) (omega arith) in
          let second = event-at b (length path - 1 - b) d (omega (arith, size)) low in
          is.once (length path - 1 - b) (length path - 1 - a) d (omega (arith, size)) (omega (arith, size)) (sym second ∙ sym same ∙ first);
      next = λ k d low.
          let first = event-at k (length path - 1 - k) d (omega (arith, size)) (omega arith) in
          let second = event-at (k + 1) (length path - 2 - k) d (omega (arith, size)) low in
          rw (first, second) (back-next (length path - 2 - k) (length path - 1 - k) d (omega (arith, size)) (omega arith));
      closed =
          let first = event-at 0 (length path - 1) 0 (omega (arith, size)) (omega (arith, size)) in
          let last = event-at (length events - 1) i 0 (omega (arith, size)) (omega (arith, size)) in
          rw (first, last, found) (back-last (length path - 1) 0 (omega arith));
    }

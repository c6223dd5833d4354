-- Each bound that is listed has an edge, and there are few of them.
use Rattle.std.proofs.Common.{◌≡◌, refl, arith, ℕ, zero, suc, ◌+◌, ◌*◌, ◌<◌, ◌≤◌, List, [], ◌∷◌, ◌++◌, length, length-append, map, Bool, true, false, cond, ◌&&◌, Option, Some, None, All, ℤ}
use Rattle.std.specs.Prelude.{IsSome, is_some, option_and_then, slice_get}
use Rattle.std.specs.List.{flat_map, range_with_len}
use Rattle.std.proofs.lemmas.Bool.Decides.{nat_tests}
use Rattle.std.proofs.lemmas.List.FromFn.{length-map-range_with_len}
use Rattle.std.proofs.lemmas.List.Elements.{All-nil, All-cons, All-append}
use Rattle.mt_model.specs.declared.bound.Bound.{Bound}
use Rattle.mt_model.specs.declared.bound.Bound.TheVariants as bound
use Rattle.mt_model.specs.declared.log.Extra.{Extra}
use Rattle.mt_model.specs.Bounds.{bounds_at, bounds_of, is_limited, step_of}
use Rattle.mt_model.specs.Log.{IsExtra, IsLog, Logged}
use Rattle.mt_model.specs.Timing.{clock_of, most_delay, previous_row, send_of}
use Rattle.mt_model.specs.Walks.{Edge, edge_of, is_row}
use Rattle.mt_model.proofs.Resyncs.{at-place}

All-flat_map-where : {X : Type 0} (P : X → Type 0) (f : ℕ → List X) (a n : ℕ) → ((e : ℕ) → e < a + n → All P (f e)) → All P (flat_map f (range_with_len a n))
All-flat_map-where P f a zero each = All-nil P
All-flat_map-where P f a (suc n) each = All-append P (f a) (flat_map f (range_with_len (a + 1) n)) (each a (omega arith)) (All-flat_map-where P f (a + 1) n (λ e below. each e (omega arith)))

All-map-where : {X : Type 0} (P : X → Type 0) (f : ℕ → X) (a n : ℕ) → ((e : ℕ) → e < a + n → P (f e)) → All P (map f (range_with_len a n))
All-map-where P f a zero each = All-nil P
All-map-where P f a (suc n) each = All-cons P (f a) (map f (range_with_len (a + 1) n)) (each a (omega arith)) (All-map-where P f (a + 1) n (λ e below. each e (omega arith)))

slice_get-some : {X : Type 0} (xs : List X) (k : ℕ) → k < length xs → IsSome (slice_get xs k)
slice_get-some [] k within = absurd (omega arith)
slice_get-some (x ∷ xs) zero within = refl
slice_get-some (x ∷ xs) (suc k) within = slice_get-some xs k (omega arith)

module _ (log : Logged) (valid : IsLog log) where
  abbrev HasEdge : Bound → Type 0
  HasEdge b = IsSome (edge_of log (step_of b))

  row_at : (e : ℕ) → e < length log.rows → is_row log e ≡ true
  row_at e within = grind (arith, nat_tests)

  rise-has : (f : ℕ) → f < length log.rows → All HasEdge (cond (is_some (previous_row log f)) (bound.Rise f ∷ []) [])
  rise-has f within = by (previous_row log f) refl
    where
      by : (o : Option ℕ) → previous_row log f ≡ o → All HasEdge (cond (is_some o) (bound.Rise f ∷ []) [])
      by None is = All-nil HasEdge
      by (Some e) is = All-cons HasEdge (bound.Rise f) [] (rw (row_at f within, is) refl) (All-nil HasEdge)

  message-has : (r : ℕ) → All HasEdge (cond (is_some (send_of log r)) (bound.Message r ∷ []) [])
  message-has r = by (send_of log r) refl
    where
      by : (o : Option ℕ) → send_of log r ≡ o → All HasEdge (cond (is_some o) (bound.Message r ∷ []) [])
      by None is = All-nil HasEdge
      by (Some s) is = All-cons HasEdge (bound.Message r) [] (rw is refl) (All-nil HasEdge)

  late-has : (r : ℕ) → All HasEdge (cond (is_limited log r) (bound.Late r ∷ []) [])
  late-has r = by (send_of log r) (most_delay log r) refl refl
    where
      by : (o : Option ℕ) (d : Option ℤ) → send_of log r ≡ o → most_delay log r ≡ d → All HasEdge (cond (is_some o && is_some d) (bound.Late r ∷ []) [])
      by None None sent limited = All-nil HasEdge
      by None (Some most) sent limited = All-nil HasEdge
      by (Some s) None sent limited = All-nil HasEdge
      by (Some s) (Some most) sent limited = All-cons HasEdge (bound.Late r) [] (rw (sent, limited) refl) (All-nil HasEdge)

  read-has : (e : ℕ) → e < length log.rows → All HasEdge (cond (is_some (clock_of log e)) (bound.Under e ∷ bound.Over e ∷ []) [])
  read-has e within = by (clock_of log e) refl
    where
      by : (o : Option ℕ) → clock_of log e ≡ o → All HasEdge (cond (is_some o) (bound.Under e ∷ bound.Over e ∷ []) [])
      by None is = All-nil HasEdge
      by (Some k) is = All-cons HasEdge (bound.Under e) (bound.Over e ∷ []) (rw (row_at e within, is) refl) (All-cons HasEdge (bound.Over e) [] (rw (row_at e within, is) refl) (All-nil HasEdge))

  row-has : (e : ℕ) → e < length log.rows → All HasEdge (bounds_at log e)
  row-has e within =
      let rises = cond (is_some (previous_row log e)) (bound.Rise e ∷ []) [] in
      let receives = cond (is_some (send_of log e)) (bound.Message e ∷ []) [] in
      let clock = All-cons HasEdge (bound.Low e) (bound.High e ∷ []) (rw (row_at e within) refl) (All-cons HasEdge (bound.High e) [] (rw (row_at e within) refl) (All-nil HasEdge)) in
      let rise = All-append HasEdge (bound.Low e ∷ bound.High e ∷ []) rises clock (rise-has e within) in
      let message = All-append HasEdge (bound.Low e ∷ bound.High e ∷ [] ++ rises) receives rise (message-has e) in
      let lates = cond (is_limited log e) (bound.Late e ∷ []) [] in
      let late = All-append HasEdge (bound.Low e ∷ bound.High e ∷ [] ++ rises ++ receives) lates message (late-has e) in
      All-append HasEdge (bound.Low e ∷ bound.High e ∷ [] ++ rises ++ receives ++ lates) (cond (is_some (clock_of log e)) (bound.Under e ∷ bound.Over e ∷ []) []) late (read-has e within)

  extra-has : (k : ℕ) → k < length log.extras → HasEdge (bound.Extra k)
  extra-has k within = by (slice_get log.extras k) refl (slice_get-some log.extras k within)
    where
      by : (o : Option Extra) → slice_get log.extras k ≡ o → IsSome o
          → IsSome (option_and_then (λ x. cond (is_row log x.e && is_row log x.f) (Some (let made : Edge = record { from = suc x.e; to = suc x.f; bound = x.c } in made)) None) o)
      by None is some = absurd (cc)
      by (Some x) is some =
          let extra = at-place (IsExtra (length log.rows)) log.extras k x valid.extras is in
          rw (row_at x.e extra.e, row_at x.f extra.f) refl

  pub all-have : All HasEdge (bounds_of log)
  all-have =
      All-append HasEdge (flat_map (bounds_at log) (range_with_len 0 (length log.rows))) (map bound.Extra (range_with_len 0 (length log.extras)))
      (All-flat_map-where HasEdge (bounds_at log) 0 (length log.rows) (λ e below. row-has e (omega arith)))
      (All-map-where HasEdge bound.Extra 0 (length log.extras) (λ k below. extra-has k (omega arith)))

module _ (log : Logged) where
  -- a row has at most seven bounds
  row-few : (e : ℕ) → length (bounds_at log e) ≤ 7
  row-few e = by (is_some (previous_row log e)) (is_some (send_of log e)) (is_limited log e) (is_some (clock_of log e))
    where
      only : (b : Bool) (x : Bound) → length (cond b (x ∷ []) []) ≤ 1
      only true x = omega arith
      only false x = omega arith

      both : (b : Bool) (x y : Bound) → length (cond b (x ∷ y ∷ []) []) ≤ 2
      both true x y = omega arith
      both false x y = omega arith

      by : (rises receives limited reads : Bool)
          → length (bound.Low e ∷ bound.High e ∷ [] ++ cond rises (bound.Rise e ∷ []) [] ++ cond receives (bound.Message e ∷ []) [] ++ cond limited (bound.Late e ∷ []) [] ++ cond reads (bound.Under e ∷ bound.Over e ∷ []) []) ≤ 7
      by rises receives limited reads =
          simp length-append (omega (arith, only rises (bound.Rise e), only receives (bound.Message e), only limited (bound.Late e), both reads (bound.Under e) (bound.Over e)))

  rows-few : (a n : ℕ) → length (flat_map (bounds_at log) (range_with_len a n)) ≤ 7 * n
  rows-few a zero = omega arith
  rows-few a (suc n) = omega (arith, length-append (bounds_at log a) (flat_map (bounds_at log) (range_with_len (a + 1) n)), row-few a, rows-few (a + 1) n)

  pub few-bounds : length (bounds_of log) ≤ 7 * length log.rows + length log.extras
  few-bounds =
      omega (
        arith,
        length-append (flat_map (bounds_at log) (range_with_len 0 (length log.rows)))
            (map bound.Extra (range_with_len 0 (length log.extras))),
        rows-few 0 (length log.rows),
        length-map-range_with_len bound.Extra
            0 (length log.extras),
      )

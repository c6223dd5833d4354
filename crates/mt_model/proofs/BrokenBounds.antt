-- No bound is broken exactly where all are met, with offsets.
use Rattle.std.proofs.Common.{◌≡◌, ◌∙◌, refl, sym, ap, ℕ, zero, suc, zero-add, ◌<◌, ◌≤◌, ◌==◌, ◌&&◌, Bool, true, false, not, cond, List, [], ◌∷◌, ◌++◌, length, get_or, All, Option, Some, None, arith, ℤ, ◌+ℤ◌, ◌-ℤ◌, ◌≤ℤ◌, inl, inr}
use Rattle.std.specs.Prelude.{IfSome, find, int_le, nat_lt, slice_get, option_map}
use Rattle.std.specs.List.{AllByRecursion, list_any, range_with_len}
use Rattle.std.specs.Option.{option_map_or}
use Rattle.std.proofs.lemmas.Int.{ints}
use Rattle.std.proofs.lemmas.Bool.{cases_Bool, cases_eq, eqb-true, ltb-false, ltb-true}
use Rattle.std.proofs.lemmas.Bool.Decides.{nat_tests}
use Rattle.std.proofs.lemmas.List.Elements.{All-from_recursion}
use Rattle.std.proofs.lemmas.List.Folds.{list_any_at, list_any_none}
use Rattle.std.proofs.lemmas.List.FromFn.{get_or-range_with_len, length-range_with_len}
use Rattle.std.proofs.lemmas.Option.{cond_some, option_and_then_some}
use Rattle.mt_model.specs.declared.bound.Bound.{Bound}
use Rattle.mt_model.specs.declared.bound.Bound.TheVariants as bound
use Rattle.mt_model.specs.Bounds.{IsBetweenRows, UnbrokenIsAdmissible, bounds_of, breaks, breaks_edge, first_broken, is_too_far_ahead, meets, read_one, shift_of, step_of}
use Rattle.mt_model.specs.Clocks.{ClocksAgree, offsets_of}
use Rattle.mt_model.specs.Log.{IsLog, Logged}
use Rattle.mt_model.specs.Timing.{Admissible, AreOffsets, clock_of, error_of, previous_row, send_of}
use Rattle.mt_model.specs.Walks.{Edge, Meets, edge_of, is_row, node_time}
use Rattle.mt_model.proofs.BoundLists.{IfSome-where, bounds-admissible, met, over_listed, under_listed}
use Rattle.mt_model.proofs.Conflicts.{both_true, guarded_some, mapped_some, receive_within, send_within}
use Rattle.mt_model.proofs.NodeTimes.{clock-time, row-time}
use Rattle.mt_model.proofs.Offsets.{agree-from, error-within, offsets-from, reads-from}
use Rattle.mt_model.proofs.PreviousRows.{is_last}

-- the ends of an edge are the zero moment or rows
pub record HasRowEnds (log : Logged) (x : Edge) : Type 0 where
  pub from : x.from ≤ length log.rows
  pub to : x.to ≤ length log.rows

module _ (log : Logged) where
  pub row-ends : (b : Bound) (x : Edge) → IsBetweenRows b → edge_of log (step_of b) ≡ Some x → HasRowEnds log x
  row-ends (bound.Low e) x of is =
      let parts = cond_some _ _ _ is in
      let within = ltb-true _ _ parts.0 in
      rw (← parts.1) (record { from = omega arith; to = omega (arith, within) })
  row-ends (bound.High e) x of is =
      let parts = cond_some _ _ _ is in
      let within = ltb-true _ _ parts.0 in
      rw (← parts.1) (record { from = omega (arith, within); to = omega arith })
  row-ends (bound.Rise f) x of is =
      let guarded = guarded_some (is_row log f) (option_map _ (previous_row log f)) x is in
      let parts = mapped_some _ _ _ guarded.1 in
      let within = ltb-true _ _ guarded.0 in
      let before = (is_last.found log parts.0 f parts.1).before in
      rw (← parts.2) (record { from = omega (arith, before, within); to = omega (arith, within) })
  row-ends (bound.Message r) x of is =
      let parts = mapped_some _ _ _ is in
      let receive = receive_within log r parts.0 parts.1 in
      let send = send_within log r parts.0 parts.1 in
      rw (← parts.2) (record { from = omega (arith, send); to = omega (arith, receive) })
  row-ends (bound.Late r) x of is =
      option_and_then_some _ (send_of log r) x is
      (λ s sent limited. let parts = mapped_some _ _ _ limited in
      let receive = receive_within log r s sent in
      let send = send_within log r s sent in
      rw (← parts.2) (record { from = omega (arith, receive); to = omega (arith, send) }))
  row-ends (bound.Under e) x of is = absurd of
  row-ends (bound.Over e) x of is = absurd of
  row-ends (bound.Extra k) x of is =
      option_and_then_some _ (slice_get log.extras k) x is
      (λ y at guarded. let parts = cond_some _ _ _ guarded in
      let rows = both_true (is_row log y.e) (is_row log y.f) parts.0 in
      let first = ltb-true _ _ rows.0 in
      let second = ltb-true _ _ rows.1 in
      rw (← parts.1) (record { from = omega (arith, first); to = omega (arith, second) }))

module _ (log : Logged) (t offsets : List ℤ) (count : length t ≡ length log.rows) where
  node-same : (n : ℕ) → n ≤ length log.rows → node_time (t ++ offsets) n ≡ node_time t n
  node-same zero within = refl
  node-same (suc e) within = row-time log t offsets count e (omega (arith, within))

  abbrev IsMet : Bound → Type 0
  IsMet b = IfSome (edge_of log (step_of b)) (Meets (t ++ offsets))

  met-then : (b : Bound) → IsBetweenRows b → breaks_edge log t b ≡ false → IsMet b
  met-then b of h = IfSome-where (edge_of log (step_of b)) (Meets (t ++ offsets)) (λ x is.
      let ends = row-ends log b x of is in
      let from = node-same x.from ends.from in
      let to = node-same x.to ends.to in
      let unbroken : not (meets t x) ≡ false = rw is at h in
      elim (cases_Bool (meets t x)) [
        | inl is_met ↦ omega (arith, ints, is_met, from, to)
        | inr fails ↦ let bad : true ≡ false = rw fails at unbroken in absurd (cc)
      ])

  met-from : (b : Bound) → IsBetweenRows b → IsMet b → breaks_edge log t b ≡ false
  met-from b of = go (edge_of log (step_of b)) refl
    where
      go : (o : Option Edge) → edge_of log (step_of b) ≡ o → IfSome o (Meets (t ++ offsets)) → option_map_or (λ x. not (meets t x)) o false ≡ false
      go None is h = refl
      go (Some x) is h =
          let ends = row-ends log b x of is in
          let from = node-same x.from ends.from in
          let to = node-same x.to ends.to in
          let met : (node_time t x.from -ℤ node_time t x.to) ≤ℤ x.bound = omega (arith, ints, h, from, to) in
          let is_met : meets t x ≡ true = grind (arith, ints) in
          rw is_met refl

-- rows of one clock
module _ (log : Logged) (t : List ℤ) (valid : IsLog log) where
  read_one-from : (e f k : ℕ) → clock_of log e ≡ Some k → clock_of log f ≡ Some k → read_one log e f ≡ true
  read_one-from e f k first second = rw first (reads-from log k f second)

  ahead-then : (e f k : ℕ) → clock_of log e ≡ Some k → clock_of log f ≡ Some k → is_too_far_ahead log t e f ≡ false
      → (shift_of log t e -ℤ shift_of log t f) ≤ℤ (error_of log e +ℤ error_of log f)
  ahead-then e f k first second h = go (int_le (shift_of log t e -ℤ shift_of log t f) (error_of log e +ℤ error_of log f)) refl (rw (read_one-from e f k first second) at h)
    where
      go : (b : Bool) → int_le (shift_of log t e -ℤ shift_of log t f) (error_of log e +ℤ error_of log f) ≡ b → not b ≡ false → (shift_of log t e -ℤ shift_of log t f) ≤ℤ (error_of log e +ℤ error_of log f)
      go true is h = omega (arith, ints, is)
      go false is h = absurd (cc)

  -- none of the rows before e is such a one
  none-before : (p : ℕ → Bool) (e f : ℕ) → list_any p (range_with_len 0 e) ≡ false → f < e → p f ≡ false
  none-before p e f none before = go (p f) refl
    where
      go : (b : Bool) → p f ≡ b → p f ≡ false
      go false is = is
      go true is =
          let at : get_or (range_with_len 0 e) f 0 ≡ f = get_or-range_with_len 0 e f 0 before ∙ zero-add f in
          let some = list_any_at p (range_with_len 0 e) f 0 (simp length-range_with_len before) (ap p at ∙ is) in
          let bad : true ≡ false = sym some ∙ none in absurd (cc)

  module _ (all : All (λ b. breaks log t b ≡ false) (bounds_of log)) where
    agree-then : ClocksAgree log t
    agree-then e f k in-e in-f first second = elim (cases_eq e f) [
      | inl same ↦ let error = (error-within log valid e).0 in rw (← same) (omega (arith, ints, error))
      | inr other ↦ elim (cases_Bool (nat_lt e f)) [
        | inl before ↦
            let row : is_row log f ≡ true = grind (arith, nat_tests) in
            let under = rw row at (under_listed log (λ b. breaks log t b ≡ false) all f k in-f second) in
            ahead-then e f k first second (none-before (λ g. is_too_far_ahead log t g f) f e under (ltb-true _ _ before))
        | inr after ↦
            let row : is_row log e ≡ true = grind (arith, nat_tests) in
            let over = rw row at (over_listed log (λ b. breaks log t b ≡ false) all e k in-e first) in
            ahead-then e f k first second (none-before (λ g. is_too_far_ahead log t e g) e f over (let n = ltb-false _ _ after in omega (arith, n, other)))
      ]
    ]

  module _ (agree : ClocksAgree log t) where
    ahead-from : (e f : ℕ) → e < length log.rows → f < length log.rows → is_too_far_ahead log t e f ≡ false
    ahead-from e f in-e in-f = go (clock_of log e) (clock_of log f) refl refl
      where
        go : (o p : Option ℕ) → clock_of log e ≡ o → clock_of log f ≡ p
            → (option_map_or (λ k. option_map_or (λ m. k == m) p false) o false && not (int_le (shift_of log t e -ℤ shift_of log t f) (error_of log e +ℤ error_of log f))) ≡ false
        go None p first second = refl
        go (Some k) None first second = refl
        go (Some k) (Some m) first second = elim (cases_Bool (k == m)) [
          | inl same ↦
              let is = eqb-true k m same in
              let apart = agree e f m in-e in-f (first ∙ ap Some is) second in
              let least : int_le (shift_of log t e -ℤ shift_of log t f) (error_of log e +ℤ error_of log f) ≡ true = grind (arith, ints) in
              rw (same, least) refl
          | inr other ↦ rw other refl
        ]

    none-ahead : (p : ℕ → Bool) (e : ℕ) → ((f : ℕ) → f < e → p f ≡ false) → list_any p (range_with_len 0 e) ≡ false
    none-ahead p e fails = list_any_none p (range_with_len 0 e) (λ f d within.
        let below : f < e = simp length-range_with_len at within in
        ap p (get_or-range_with_len 0 e f d below ∙ zero-add f) ∙ fails f below)

    unbroken-read : (e : ℕ) (b : Bool) → is_row log e ≡ b → ((b && list_any (λ f. is_too_far_ahead log t f e) (range_with_len 0 e)) ≡ false) × ((b && list_any (λ f. is_too_far_ahead log t e f) (range_with_len 0 e)) ≡ false)
    unbroken-read e false is = (refl, refl)
    unbroken-read e true is =
        let within = ltb-true _ _ is in (
          none-ahead (λ f. is_too_far_ahead log t f e) e (λ f low. ahead-from f e (omega (arith, low, within)) within),
          none-ahead (λ f. is_too_far_ahead log t e f) e (λ f low. ahead-from e f within (omega (arith, low, within))),
        )

module _ (log : Logged) (t : List ℤ) (valid : IsLog log) (count : length t ≡ length log.rows) where
  none-all : (bs : List Bound) → find (breaks log t) bs ≡ None → AllByRecursion (λ b. breaks log t b ≡ false) bs
  none-all [] none = tt
  none-all (b ∷ bs) none = go (breaks log t b) refl none (none-all bs)
    where
      go : (broken : Bool) → breaks log t b ≡ broken → cond broken (Some b) (find (breaks log t) bs) ≡ None
          → (find (breaks log t) bs ≡ None → AllByRecursion (λ b. breaks log t b ≡ false) bs) → (breaks log t b ≡ false) × AllByRecursion (λ b. breaks log t b ≡ false) bs
      go true is none rest = absurd (cc)
      go false is none rest = (is, rest none)

  all-none : (bs : List Bound) → ((b : Bound) → breaks log t b ≡ false) → find (breaks log t) bs ≡ None
  all-none [] each = refl
  all-none (b ∷ bs) each = rw (each b) (all-none bs each)

  -- with the offsets that the rows allow, what isn't broken is met
  module _ (are : AreOffsets log t (offsets_of log t)) where
    all-met : (b : Bound) → breaks log t b ≡ false → IfSome (edge_of log (step_of b)) (Meets (t ++ offsets_of log t))
    all-met (bound.Low e) h = met-then log t (offsets_of log t) count (bound.Low e) tt h
    all-met (bound.High e) h = met-then log t (offsets_of log t) count (bound.High e) tt h
    all-met (bound.Rise e) h = met-then log t (offsets_of log t) count (bound.Rise e) tt h
    all-met (bound.Message e) h = met-then log t (offsets_of log t) count (bound.Message e) tt h
    all-met (bound.Late e) h = met-then log t (offsets_of log t) count (bound.Late e) tt h
    all-met (bound.Under e) h = IfSome-where (edge_of log (step_of (bound.Under e))) (Meets (t ++ offsets_of log t)) (λ x is.
        let guarded = guarded_some (is_row log e) (option_map _ (clock_of log e)) x is in
        let parts = mapped_some _ _ _ guarded.1 in
        let within = ltb-true _ _ guarded.0 in
        rw (← parts.2) (omega (arith, ints, are.under e parts.0 within parts.1, row-time log t (offsets_of log t) count e within, clock-time log t (offsets_of log t) count parts.0)))
    all-met (bound.Over e) h = IfSome-where (edge_of log (step_of (bound.Over e))) (Meets (t ++ offsets_of log t)) (λ x is.
        let guarded = guarded_some (is_row log e) (option_map _ (clock_of log e)) x is in
        let parts = mapped_some _ _ _ guarded.1 in
        let within = ltb-true _ _ guarded.0 in
        rw (← parts.2) (omega (arith, ints, are.over e parts.0 within parts.1, row-time log t (offsets_of log t) count e within, clock-time log t (offsets_of log t) count parts.0)))
    all-met (bound.Extra k) h = met-then log t (offsets_of log t) count (bound.Extra k) tt h

  -- an admissible timing breaks no bound
  module _ (ok : Admissible log t) where
    agree : ClocksAgree log t
    agree = agree-from log valid t ok.clocks.offsets ok.clocks.are

    unbroken-by : (b : Bound) → breaks log t b ≡ false
    unbroken-by (bound.Low e) = met-from log t ok.clocks.offsets count (bound.Low e) tt (met log t ok (bound.Low e))
    unbroken-by (bound.High e) = met-from log t ok.clocks.offsets count (bound.High e) tt (met log t ok (bound.High e))
    unbroken-by (bound.Rise e) = met-from log t ok.clocks.offsets count (bound.Rise e) tt (met log t ok (bound.Rise e))
    unbroken-by (bound.Message e) = met-from log t ok.clocks.offsets count (bound.Message e) tt (met log t ok (bound.Message e))
    unbroken-by (bound.Late e) = met-from log t ok.clocks.offsets count (bound.Late e) tt (met log t ok (bound.Late e))
    unbroken-by (bound.Under e) = (unbroken-read log t valid agree e (is_row log e) refl).0
    unbroken-by (bound.Over e) = (unbroken-read log t valid agree e (is_row log e) refl).1
    unbroken-by (bound.Extra k) = met-from log t ok.clocks.offsets count (bound.Extra k) tt (met log t ok (bound.Extra k))

  admissible-then : first_broken log t ≡ None → Admissible log t
  admissible-then none =
      let all = All-from_recursion (λ b. breaks log t b ≡ false) (bounds_of log) (none-all (bounds_of log) none) in
      let are = offsets-from log valid t (agree-then log t valid all) in
      (bounds-admissible log t valid).1 (
        count,
        record {
          offsets = offsets_of log t;
          count = are.count;
          each = λ k b within. all-met are (get_or (bounds_of log) k b) (all k b within);
        },
      )

pub unbroken : UnbrokenIsAdmissible
unbroken log t valid count = (
  λ none. admissible-then log t valid count none,
  λ ok. all-none log t valid count (bounds_of log) (unbroken-by log t valid count ok),
)

-- The state of a proposition and its changes, whose times rise.
use Rattle.std.proofs.Common.{◌≡◌, ◌∙◌, sym, ap, refl, ℕ, zero, suc, ◌+◌, ◌<◌, ◌≤◌, Bool, true, false, cond, List, [], ◌∷◌, Option, Some, None, arith, ℤ, ◌≤ℤ◌}
use Rattle.std.specs.Prelude.{◌==◌, find, reverse, option_and_then, option_map, slice_get, int_le, IfSome}
use Rattle.std.specs.List.{cons_option, filter_map, range_with_len}
use Rattle.std.specs.Option.{option_map_or, option_or}
use Rattle.std.proofs.lemmas.Int.{ints}
use Rattle.std.proofs.lemmas.Bool.{cases_Bool, eqb-true}
use Rattle.std.proofs.lemmas.List.{reverse-append}
use Rattle.std.proofs.lemmas.List.Folds.{find-append}
use Rattle.std.proofs.Common.{inl, inr}
use Rattle.mt_model.specs.Log.{Logged}
use Rattle.mt_model.specs.Timing.{host_of, time_of}
use Rattle.mt_model.specs.State.{Change, change_at, effect_of}

module _ (p : Change → Bool) where
  -- the last change that passes
  abbrev pub last_of : List Change → Option Change
  last_of changes = find p (reverse changes)

  last-more : (c : Change) (cs : List Change) → last_of (c ∷ cs) ≡ option_or (last_of cs) (cond (p c) (Some c) None)
  last-more c cs = ap (find p) (reverse-append (c ∷ []) cs) ∙ find-append p (reverse cs) (c ∷ [])

  -- the first change passes
  abbrev pub first_passes : List Change → Bool
  first_passes changes = option_map_or p (slice_get changes 0) false

  -- a change passes where the next one does
  abbrev pub Falls : List Change → Type 0
  Falls [] = Unit {0}
  Falls (c ∷ cs) = (first_passes cs ≡ true → p c ≡ true) × Falls cs

  -- where the first change does not pass, none does
  pub first-none : (cs : List Change) → Falls cs → first_passes cs ≡ false → last_of cs ≡ None
  first-none [] falls h = refl
  first-none (c ∷ cs) falls h =
      let later : first_passes cs ≡ false = elim (cases_Bool (first_passes cs)) [ inl is ↦ absurd (cc (falls.0 is)) | inr is ↦ is ] in
      last-more c cs ∙ rw (first-none cs falls.1 later, h) refl

  -- from a change that passes on, where the next one does not pass, it is the last one that does
  pub last-at : (cs : List Change) → Falls cs → (place : ℕ) (c : Change) → slice_get cs place ≡ Some c → p c ≡ true → option_map_or p (slice_get cs (place + 1)) false ≡ false → last_of cs ≡ Some c
  last-at [] falls place c at is next = absurd (cc)
  last-at (d ∷ ds) falls zero c at is next =
      let same : d ≡ c = cc in
      let passes : p d ≡ true = rw same is in
      last-more d ds ∙ rw (first-none ds falls.1 next, passes) at
  last-at (d ∷ ds) falls (suc place) c at is next =
      let e : suc place + 1 ≡ suc (place + 1) = omega arith in
      last-more d ds ∙ rw (last-at ds falls.1 place c at is (rw e at next)) refl

-- the change has come by an instant
abbrev pub is_by : List ℤ → ℤ → Change → Bool
is_by t instant c = int_le (time_of t c.row) instant

module _ (log : Logged) (host : ℕ) (name : List ℕ) where
  -- the row of a change is of the host
  change-row : (e : ℕ) → IfSome (change_at log host name e) (λ c. (c.row ≡ e) × (host_of log e ≡ host))
  change-row e = go (host_of log e == host) refl (option_and_then (λ r. effect_of name r.act) (slice_get log.rows e))
    where
      go : (own : Bool) → (host_of log e == host) ≡ own → (made : Option Bool)
          → IfSome (cond own (option_map (λ sets. record { row = e; sets = sets }) made) None) (λ (c : Change). (c.row ≡ e) × (host_of log e ≡ host))
      go true is None = tt
      go true is (Some sets) = (refl, eqb-true (host_of log e) host is)
      go false is made = tt

  abbrev changes_from : ℕ → ℕ → List Change
  changes_from a n = filter_map (change_at log host name) (range_with_len a n)

  -- the first change among the rows from a on
  record IsFirstChange (a n : ℕ) (c : Change) : Type 0 where
    low : a ≤ c.row
    high : c.row < a + n
    own : host_of log c.row ≡ host

  first-change : (a n : ℕ) → IfSome (slice_get (changes_from a n) 0) (IsFirstChange a n)
  first-change a zero = tt
  first-change a (suc n) = go (change_at log host name a) (change-row a) (slice_get (changes_from (a + 1) n) 0) (first-change (a + 1) n) refl
    where
      later : (o : Option Change) → IfSome o (IsFirstChange (a + 1) n) → IfSome o (IsFirstChange a (suc n))
      later None h = tt
      later (Some c) h = record { low = omega (arith, h.low); high = omega (arith, h.high); own = h.own }

      go : (o : Option Change) → IfSome o (λ c. (c.row ≡ a) × (host_of log a ≡ host)) → (q : Option Change) → IfSome q (IsFirstChange (a + 1) n)
          → slice_get (changes_from (a + 1) n) 0 ≡ q → IfSome (slice_get (cons_option o (changes_from (a + 1) n)) 0) (IsFirstChange a (suc n))
      go (Some c) row q h is = record { low = omega (arith, row.0); high = omega (arith, row.0); own = rw row.0 row.1 }
      go None row q h is = rw is (later q h)

  module _ (t : List ℤ) (instant : ℤ) (total : ℕ) (rise : (e f : ℕ) → f < total → e < f → host_of log e ≡ host_of log f → time_of t e ≤ℤ time_of t f) where
    by-earlier : (e f : ℕ) → time_of t e ≤ℤ time_of t f → int_le (time_of t f) instant ≡ true → int_le (time_of t e) instant ≡ true
    by-earlier e f less by = let g : time_of t e ≤ℤ instant = omega (arith, ints) in grind (arith, ints)

    pub changes-fall : (a n : ℕ) → a + n ≤ total → Falls (is_by t instant) (changes_from a n)
    changes-fall a zero within = tt
    changes-fall a (suc n) within = go (change_at log host name a) (change-row a) (changes-fall (a + 1) n (omega arith)) (slice_get (changes_from (a + 1) n) 0) refl (first-change (a + 1) n)
      where
        first : (c : Change) → (c.row ≡ a) × (host_of log a ≡ host) → (q : Option Change) → IfSome q (IsFirstChange (a + 1) n)
            → option_map_or (is_by t instant) q false ≡ true → (is_by t instant) c ≡ true
        first c row None h by = absurd (cc)
        first c row (Some d) h by =
            let less : c.row < d.row = omega (arith, row.0, h.low) in
            let low : d.row < total = omega (arith, h.high) in
            let own : host_of log c.row ≡ host_of log d.row = rw row.0 (row.1 ∙ sym h.own) in
            by-earlier c.row d.row (rise c.row d.row low less own) by

        go : (o : Option Change) → IfSome o (λ c. (c.row ≡ a) × (host_of log a ≡ host)) → Falls (is_by t instant) (changes_from (a + 1) n) → (q : Option Change)
            → slice_get (changes_from (a + 1) n) 0 ≡ q → IfSome q (IsFirstChange (a + 1) n) → Falls (is_by t instant) (cons_option o (changes_from (a + 1) n))
        go None row falls q is h = falls
        go (Some c) row falls q is h = ((λ by. first c row q h (rw is at by)), falls)

-- Clocks that are joined along the direct order are vector clocks, and events that have such clocks don't happen before themselves.
use Rattle.std.proofs.Common.{◌≡◌, ◌≢◌, ◌∙◌, sym, refl, ap, ℕ, zero, suc, ◌+◌, ◌<◌, ◌≤◌, ◌⊎◌, inl, inr, Bool, false, leb, List, length, Option, Some, None, arith}
use Rattle.std.specs.Prelude.{◌↔◌, ◌==◌, ◌&&◌, if◌then◌else◌, IsTrue, count_by, sum_by, slice_index}
use Rattle.std.specs.List.{range_with_len}
use Rattle.std.proofs.lemmas.Bool.{and_left, and_right, cases_eq, cases_order, eq-eqb, ne_eqb, leb-true, le-leb, lt-leb}
use Rattle.mt_model.specs.Log.{Logged}
use Rattle.mt_model.specs.Timing.{host_of, previous_row}
use Rattle.mt_model.specs.Laws.{PreviousRowIsLast}
use Rattle.mt_model.specs.Before.{Before, IsDirectlyBefore, directly, through}
use Rattle.happened_before.specs.Order.{IsClock, IsInPast}
use Rattle.happened_before.proofs.Counts.{count_below-cut, count_below-same, sum_below-lt, sum_below-suc, one}
use Rattle.happened_before.proofs.HostRows.{before-within, earlier_is_before}

-- in this file c e h is the number of event e for host h

-- an event counts itself for its own host
abbrev pub own : Logged → ℕ → ℕ → ℕ
own log f h = if h == host_of log f then 1 else 0

-- the number of event f for host h is the greatest of those directly before it, and counts f itself
pub record IsJoined (log : Logged) (c : ℕ → ℕ → ℕ) (f h : ℕ) : Type 0 where
  pub covers : (e : ℕ) → IsDirectlyBefore log e f → (c e h + own log f h) ≤ c f h
  pub springs : (c f h ≡ own log f h) ⊎ ((e : ℕ) × IsDirectlyBefore log e f × (c f h ≡ c e h + own log f h))

-- the numbers of all events are so, and events and hosts are in range
pub record AreJoined (log : Logged) (c : ℕ → ℕ → ℕ) : Type 0 where
  pub hosts : (e : ℕ) → e < length log.rows → host_of log e < length log.hosts
  pub rows : (e f : ℕ) → IsDirectlyBefore log e f → e < length log.rows
  pub each : (f h : ℕ) → f < length log.rows → h < length log.hosts → IsJoined log c f h

own-same : (log : Logged) (e : ℕ) → own log e (host_of log e) ≡ 1
own-same log e = rw (eq-eqb (host_of log e) (host_of log e) refl) refl

own-other : (log : Logged) (e h : ℕ) → h ≢ host_of log e → own log e h ≡ 0
own-other log e h other = rw (ne_eqb h (host_of log e) other) refl

-- the number of event e for host h is that of an event q of this host, which is e or happens before it
record IsFrom (log : Logged) (c : ℕ → ℕ → ℕ) (e h q : ℕ) : Type 0 where
  within : q < length log.rows
  host : host_of log q ≡ h
  past : IsInPast log q e
  number : c e h ≡ c q h

module _ (law : PreviousRowIsLast) (log : Logged) (c : ℕ → ℕ → ℕ) (joined : AreJoined log c) where
  -- an event has at least the numbers of what happens before it, and one more for its own host
  grows : {e f : ℕ} → Before log e f → (h : ℕ) → h < length log.hosts → (c e h + own log f h) ≤ c f h
  grows (directly e f near) h host = (joined.each f h near.0 host).covers e near
  grows (through e k f one two) h host = omega (arith, grows one h host, grows two h host)

  before-rows : {e f : ℕ} → Before log e f → e < length log.rows
  before-rows (directly e f near) = joined.rows e f near
  before-rows (through e k f one two) = before-rows one

  pub acyclic : (e : ℕ) → Before log e e → ⊥
  acyclic e before =
      let more = grows before (host_of log e) (joined.hosts e (before-within before)) in
      omega (arith, more, own-same log e)

  -- an event has a greater number for its own host than what happens before it
  own-more : (e f : ℕ) → Before log e f → c e (host_of log f) < c f (host_of log f)
  own-more e f before = omega (arith, grows before (host_of log f) (joined.hosts f (before-within before)), own-same log f)

  past-le : (e f h : ℕ) → IsInPast log e f → h < length log.hosts → c e h ≤ c f h
  past-le e f h (inl same) host = rw same (omega arith)
  past-le e f h (inr before) host = omega (arith, grows before h host)

  -- so the sum of an event's numbers rises along the order
  total : ℕ → ℕ
  total e = sum_by (c e) (range_with_len 0 (length log.hosts))

  total-lt : (e f : ℕ) → IsDirectlyBefore log e f → total e < total f
  unfolding total
  total-lt e f near =
      sum_below-lt (c e) (c f) (length log.hosts) (host_of log f) (λ h host. past-le e f h (inr (directly e f near)) host) (joined.hosts f near.0) (own-more e f (directly e f near))

  from-cause : (e f h q : ℕ) → IsDirectlyBefore log e f → c f h ≡ c e h → IsFrom log c e h q → IsFrom log c f h q
  from-cause e f h q near same from = record {
    within = from.within;
    host = from.host;
    past = elim from.past [ inl here ↦ inr (rw here (directly e f near)) | inr before ↦ inr (through q e f before (directly e f near)) ];
    number = same ∙ from.number;
  }

  -- a number that isn't 0 comes from an event
  comes-from : (n e h : ℕ) → total e < n → e < length log.rows → h < length log.hosts → (c e h ≡ 0) ⊎ ((q : ℕ) × IsFrom log c e h q)
  comes-from zero e h small row host = absurd (omega arith)
  comes-from (suc n) e h small row host = elim (cases_eq h (host_of log e)) [
    | inl here ↦ inr (e, record { within = row; host = sym here; past = inl refl; number = refl })
    | inr other ↦
        let none = own-other log e h other in
        elim (joined.each e h row host).springs [
          | inl start ↦ inl (start ∙ none)
          | inr cause ↦
              let same : c e h ≡ c cause.0 h = omega (arith, cause.2, none) in
              elim (comes-from n cause.0 h (omega (arith, total-lt cause.0 e cause.1)) (joined.rows cause.0 e cause.1) host) [
                | inl zero_there ↦ inl (same ∙ zero_there)
                | inr there ↦ inr (there.0, from-cause cause.0 e h there.0 cause.1 same there.1)
              ]
        ]
  ]

  origin : (e h : ℕ) → e < length log.rows → h < length log.hosts → (c e h ≡ 0) ⊎ ((q : ℕ) × IsFrom log c e h q)
  origin e h row host = comes-from (suc (total e)) e h (omega arith) row host

  -- an event counts itself
  own-some : (e : ℕ) → e < length log.rows → 1 ≤ c e (host_of log e)
  own-some e row = elim (joined.each e (host_of log e) row (joined.hosts e row)).springs [
    | inl start ↦ omega (arith, start, own-same log e)
    | inr cause ↦ let number = cause.2 in omega (arith, number, own-same log e)
  ]

  -- along the rows of a host, the numbers for this host rise
  rises : (q r : ℕ) → q < r → r < length log.rows → host_of log q ≡ host_of log r → c q (host_of log r) < c r (host_of log r)
  rises q r less row same = own-more q r (earlier_is_before law log q r less row same)

  -- and an event's number for its own host is greater than those of the host's later events
  not-later : (q r : ℕ) → q < length log.rows → host_of log q ≡ host_of log r → c q (host_of log r) ≤ c r (host_of log r) → (q ≡ r) ⊎ (q < r)
  not-later q r row same less = elim (cases_order q r) [
    | inl here ↦ inl here
    | inr apart ↦ elim apart [
      | inl lower ↦ inr lower
      | inr higher ↦ absurd (let more = rises r q higher row (sym same) in let other : c r (host_of log q) < c q (host_of log q) = more in let there = rw same at other in omega arith)
    ]
  ]

  -- the test that tells the past of e by the numbers
  abbrev pub past : ℕ → ℕ → Bool
  past e r = leb (c r (host_of log r)) (c e (host_of log r))

  from-past : (e r q : ℕ) → r < length log.rows → host_of log q ≡ host_of log r → c r (host_of log r) ≤ c q (host_of log r) → IsInPast log q e → q < length log.rows → IsInPast log r e
  from-past e r q row same less past_q row_q = elim (not-later r q row (sym same) (rw (same) less)) [
    | inl here ↦ rw here past_q
    | inr earlier ↦
        let next = earlier_is_before law log r q earlier row_q (sym same) in
        inr (elim past_q [ inl is ↦ rw (← is) next | inr before ↦ through r q e next before ])
  ]

  -- the test is right
  pub past-told : (e r : ℕ) → e < length log.rows → r < length log.rows → IsTrue (past e r) ↔ IsInPast log r e
  past-told e r row row_r = (
    λ passes.
        let less = leb-true (c r (host_of log r)) (c e (host_of log r)) passes in
        let some = own-some r row_r in
        elim (origin e (host_of log r) row (joined.hosts r row_r)) [
          | inl none ↦ absurd (omega arith)
          | inr there ↦
              let from = there.1 in
              let number = from.number in
              from-past e r there.0 row_r from.host (omega arith) from.past from.within
        ],
    λ is. le-leb (c r (host_of log r)) (c e (host_of log r)) (past-le r e (host_of log r) is (joined.hosts r row_r)),
  )

  -- what happens before an event of its host is earlier
  before-earlier : (q e : ℕ) → Before log q e → host_of log q ≡ host_of log e → q < e
  before-earlier q e before same = elim (cases_order q e) [
    | inl here ↦ absurd (acyclic e (rw here at before))
    | inr apart ↦ elim apart [
      | inl lower ↦ lower
      | inr higher ↦ absurd (acyclic e (through e q e (earlier_is_before law log e q higher (before-rows before) (sym same)) before))
    ]
  ]

  past-of-cause : (q d e : ℕ) → IsDirectlyBefore log d e → IsInPast log q d → Before log q e
  past-of-cause q d e near (inl same) = rw same (directly d e near)
  past-of-cause q d e near (inr before) = through q d e before (directly d e near)

  -- the first event of a host has the number 1 for it
  first-number : (e : ℕ) → e < length log.rows → previous_row log e ≡ None → c e (host_of log e) ≡ 1
  first-number e row none = elim (joined.each e (host_of log e) row (joined.hosts e row)).springs [
    | inl start ↦ start ∙ own-same log e
    | inr cause ↦
        let number = cause.2 in
        elim (origin cause.0 (host_of log e) (joined.rows cause.0 e cause.1) (joined.hosts e row)) [
          | inl nothing ↦ omega (arith, number, nothing, own-same log e)
          | inr there ↦
              let from = there.1 in
              let less = before-earlier there.0 e (past-of-cause there.0 cause.0 e cause.1 from.past) from.host in
              absurd (law.absent log e none there.0 less from.host)
        ]
  ]

  -- what happens before an event of a host, and is of this host, is the event before it there or earlier
  at-most-previous : (q p e : ℕ) → e < length log.rows → previous_row log e ≡ Some p → q < e → host_of log q ≡ host_of log e → c q (host_of log e) ≤ c p (host_of log e)
  at-most-previous q p e row is less same =
      let last = law.found log p e is in
      let order = last.before in
      elim (cases_order q p) [
        | inl here ↦ rw here (omega arith)
        | inr apart ↦ elim apart [
          | inl lower ↦ past-le q p (host_of log e) (inr (earlier_is_before law log q p lower (omega arith) (same ∙ sym last.same_host))) (joined.hosts e row)
          | inr higher ↦ absurd (last.none_between q higher less same)
        ]
      ]

  -- a later one has one more than the event before it there
  next-number : (p e : ℕ) → e < length log.rows → previous_row log e ≡ Some p → c e (host_of log e) ≡ c p (host_of log e) + 1
  next-number p e row is =
      let join = joined.each e (host_of log e) row (joined.hosts e row) in
      let least = join.covers p (row, inl is) in
      let most : c e (host_of log e) ≤ c p (host_of log e) + 1 = elim join.springs [
        | inl start ↦ omega (arith, start, own-same log e)
        | inr cause ↦
            let number = cause.2 in
            elim (origin cause.0 (host_of log e) (joined.rows cause.0 e cause.1) (joined.hosts e row)) [
              | inl nothing ↦ omega (arith, number, nothing, own-same log e)
              | inr there ↦
                  let from = there.1 in
                  let less = before-earlier there.0 e (past-of-cause there.0 cause.0 e cause.1 from.past) from.host in
                  let same = from.number in
                  omega (arith, number, same, own-same log e, at-most-previous there.0 p e row is less from.host)
            ]
      ] in
      omega (arith, own-same log e)

  abbrev is_of : ℕ → ℕ → Bool
  is_of h r = host_of log r == h

  count-own : (e : ℕ) → count_by (is_of (host_of log e)) (range_with_len 0 (suc e)) ≡ count_by (is_of (host_of log e)) (range_with_len 0 e) + 1
  count-own e =
      let here : one (is_of (host_of log e) e) ≡ 1 = rw (eq-eqb (host_of log e) (host_of log e) refl) refl in
      sum_below-suc (λ r. one (is_of (host_of log e) r)) e ∙ ap (λ n. count_by (is_of (host_of log e)) (range_with_len 0 e) + n) here

  -- an event's number for its own host is its place among the host's events, from 1
  place : (n e : ℕ) → e < n → e < length log.rows → c e (host_of log e) ≡ count_by (is_of (host_of log e)) (range_with_len 0 (suc e))
  place zero e small row = absurd (omega arith)
  place (suc n) e small row = by (previous_row log e) refl (place n)
    where
      by : (o : Option ℕ) → previous_row log e ≡ o
          → ((d : ℕ) → d < n → d < length log.rows → c d (host_of log d) ≡ count_by (is_of (host_of log d)) (range_with_len 0 (suc d)))
          → c e (host_of log e) ≡ count_by (is_of (host_of log e)) (range_with_len 0 (suc e))
      by None is rest =
          let none = count_below-cut (is_of (host_of log e)) 0 e (omega arith) (λ k low below. ne_eqb (host_of log k) (host_of log e) (law.absent log e is k below)) in
          omega (arith, first-number e row is, count-own e, none)
      by (Some p) is rest =
          let last = law.found log p e is in
          let order = last.before in
          let none = count_below-cut (is_of (host_of log e)) (suc p) e (omega arith) (λ k low below. ne_eqb (host_of log k) (host_of log e) (last.none_between k (omega arith) below)) in
          let there = rw last.same_host at (rest p (omega arith) (omega arith)) in
          omega (arith, next-number p e row is, count-own e, none, there)

  abbrev counted : ℕ → ℕ → ℕ → Bool
  counted e h r = past e r && (host_of log r == h)

  counted-none : (e h : ℕ) → c e h ≡ 0 → (r : ℕ) → r < length log.rows → counted e h r ≡ false
  counted-none e h none r row = elim (cases_eq (host_of log r) h) [
    | inl same ↦
        let some = own-some r row in
        and_left (past e r) (host_of log r == h) (lt-leb (c r (host_of log r)) (c e (host_of log r)) (let zero_here = rw (← same) at none in omega arith))
    | inr other ↦ and_right (past e r) (host_of log r == h) (ne_eqb (host_of log r) h other)
  ]

  up-to : (q r : ℕ) → r ≤ q → q < length log.rows → host_of log r ≡ host_of log q → c r (host_of log r) ≤ c q (host_of log r)
  up-to q r low row same = elim (cases_eq r q) [
    | inl here ↦ rw here (omega arith)
    | inr other ↦ let more = rises r q (omega arith) row same in let less : c r (host_of log r) < c q (host_of log r) = rw same more in omega arith
  ]

  -- where the number is that of event q, the events that count are those of the host up to q
  counted-low : (e h q : ℕ) → IsFrom log c e h q → (r : ℕ) → r < suc q → counted e h r ≡ is_of h r
  counted-low e h q from r low = elim (cases_eq (host_of log r) h) [
    | inl same ↦
        let least = up-to q r (omega arith) from.within (same ∙ sym from.host) in
        let number : c e (host_of log r) ≡ c q (host_of log r) = rw same from.number in
        ap (λ b. b && (host_of log r == h)) (le-leb (c r (host_of log r)) (c e (host_of log r)) (omega arith))
    | inr other ↦ rw (ne_eqb (host_of log r) h other) (and_right (past e r) false refl)
  ]

  counted-high : (e h q : ℕ) → IsFrom log c e h q → (r : ℕ) → suc q ≤ r → r < length log.rows → counted e h r ≡ false
  counted-high e h q from r high row = elim (cases_eq (host_of log r) h) [
    | inl same ↦
        let more = rises q r (omega arith) row (from.host ∙ sym same) in
        let number : c e (host_of log r) ≡ c q (host_of log r) = rw same from.number in
        and_left (past e r) (host_of log r == h) (lt-leb (c r (host_of log r)) (c e (host_of log r)) (omega arith))
    | inr other ↦ and_right (past e r) (host_of log r == h) (ne_eqb (host_of log r) h other)
  ]

  number-counts : (e h : ℕ) → e < length log.rows → h < length log.hosts → c e h ≡ count_by (counted e h) (range_with_len 0 (length log.rows))
  number-counts e h row host = elim (origin e h row host) [
    | inl none ↦ none ∙ sym (count_below-cut (counted e h) 0 (length log.rows) (omega arith) (λ r low below. counted-none e h none r below))
    | inr there ↦
        let q = there.0 in
        let from = there.1 in
        let within = from.within in
        let cut = count_below-cut (counted e h) (suc q) (length log.rows) (omega arith) (λ r high below. counted-high e h q from r high below) in
        let low = count_below-same (counted e h) (is_of h) (suc q) (counted-low e h q from) in
        let top : c q h ≡ count_by (is_of h) (range_with_len 0 (suc q)) = rw from.host at (place (suc q) q (omega arith) from.within) in
        from.number ∙ top ∙ sym low ∙ sym cut
  ]

  pub clock-counts : (e : ℕ) → e < length log.rows → (clock : List ℕ) → length clock ≡ length log.hosts → ((h : ℕ) → h < length log.hosts → slice_index clock h ≡ c e h) → IsClock log e clock
  clock-counts e row clock size numbers = record {
    past = past e;
    told = λ r row_r. past-told e r row row_r;
    hosts = size;
    number = λ h host. numbers h host ∙ number-counts e h row host;
  }

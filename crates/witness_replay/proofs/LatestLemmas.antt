-- The state of a proposition, from the last change and the last pulse among the rows up to an instant.
use borrow.Author.Count.{below_more}
use Rattle.std.proofs.Common.{◌≡◌, ◌∙◌, sym, ap, refl, ℕ, suc, ◌+◌, ◌-◌, ◌<◌, ◌≤◌, Bool, true, false, ◌&&◌, ◌||◌, List, length, Option, Some, None, arith, ℤ, ◌≤ℤ◌, inl, inr}
use Rattle.std.specs.Prelude.{int_le, is_some, nat_lt, IfSome}
use Rattle.std.specs.Option.{option_map_or}
use Rattle.std.proofs.lemmas.Bool.{and_from, cases_Bool, cases_lt, lt-ltb}
use Rattle.std.proofs.lemmas.Bool.Decides.{Decides-int_eq}
use Rattle.std.proofs.lemmas.Int.{ints}
use Rattle.mt_model.specs.Log.{Logged}
use Rattle.mt_model.proofs.PreviousRows.{last_absent, last_found}
use Rattle.mt_model.proofs.PulseLemmas.{pulsed-row, row-pulsed}
use Rattle.mt_model.specs.State.{Change, change_at, is_pulsed, state}
use Rattle.mt_model.specs.Timing.{time_of}
use Rattle.formula_arena.specs.declared.direction.Direction.TheVariants.{Ahead}
use Rattle.witness_replay.specs.LatestChanges.{AreAfter, AreBy, IsLastChange, IsLastOf, IsLatest, changes_at, is_change, state_after}
use Rattle.witness_replay.specs.LatestPulses.{is_pulsed_at, last_pulse, pulses_at}
use Rattle.witness_replay.specs.Timelines.{AreRising, IsTimeline, moment_at}
use Rattle.witness_replay.specs.declared.states.Latest.{Latest}
use Rattle.witness_replay.specs.declared.timeline.Moment.{Moment}
use Rattle.witness_replay.proofs.StateLemmas.{state_before, state_before-last, state_before-never}
use Rattle.witness_replay.proofs.TimelineLemmas.{met-each, timed}
use Rattle.std.specs.Cmp.{both_ways}

-- where the next place is after an instant, all from it on are
pub after-rest : (moments : List Moment) (instant : ℤ) (places : ℕ) → AreRising moments (length moments)
    → (nat_lt places (length moments) && int_le (moment_at moments places).time instant) ≡ false → AreAfter moments instant places
after-rest moments instant places rising ends = λ k from within. elim (cases_Bool (int_le (moment_at moments places).time instant)) [
  | inl by ↦
      let is = and_from (nat_lt places (length moments)) (int_le (moment_at moments places).time instant) (lt-ltb places (length moments) (omega (arith, from, within))) by in absurd (cc)
  | inr late ↦ let up = rising places k from within in grind (arith, ints)
]

-- one more place is taken in, whose row does nothing to the proposition
pub latest-passed : (log : Logged) (moments : List Moment) (host : ℕ) (name : List ℕ) (latest : Latest) → IsLatest log moments host name latest
    → changes_at log moments host name latest.places ≡ false → pulses_at log moments host name latest.places ≡ false
    → IsLatest log moments host name (record { places = latest.places + 1; row = latest.row; sets = latest.sets; pulse = latest.pulse })
latest-passed log moments host name latest is unchanged unpulsed = record {
  change = kept latest.row is.change;
  sets = is.sets;
  pulse = is.pulse ∙ sym (let next : latest.places + 1 ≡ suc latest.places = omega arith in rw (next, unpulsed) refl);
}
  where
    kept : (row : Option ℕ) → IsLastChange log moments host name latest.places row → IsLastChange log moments host name (latest.places + 1) row
    kept None none = below_more (λ k. changes_at log moments host name k ≡ false) latest.places none unchanged
    kept (Some r) some = record {
      place = some.place;
      within = let low = some.within in omega arith;
      there = some.there;
      passed = some.passed;
      last = below_more (λ k. changes_at log moments host name k ≡ true → (moment_at moments k).row ≤ r) latest.places some.last (λ is. absurd (cc));
    }

not-some : {X : Type 0} (o : Option X) → is_some o ≡ false → o ≡ None
not-some None h = refl
not-some (Some x) h = absurd (cc)

-- the last pulse and the last change of those by an instant decide the state
module _ (log : Logged) (t : List ℤ) (moments : List Moment) (count : length t ≡ length log.rows) (timeline : IsTimeline t moments) (host : ℕ) (name : List ℕ) (instant : ℤ) where
  by-time : (k : ℕ) → k < length t → (moment_at moments k).time ≤ℤ instant → int_le (time_of t (moment_at moments k).row) instant ≡ true
  by-time k within by =
      let (_, is) = timed Ahead t moments timeline k within in
      grind (arith, ints)

  module _ (latest : Latest) (within : latest.places ≤ length moments) (by : AreBy moments instant latest.places) (after : AreAfter moments instant latest.places) where
    -- a row by the instant is that of one of the first places
    taken : (e : ℕ) → e < length t → int_le (time_of t e) instant ≡ true → (k : ℕ) × (k < latest.places) × ((moment_at moments k).row ≡ e)
    taken e e_in early =
        let (k, k_in, here) = met-each Ahead t moments timeline e e_in in
        elim (cases_lt k latest.places) [
          | inl less ↦ (k, less, here)
          | inr rest ↦
              let (_, is) = timed Ahead t moments timeline k k_in in
              let late = after k rest (omega (arith, timeline.full)) in
              let at : time_of t (moment_at moments k).row ≡ time_of t e = ap (time_of t) here in
              absurd (grind (arith, ints))
        ]

    last-state : (r : ℕ) (c : Change) → IsLastOf (is_change log host name) moments latest.places r → change_at log host name r ≡ Some c
        → state_before log t instant host name (length log.rows) ≡ c.sets
    last-state r c some found =
        let place_in : some.place < length t = let low = some.within in omega (arith, timeline.full, within) in
        let (row_in, _) = timed Ahead t moments timeline some.place place_in in
        let r_in : r < length log.rows = let same = some.there in omega (arith, row_in, count) in
        let early : int_le (time_of t r) instant ≡ true = rw some.there at (by-time some.place place_in (by some.place some.within)) in
        let rest : r + 1 + (length log.rows - (r + 1)) ≡ length log.rows = omega (arith, r_in) in
        rw rest at (state_before-last log t instant host name r (length log.rows - (r + 1)) c found early (λ e later less early'.
        let (k, k_in, here) = taken e (omega (arith, count, less, rest)) early' in
        elim (cases_Bool (is_change log host name e)) [
          | inl is ↦
              let no : (moment_at moments k).row ≤ r = some.last k k_in (rw here is) in
              absurd (omega (arith, no, here, later))
          | inr none ↦ not-some (change_at log host name e) none
        ]))

    left-latest : IsLastChange log moments host name latest.places latest.row → state_before log t instant host name (length log.rows) ≡ state_after log host name latest.row
    left-latest is = go latest.row is
      where
        found : (r : ℕ) (made : Option Change) → change_at log host name r ≡ made → is_some made ≡ true
            → IsLastOf (is_change log host name) moments latest.places r
            → state_before log t instant host name (length log.rows) ≡ option_map_or (λ c. c.sets) made false
        found r None made is some = absurd (cc)
        found r (Some c) made is some = last-state r c some made

        go : (row : Option ℕ) → IsLastChange log moments host name latest.places row → state_before log t instant host name (length log.rows) ≡ state_after log host name row
        go None none = state_before-never log t instant host name (length log.rows) (λ e less early.
            let (k, k_in, here) = taken e (omega (arith, count, less)) early in
            not-some (change_at log host name e) (rw here at (none k k_in)))
        go (Some r) some = found r (change_at log host name r) refl some.passed some

    -- the test that finds the last pulse
    abbrev pulse-test : ℕ → Bool
    pulse-test = pulses_at log moments host name

    -- a row that pulses the proposition at the instant is that of one of the first places
    pulse-place : is_pulsed log t instant host name ≡ true → (k : ℕ) × (k < latest.places) × (pulse-test k ≡ true) × (instant ≤ℤ (moment_at moments k).time)
    pulse-place h =
        let (e, e_in, pulse, there) = pulsed-row log t instant host name h in
        let early : int_le (time_of t e) instant ≡ true = rw there (grind (arith, ints)) in
        let (k, k_in, here) = taken e (omega (arith, count, e_in)) early in
        let (_, is) = timed Ahead t moments timeline k (omega (arith, k_in, within, timeline.full)) in
        let time : (moment_at moments k).time ≡ instant = is ∙ ap (time_of t) here ∙ there in
        (k, k_in, rw here pulse, omega (arith, ints, time))

    pulsed-then : (pulse : Option ℕ) → pulse ≡ last_pulse log moments host name latest.places → is_pulsed log t instant host name ≡ true → is_pulsed_at moments instant pulse ≡ true
    pulsed-then None none h =
        let (k, k_in, passes, _) = pulse-place h in
        let fails = last_absent pulse-test latest.places (sym none) k k_in in
        absurd (cc)
    pulsed-then (Some p) some h =
        let (k, k_in, passes, from) = pulse-place h in
        let last = last_found pulse-test latest.places p (sym some) in
        elim (cases_lt p k) [
          | inl less ↦ let fails = last.none_between k less k_in in absurd (cc)
          | inr rest ↦
              let up = timeline.rising k p rest (let low = last.below in omega (arith, low, within, timeline.full)) in
              let low = by p last.below in
              let time : (moment_at moments p).time ≡ instant = omega (arith, ints, up, low, from) in
              (Decides-int_eq (moment_at moments p).time instant).1 time
        ]

    pulsed-from : (pulse : Option ℕ) → pulse ≡ last_pulse log moments host name latest.places → is_pulsed_at moments instant pulse ≡ true → is_pulsed log t instant host name ≡ true
    pulsed-from None none h = absurd (cc)
    pulsed-from (Some p) some h =
        let last = last_found pulse-test latest.places p (sym some) in
        let (row_in, is) = timed Ahead t moments timeline p (let low = last.below in omega (arith, low, within, timeline.full)) in
        row-pulsed log t instant host name (moment_at moments p).row (omega (arith, count, row_in)) last.passes (sym is ∙ (Decides-int_eq (moment_at moments p).time instant).0 h)

    pub state-latest : IsLatest log moments host name latest → state log t instant host name ≡ (is_pulsed_at moments instant latest.pulse || latest.sets)
    state-latest is =
        let pulsed = both_ways (is_pulsed log t instant host name) (is_pulsed_at moments instant latest.pulse) (pulsed-then latest.pulse is.pulse) (pulsed-from latest.pulse is.pulse) in
        ap (λ b. b || state_before log t instant host name (length log.rows)) pulsed ∙ ap (λ b. is_pulsed_at moments instant latest.pulse || b) (left-latest is.change ∙ sym is.sets)

-- the last pulse is at one of the first places
pub pulse-within : (log : Logged) (moments : List Moment) (host : ℕ) (name : List ℕ) (places : ℕ) (pulse : Option ℕ) → places ≤ length moments
    → pulse ≡ last_pulse log moments host name places → IfSome pulse (λ p. p < length moments)
pulse-within log moments host name places None within is = tt
pulse-within log moments host name places (Some p) within is = let low = (last_found (pulses_at log moments host name) places p (sym is)).below in omega arith

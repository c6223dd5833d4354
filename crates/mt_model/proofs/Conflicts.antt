-- Bounds of a log that conflict leave it no timing: the times of a walk's ends differ by at most the sum of its bounds.
use Rattle.std.proofs.Common.{◌≡◌, refl, ℕ, ◌+◌, ◌<◌, ◌&&◌, List, [], ◌∷◌, ◌++◌, length, Bool, true, false, Option, Some, None, All, ℤ, pos, ◌+ℤ◌, ◌≤ℤ◌, arith}
use Rattle.std.specs.Prelude.{option_map, slice_get, position, if◌then◌else◌}
use Rattle.std.proofs.lemmas.Bool.{ltb-true}
use Rattle.std.proofs.lemmas.Int.{ints}
use Rattle.std.proofs.lemmas.List.Elements.{All-head, All-tail}
use Rattle.std.proofs.lemmas.List.Quantifiers.{position-Some}
use Rattle.std.proofs.lemmas.Option.{cond_some, option_and_then_some, slice_get_within}
use Rattle.mt_model.specs.declared.step.Step.{Step}
use Rattle.mt_model.specs.declared.step.Step.TheVariants.{Low, High, Rise, Message, Late, Under, Over, Extra, Order}
use Rattle.mt_model.specs.declared.log.Act.TheVariants.{Note}
use Rattle.mt_model.specs.Log.{Logged, received_by}
use Rattle.mt_model.specs.Timing.{Admissible, clock_of, previous_row, received_in, is_send_of, send_of, time_of}
use Rattle.mt_model.specs.Walks.{Edge, node_time, is_row, edge_of, LeadsTo, IsClosedWalk, HasEdges, sum_of_bounds}
use Rattle.mt_model.specs.Laws.{IsBound, ConflictExcludesTimings}
use Rattle.mt_model.proofs.NodeTimes.{clock-time, row-time}
use Rattle.mt_model.proofs.PreviousRows.{is_last}

-- the time of an edge's first end less that of its last is at most its bound
abbrev pub Holds : List ℤ → Edge → Type 0
Holds t x = node_time t x.from ≤ℤ (node_time t x.to +ℤ x.bound)

-- a value that is there after a map was there before
pub mapped_some : {A B : Type 0} (f : A → B) (o : Option A) (y : B) → option_map f o ≡ Some y → (x : A) × (o ≡ Some x) × (f x ≡ y)
mapped_some f None y is = absurd (cc)
mapped_some f (Some x) y is = (x, refl, cc)

-- a guarded value that is there passed its guard
pub guarded_some : {A : Type 0} (b : Bool) (o : Option A) (y : A) → (if b then o else None) ≡ Some y → (b ≡ true) × (o ≡ Some y)
guarded_some false o y is = absurd (cc)
guarded_some true o y is = (refl, is)

pub both_true : (a b : Bool) → (a && b) ≡ true → (a ≡ true) × (b ≡ true)
both_true true true is = (refl, refl)
both_true true false is = absurd (cc)
both_true false b is = absurd (cc)

-- a row that receives what was sent is in the log
pub receive_within : (log : Logged) (r s : ℕ) → send_of log r ≡ Some s → r < length log.rows
receive_within log r s is =
    option_and_then_some (λ message. position (is_send_of message) log.rows) (received_in log r) s is
    (λ message received sent. option_and_then_some (λ x. received_by x.act) (slice_get log.rows r) message received
    (λ x at receives. slice_get_within log.rows r x at))

-- and so is the row that sent it
pub send_within : (log : Logged) (r s : ℕ) → send_of log r ≡ Some s → s < length log.rows
send_within log r s is =
    option_and_then_some (λ message. position (is_send_of message) log.rows) (received_in log r) s is
    (λ message received sent. (position-Some (is_send_of message) log.rows s (record { host = 0; local = pos 0; act = Note [] }) sent).0)

module _ (log : Logged) (t : List ℤ) (ok : Admissible log t) where
  -- the times of the rows, and behind them the offsets of the clocks
  abbrev pub times : List ℤ
  times = t ++ ok.clocks.offsets

  row : (e : ℕ) → e < length log.rows → time_of times e ≡ time_of t e
  row e within = row-time log t ok.clocks.offsets ok.count e within

  clock : (k : ℕ) → time_of times (length log.rows + k) ≡ time_of ok.clocks.offsets k
  clock k = clock-time log t ok.clocks.offsets ok.count k

  pub edge_holds : (step : Step) (x : Edge) → IsBound step → edge_of log step ≡ Some x → Holds times x
  edge_holds (Low e) x bound is =
      let parts = cond_some _ _ _ is in
      let within = ltb-true _ _ parts.0 in
      rw (← parts.1) (omega (arith, ints, ok.low e within, row e within))
  edge_holds (High e) x bound is =
      let parts = cond_some _ _ _ is in
      let within = ltb-true _ _ parts.0 in
      rw (← parts.1) (omega (arith, ints, ok.high e within, row e within))
  edge_holds (Rise f) x bound is =
      let guarded = guarded_some (is_row log f) (option_map _ (previous_row log f)) x is in
      let parts = mapped_some _ _ _ guarded.1 in
      let within = ltb-true _ _ guarded.0 in
      let before = (is_last.found log parts.0 f parts.1).before in
      rw (← parts.2) (omega (arith, ints, ok.rise parts.0 f within parts.1, row parts.0 (omega (arith, before, within)), row f within))
  edge_holds (Message r) x bound is =
      let parts = mapped_some _ _ _ is in
      let within = receive_within log r parts.0 parts.1 in
      rw (← parts.2) (omega (arith, ints, ok.message parts.0 r within parts.1, row parts.0 (send_within log r parts.0 parts.1), row r within))
  edge_holds (Late r) x bound is =
      option_and_then_some _ (send_of log r) x is
      (λ s sent limited. let parts = mapped_some _ _ _ limited in
      let within = receive_within log r s sent in
      rw (← parts.2) (omega (arith, ints, ok.late s r parts.0 within sent parts.1, row s (send_within log r s sent), row r within)))
  edge_holds (Under e) x bound is =
      let guarded = guarded_some (is_row log e) (option_map _ (clock_of log e)) x is in
      let parts = mapped_some _ _ _ guarded.1 in
      let within = ltb-true _ _ guarded.0 in
      rw (← parts.2) (omega (arith, ints, ok.clocks.are.under e parts.0 within parts.1, row e within, clock parts.0))
  edge_holds (Over e) x bound is =
      let guarded = guarded_some (is_row log e) (option_map _ (clock_of log e)) x is in
      let parts = mapped_some _ _ _ guarded.1 in
      let within = ltb-true _ _ guarded.0 in
      rw (← parts.2) (omega (arith, ints, ok.clocks.are.over e parts.0 within parts.1, row e within, clock parts.0))
  edge_holds (Extra k) x bound is =
      option_and_then_some _ (slice_get log.extras k) x is
      (λ y at guarded. let parts = cond_some _ _ _ guarded in
      let rows = both_true (is_row log y.e) (is_row log y.f) parts.0 in
      rw (← parts.1) (omega (arith, ints, ok.extra k y at, row y.e (ltb-true _ _ rows.0), row y.f (ltb-true _ _ rows.1))))
  edge_holds (Order e f c) x bound is = absurd bound

  walk_holds : (steps : List Step) (edges : List Edge) (a b : ℕ) → All IsBound steps → HasEdges log steps edges → LeadsTo a edges b → node_time times a ≤ℤ (node_time times b +ℤ sum_of_bounds edges)
  walk_holds [] [] a b bounds found leads = rw leads (omega (arith, ints))
  walk_holds [] (x ∷ xs) a b bounds found leads = absurd (cc)
  walk_holds (s ∷ ss) [] a b bounds found leads = absurd (cc)
  walk_holds (s ∷ ss) (x ∷ xs) a b bounds found leads =
      let here : edge_of log s ≡ Some x = cc in
      let others : HasEdges log ss xs = cc in
      let first = rw leads.0 at (edge_holds s x (All-head IsBound s ss bounds) here) in
      let rest = walk_holds ss xs x.to b (All-tail IsBound s ss bounds) others leads.1 in
      omega (arith, ints, first, rest)

  closed_walk_holds : (steps : List Step) (edges : List Edge) → All IsBound steps → HasEdges log steps edges → IsClosedWalk edges → pos 0 ≤ℤ sum_of_bounds edges
  closed_walk_holds steps [] bounds found closed = absurd closed
  closed_walk_holds steps (x ∷ xs) bounds found closed =
      let whole = walk_holds steps (x ∷ xs) x.from x.from bounds found (refl, closed) in
      omega (arith, ints, whole)

pub excludes_timings : ConflictExcludesTimings
excludes_timings log steps t bounds conflict ok =
    absurd (omega (arith, ints, closed_walk_holds log t ok steps conflict.edges bounds conflict.found conflict.closed, conflict.negative))

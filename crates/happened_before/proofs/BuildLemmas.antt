-- From the table of causes and its finished events to the log and its order.
use Rattle.std.proofs.Common.{◌≡◌, ◌∙◌, sym, refl, ap, ℕ, zero, suc, ◌+◌, ◌-◌, ◌^◌, ◌<◌, ◌⊎◌, inl, inr, Bool, true, false, List, [], ◌∷◌, length, map, get_or, Option, Some, None, arith}
use Rattle.std.specs.Prelude.{All, slice_get, slice_index, position, option_and_then}
use Rattle.std.specs.Option.{option_map_or}
use Rattle.std.proofs.lemmas.Bool.{cases_lt, cases_eq}
use Rattle.std.proofs.lemmas.List.{get_or_past, length-map}
use Rattle.std.proofs.Math.Numerals.{add-one}
use Rattle.std.proofs.lemmas.List.FromFn.{get_or-map-range_with_len, length-map-range_with_len}
use Rattle.std.proofs.lemmas.List.Quantifiers.{position-Some}
use Rattle.mt_model.specs.declared.log.Row.{Row}
use Rattle.mt_model.specs.Log.{IsLog, IsRow, Logged}
use Rattle.mt_model.specs.Timing.{host_of, is_send_of, received_in}
use Rattle.mt_model.specs.Laws.{PreviousRowIsLast}
use Rattle.mt_model.specs.Before.{Before, IsDirectlyBefore, directly, through}
use Rattle.happened_before.specs.Causes.{IsAmong, IsWhole, causes_at, causes_of_row, causes_of_rows, is_finished}
use Rattle.happened_before.specs.Cycles.{IsCausal}
use Rattle.happened_before.specs.Order.{IsCycle, IsCyclic, IsOrderOf, CoversHosts}
use Rattle.happened_before.specs.Progress.{AreClocks, number_at, number_of}
use Rattle.happened_before.proofs.BeforeLemmas.{hosts-at}
use Rattle.happened_before.proofs.ClockLemmas.{AreJoined, IsJoined, acyclic, clock-counts, own}

none-within : {A : Type 0} (e : ℕ) → None ≡ Some e → A
none-within e is = absurd (cc)

position-within : (test : Row → Bool) (rows : List Row) (e : ℕ) → position test rows ≡ Some e → e < length rows
position-within test [] e is = none-within e is
position-within test (r ∷ rs) e is = (position-Some test (r ∷ rs) e r is).0

pub hosts-below : (hosts : ℕ) (rows : List Row) → All (IsRow hosts) rows → (e : ℕ) → e < length rows → option_map_or (λ r. r.host) (slice_get rows e) 0 < hosts
hosts-below hosts [] each e within = absurd (omega arith)
hosts-below hosts (r ∷ rs) each zero within = (each 0 r within).host
hosts-below hosts (r ∷ rs) each (suc e) within = hosts-below hosts rs (λ k d below. each (suc k) d (omega arith)) e (omega arith)

module _ (log : Logged) where
  causes-count : length (causes_of_rows log) ≡ length log.rows
  causes-count = length-map-range_with_len (causes_of_row log) 0 (length log.rows)

  pub causes-hosts : length (map (λ r. r.host) log.rows) ≡ length (causes_of_rows log)
  causes-hosts = length-map log.rows (λ r. r.host) ∙ sym causes-count

  pub causes-few : IsLog log → length (causes_of_rows log) < 2 ^ 32
  causes-few valid = omega (arith, causes-count, valid.few_rows)

  causes-at : (f : ℕ) → f < length log.rows → causes_at (causes_of_rows log) f ≡ causes_of_row log f
  causes-at f within = get_or-map-range_with_len (causes_of_row log) 0 (length log.rows) f f (record { previous = None; send = None }) within (omega arith)

  -- an event that has a cause is a row
  caused-within : (e f : ℕ) → IsAmong (causes_at (causes_of_rows log) f) e → f < length log.rows
  caused-within e f among = elim (cases_lt f (length log.rows)) [
    | inl within ↦ within
    | inr past ↦
        let none : causes_at (causes_of_rows log) f ≡ record { previous = None; send = None } =
        get_or_past (causes_of_rows log) f (record { previous = None; send = None }) (omega (arith, causes-count)) in
        elim (rw none at among) [ inl is ↦ none-within e is | inr is ↦ none-within e is ]
  ]

  -- the causes in the table are the rows directly before
  pub among-near : (e f : ℕ) → IsAmong (causes_at (causes_of_rows log) f) e → IsDirectlyBefore log e f
  among-near e f among = let within = caused-within e f among in (within, rw (causes-at f within) at among)

  pub near-among : (e f : ℕ) → IsDirectlyBefore log e f → IsAmong (causes_at (causes_of_rows log) f) e
  near-among e f near = rw (causes-at f near.0) near.1

  sent-within : (message : Option (List ℕ)) (e : ℕ) → option_and_then (λ m. position (is_send_of m) log.rows) message ≡ Some e → e < length log.rows
  sent-within None e is = none-within e is
  sent-within (Some m) e is = position-within (is_send_of m) log.rows e is

  -- a cycle of causes is one of the log's rows
  pub is-cycle : (events : List ℕ) → IsCausal (causes_of_rows log) events → IsCycle log events
  is-cycle events causal = record {
    some = causal.some;
    within = λ k d below. rw (← causes-count) (causal.within k d below);
    once = causal.once;
    next = λ k d below. among-near (get_or events k d) (get_or events (k + 1) d) (causal.next k d below);
    closed = among-near (slice_index events (length events - 1)) (slice_index events 0) causal.closed;
  }

  module _ (events : List ℕ) (cycle : IsCycle log events) where
    abbrev event : ℕ → ℕ
    event k = slice_index events k

    first-before : (k : ℕ) → suc k < length events → Before log (event 0) (event (suc k))
    first-before zero below = directly (event 0) (event 1) (cycle.next 0 0 below)
    first-before (suc k) below =
        let step : IsDirectlyBefore log (event (suc k)) (event (suc (suc k))) = rw add-one at (cycle.next (suc k) 0 (omega arith)) in
        through (event 0) (event (suc k)) (event (suc (suc k))) (first-before k (omega arith)) (directly (event (suc k)) (event (suc (suc k))) step)

    -- so its first event happens before itself
    pub is-cyclic : IsCyclic log
    is-cyclic = (
      event 0,
      elim (cases_eq (length events) 1) [
        | inl one ↦ directly (event 0) (event 0) (let last : length events - 1 ≡ 0 = omega arith in rw last at cycle.closed)
        | inr more ↦
            let some = cycle.some in
            let last : length events - 1 ≡ suc (length events - 2) = omega arith in
            let near = rw last at cycle.closed in
            through (event 0) (event (suc (length events - 2))) (event 0) (first-before (length events - 2) (omega arith)) (directly (event (suc (length events - 2))) (event 0) near)
      ],
    )

  module _ (law : PreviousRowIsLast) where
    near-within : (e f : ℕ) → IsDirectlyBefore log e f → e < length log.rows
    near-within e f near = elim near.1 [
      | inl is ↦ let order = (law.found log e f is).before in let row = near.0 in omega arith
      | inr is ↦ sent-within (received_in log f) e is
    ]

    pub causes-whole : IsWhole (causes_of_rows log)
    causes-whole f e among = rw causes-count (near-within e f (among-near e f among))

    -- where all events are finished, their clocks are joined
    module _ (valid : IsLog log) (finished : List Bool) (clocks : List (List ℕ)) (all : All (λ f. f ≡ true) finished)
        (are : AreClocks (length log.hosts) (map (λ r. r.host) log.rows) (causes_of_rows log) finished clocks) where
      all-finished : (f : ℕ) → f < length log.rows → is_finished finished f ≡ true
      all-finished f within = all f false (omega (arith, are.flags, causes-count))

      -- a cause's number is 0, or that of a row directly before
      of-cause : (cause : Option ℕ) (f h : ℕ) (causes : (e : ℕ) → cause ≡ Some e → IsDirectlyBefore log e f)
          → (number_of clocks cause h ≡ 0) ⊎ ((e : ℕ) × IsDirectlyBefore log e f × (number_of clocks cause h ≡ number_at clocks e h))
      of-cause None f h causes = inl refl
      of-cause (Some e) f h causes = inr (e, causes e refl, refl)

      from-cause : (cause : Option ℕ) (f h : ℕ) → ((e : ℕ) → cause ≡ Some e → IsDirectlyBefore log e f)
          → number_at clocks f h ≡ number_of clocks cause h + own log f h
          → (number_at clocks f h ≡ own log f h) ⊎ ((e : ℕ) × IsDirectlyBefore log e f × (number_at clocks f h ≡ number_at clocks e h + own log f h))
      from-cause cause f h causes is = elim (of-cause cause f h causes) [
        | inl none ↦ inl (omega arith)
        | inr there ↦ let same = there.2 in inr (there.0, there.1, omega arith)
      ]

      join : (f h : ℕ) → f < length log.rows → h < length log.hosts → IsJoined log (number_at clocks) f h
      join f h row host =
          let causes = causes_at (causes_of_rows log) f in
          let number = rw (hosts-at log.rows f) at ((are.each f (all-finished f row)).follows.numbers h host) in
          record {
            covers = λ e near. elim (near-among e f near) [
              | inl is ↦ let same : number_of clocks causes.previous h ≡ number_at clocks e h = ap (λ o. number_of clocks o h) is in omega (arith, number)
              | inr is ↦ let same : number_of clocks causes.send h ≡ number_at clocks e h = ap (λ o. number_of clocks o h) is in omega (arith, number)
            ];
            springs = elim (cases_lt (number_of clocks causes.previous h) (number_of clocks causes.send h)) [
              | inl less ↦ from-cause causes.send f h (λ e is. among-near e f (inr is)) (omega (arith, number))
              | inr more ↦ from-cause causes.previous f h (λ e is. among-near e f (inl is)) (omega (arith, number))
            ];
          }

      host-within : (e : ℕ) → e < length log.rows → host_of log e < length log.hosts
      host-within e row = hosts-below (length log.hosts) log.rows valid.rows.each e row

      joined : AreJoined log (number_at clocks)
      joined = record { hosts = host-within; rows = near-within; each = join }

      wide : (e : ℕ) → e < length log.rows → length (get_or clocks e []) ≡ length log.hosts
      wide e row = (are.each e (all-finished e row)).follows.wide

      pub is-order : IsOrderOf log (record { hosts = map (λ r. r.host) log.rows; clocks = clocks })
      is-order = record {
        acyclic = acyclic law log (number_at clocks) joined;
        events = are.count ∙ causes-count;
        hosts = refl;
        clocks = λ e row. clock-counts law log (number_at clocks) joined e row (get_or clocks e []) (wide e row) (λ h host. refl);
      }

      pub covers-hosts : CoversHosts (map (λ r. r.host) log.rows) clocks
      covers-hosts = record {
        count = omega (arith, length-map log.rows (λ r. r.host), are.count, causes-count);
        numbers = λ e f row_e row_f.
            let size = length-map log.rows (λ r. r.host) in
            rw (hosts-at log.rows e, wide f (omega (arith, are.count, causes-count))) (host-within e (omega arith));
      }

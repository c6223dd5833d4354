-- Walks of bounds of a log that visit no node twice: how long they are, and that their steps have a spelling.
use Rattle.std.proofs.Common.{◌≡◌, ◌≢◌, ◌∙◌, sym, ap, refl, arith, ℕ, ◌<◌, ◌≤◌, inl, inr, true, eqb, List, [], ◌∷◌, length, map, Some, None, get_or, pos}
use Rattle.std.specs.Prelude.{All, AllPairs, option_map, position, slice_get}
use Rattle.std.specs.List.{list_any}
use Rattle.std.proofs.lemmas.Bool.{ltb-true, eqb-true, or_cases}
use Rattle.std.proofs.lemmas.Bool.Decides.{Decides-eqb}
use Rattle.std.proofs.lemmas.List.{get_or-map, length-map}
use Rattle.std.proofs.lemmas.List.Elements.{All-cons, All-head, All-nil, All-tail}
use Rattle.std.proofs.lemmas.List.Quantifiers.{position-Some}
use Rattle.std.proofs.lemmas.Map.Made.{IsDistinct-from_AllPairs}
use Rattle.std.proofs.lemmas.Map.Steps.{length-le_from_distinct_below}
use Rattle.std.proofs.lemmas.Option.{cond_some, option_and_then_some, slice_get_within}
use Rattle.mt_model.proofs.Conflicts.{guarded_some, mapped_some}
use Rattle.mt_model.proofs.Offsets.{clock-within}
use Rattle.mt_model.proofs.PreviousRows.{is_last}
use Rattle.mt_model.proofs.Resyncs.{at-place}
use Rattle.mt_model.specs.declared.step.Step.{Step}
use Rattle.mt_model.specs.declared.step.Step.TheVariants.{Low, High, Rise, Message, Late, Under, Over, Extra, Order}
use Rattle.mt_model.specs.Laws.{IsBound}
use Rattle.mt_model.specs.Log.{IsExtra, IsLog, Logged, received_by}
use Rattle.mt_model.specs.Timing.{clock_of, is_send_of, previous_row, received_in, send_of}
use Rattle.mt_model.specs.Walks.{Edge, HasEdges, edge_of, is_row, node_count_of}
use Rattle.skew_bounds.specs.Consistency.{IsConflict, VisitsOnce, start_of}
use Rattle.proof_log.specs.Spelled.{IsSpelledCycle, IsSpelledStep}

-- a message that is received is sent by a row, and both are rows of the log
record AreRows (log : Logged) (s r : ℕ) : Type 0 where
  send : s < length log.rows
  receive : r < length log.rows

message_rows : (log : Logged) (r s : ℕ) → send_of log r ≡ Some s → AreRows log s r
message_rows log r s is =
    option_and_then_some (λ message. position (is_send_of message) log.rows) (received_in log r) s is
    (λ message received sent. option_and_then_some (λ x. received_by x.act) (slice_get log.rows r) message received
    (λ x at receives. record { send = (position-Some (is_send_of message) log.rows s x sent).0; receive = slice_get_within log.rows r x at }))

module _ (log : Logged) (valid : IsLog log) where
  -- the edge of a bound begins at one of the log's moments, and the bound has a spelling
  record IsInside (s : Step) (x : Edge) : Type 0 where
    from : x.from < node_count_of log
    spelled : IsSpelledStep s

  bound_inside : (s : Step) (x : Edge) → IsBound s → edge_of log s ≡ Some x → IsInside s x
  bound_inside (Low e) x bound is =
      let parts = cond_some _ _ _ is in
      let row = ltb-true _ _ parts.0 in
      record { from = rw (← parts.1) (omega arith); spelled = omega (arith, row, valid.few_rows) }
  bound_inside (High e) x bound is =
      let parts = cond_some _ _ _ is in
      let row = ltb-true _ _ parts.0 in
      record { from = rw (← parts.1) (omega (arith, row)); spelled = omega (arith, row, valid.few_rows) }
  bound_inside (Rise f) x bound is =
      let guarded = guarded_some (is_row log f) (option_map _ (previous_row log f)) x is in
      let parts = mapped_some _ _ _ guarded.1 in
      let row = ltb-true _ _ guarded.0 in
      let before = (is_last.found log parts.0 f parts.1).before in
      record { from = rw (← parts.2) (omega (arith, row, before)); spelled = omega (arith, row, valid.few_rows) }
  bound_inside (Message r) x bound is =
      let parts = mapped_some _ _ _ is in
      let rows = message_rows log r parts.0 parts.1 in
      record { from = rw (← parts.2) (omega (arith, rows.send)); spelled = omega (arith, rows.receive, valid.few_rows) }
  bound_inside (Late r) x bound is =
      option_and_then_some _ (send_of log r) x is
      (λ s sent limited.
      let parts = mapped_some _ _ _ limited in
      let rows = message_rows log r s sent in
      record { from = rw (← parts.2) (omega (arith, rows.receive)); spelled = omega (arith, rows.receive, valid.few_rows) })
  bound_inside (Under e) x bound is =
      let guarded = guarded_some (is_row log e) (option_map _ (clock_of log e)) x is in
      let parts = mapped_some _ _ _ guarded.1 in
      let row = ltb-true _ _ guarded.0 in
      let clock = clock-within log valid e parts.0 parts.1 in
      record { from = rw (← parts.2) (omega (arith, clock)); spelled = omega (arith, row, valid.few_rows) }
  bound_inside (Over e) x bound is =
      let guarded = guarded_some (is_row log e) (option_map _ (clock_of log e)) x is in
      let parts = mapped_some _ _ _ guarded.1 in
      let row = ltb-true _ _ guarded.0 in
      record { from = rw (← parts.2) (omega (arith, row)); spelled = omega (arith, row, valid.few_rows) }
  bound_inside (Extra k) x bound is =
      option_and_then_some _ (slice_get log.extras k) x is
      (λ y found guarded.
      let parts = cond_some _ _ _ guarded in
      let within = slice_get_within log.extras k y found in
      let extra = at-place (IsExtra (length log.rows)) log.extras k y valid.extras found in
      record { from = rw (← parts.1) (omega (arith, extra.e)); spelled = omega (arith, within, valid.few_extras) })
  bound_inside (Order e f c) x bound is = absurd bound

  starts_below : (steps : List Step) (edges : List Edge) → All IsBound steps → HasEdges log steps edges → All (λ n. n < node_count_of log) (map (λ x. x.from) edges)
  starts_below [] [] bounds found = All-nil (λ n. n < node_count_of log)
  starts_below [] (x ∷ xs) bounds found = absurd (cc)
  starts_below (s ∷ ss) [] bounds found = absurd (cc)
  starts_below (s ∷ ss) (x ∷ xs) bounds found =
      let here : edge_of log s ≡ Some x = cc in
      let others : HasEdges log ss xs = cc in
      All-cons (λ n. n < node_count_of log) x.from (map (λ y. y.from) xs) (bound_inside s x (All-head IsBound s ss bounds) here).from
      (starts_below ss xs (All-tail IsBound s ss bounds) others)

  each_spelled : (steps : List Step) (edges : List Edge) → All IsBound steps → HasEdges log steps edges → All IsSpelledStep steps
  each_spelled [] edges bounds found = All-nil IsSpelledStep
  each_spelled (s ∷ ss) [] bounds found = absurd (cc)
  each_spelled (s ∷ ss) (x ∷ xs) bounds found =
      let here : edge_of log s ≡ Some x = cc in
      let others : HasEdges log ss xs = cc in
      All-cons IsSpelledStep s ss (bound_inside s x (All-head IsBound s ss bounds) here).spelled (each_spelled ss xs (All-tail IsBound s ss bounds) others)

  starts_same : (steps : List Step) (edges : List Edge) → HasEdges log steps edges → map (start_of log) steps ≡ map (λ x. Some x.from) edges
  starts_same [] [] found = refl
  starts_same [] (x ∷ xs) found = absurd (cc)
  starts_same (s ∷ ss) [] found = absurd (cc)
  starts_same (s ∷ ss) (x ∷ xs) found =
      let here : edge_of log s ≡ Some x = cc in
      let others : HasEdges log ss xs = cc in
      let start : start_of log s ≡ Some x.from = ap (option_map (λ y. y.from)) here in
      let rest = starts_same ss xs others in cc

  some_edge : Edge
  some_edge = record { from = 0; to = 0; bound = pos 0 }

  -- steps that begin at different nodes have edges that do
  starts_apart : (steps : List Step) (edges : List Edge) → HasEdges log steps edges → VisitsOnce log steps → AllPairs (λ m n. m ≢ n) (map (λ x. x.from) edges)
  starts_apart steps edges found once i j d before within same =
      let inside : j < length edges = rw length-map at within in
      let count : length steps ≡ length edges = sym (length-map steps (edge_of log)) ∙ ap length found ∙ length-map edges Some in
      let starts = starts_same steps edges found in
      let step_i = get_or-map (start_of log) steps i (Low 0) None (omega (arith, before, inside, count)) in
      let step_j = get_or-map (start_of log) steps j (Low 0) None (omega (arith, inside, count)) in
      let some_i = get_or-map (λ (x : Edge). Some x.from) edges i some_edge None (omega (arith, before, inside)) in
      let some_j = get_or-map (λ (x : Edge). Some x.from) edges j some_edge None inside in
      let from_i = get_or-map (λ (x : Edge). x.from) edges i some_edge d (omega (arith, before, inside)) in
      let from_j = get_or-map (λ (x : Edge). x.from) edges j some_edge d inside in
      let at_i = ap (λ ns. get_or ns i None) starts in
      let at_j = ap (λ ns. get_or ns j None) starts in
      once i j (Low 0) before (omega (arith, inside, count)) (cc)

  below_each : (n : ℕ) (xs : List ℕ) → All (λ x. x < n) xs → (q : ℕ) → list_any (eqb q) xs ≡ true → q < n
  below_each n [] each q found = absurd (cc)
  below_each n (x ∷ xs) each q found = elim (or_cases (eqb q x) (list_any (eqb q) xs) found) [
    | inl same ↦ let is = eqb-true q x same in rw is (each 0 0 (omega arith))
    | inr rest ↦ below_each n xs (All-tail (λ y. y < n) x xs each) q rest
  ]

  -- as many steps as there are moments at most
  few_steps : (steps : List Step) → IsConflict log steps → length steps ≤ node_count_of log
  few_steps steps conflict =
      let edges = conflict.conflict.edges in
      let found = conflict.conflict.found in
      let count : length steps ≡ length edges = sym (length-map steps (edge_of log)) ∙ ap length found ∙ length-map edges Some in
      let froms = map (λ (x : Edge). x.from) edges in
      let apart = IsDistinct-from_AllPairs Decides-eqb froms (starts_apart steps edges found conflict.once) in
      let few = length-le_from_distinct_below froms (node_count_of log) apart (below_each (node_count_of log) froms (starts_below steps edges conflict.bounds found)) in
      let many : length froms ≡ length edges = length-map edges (λ x. x.from) in
      omega (arith, few, many, count)

  pub walk_spelled : (steps : List Step) → IsConflict log steps → IsSpelledCycle steps
  walk_spelled steps conflict = record {
    count = omega (arith, few_steps steps conflict, valid.few_rows, valid.clocks.few);
    each = each_spelled steps conflict.conflict.edges conflict.bounds conflict.conflict.found;
  }

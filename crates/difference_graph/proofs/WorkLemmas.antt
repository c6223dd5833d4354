-- What waits before and after a number is lowered, and the numbers that are put back.
use Rattle.std.proofs.Common.{◌≡◌, ◌≢◌, ◌∙◌, ap, sym, subst, refl, ℕ, ◌+◌, ◌-◌, ◌<◌, ◌≤◌, inl, inr, List, [], ◌∷◌, ◌++◌, length, set, take, arith, ℤ, pos, ◌+ℤ◌, ◌≤ℤ◌, ◌<ℤ◌, get_or, length-set, get_or-set_other}
use Rattle.std.specs.Prelude.{All, Any, Contains}
use Rattle.std.proofs.lemmas.Int.{ints}
use Rattle.std.proofs.lemmas.Bool.{cases_eq}
use Rattle.std.proofs.lemmas.Grind.{get_or-set_at}
use Rattle.std.proofs.lemmas.List.{ext_get_or, get_or_append_left, length_push, take_more}
use Rattle.std.proofs.lemmas.List.Elements.{All-cons, All-contains, All-nil}
use Rattle.std.proofs.lemmas.List.Sorted.{All-permutation}
use Rattle.std.proofs.Math.Seq.{get_or-append_seam}
use Rattle.neg_cycle.specs.declared.system.Edge.{Edge}
use Rattle.neg_cycle.specs.Systems.{IsSystem, IsNegativeCycle, edge_at, number_of}
use Rattle.difference_graph.specs.Gaps.{IsNumber, IsNearNumber}
use Rattle.difference_graph.specs.declared.waiting.Missed.{Missed}
use Rattle.difference_graph.specs.Repairs.{slack, IsTightest, Begins, LeadsOn, IsTree, IsTrace, IsRepair, MeetsOthers}
use Rattle.difference_graph.specs.Queues.{entry_of, IsClosing, IsEnqueued, IsWaiting, IsQueue, IsRest, IsNext, IsAdded}
use Rattle.difference_graph.specs.Work.{HasWorkRoom, KeepsRoom, MeetsFirst, IsAsked, AreFormer, DiffersAt}
use Rattle.difference_graph.specs.declared.work.Work.{Work}
use Rattle.difference_graph.proofs.TreeLemmas.{begins_last, begins_still, any_last}
use Rattle.difference_graph.proofs.RepairLemmas.{missed_from, missed_leads, at_other, begins_here, begins_new, repair_numbers, repair_room, repair_start, repair_step, refutes}
use Rattle.difference_graph.proofs.QueueLemmas.{queue_start, queue_all}

-- the numbers meet each edge that does not end where the last one does
pub others_of_first : (edges : List Edge) (place : ℕ) (numbers : List ℤ) → place + 1 ≡ length edges → MeetsFirst edges place numbers → MeetsOthers edges (edge_at edges place).to numbers
others_of_first edges place numbers last first q below other = elim (cases_eq q place) [
  | inl e ↦ absurd (other (ap (λ (k : ℕ). (edge_at edges k).to) e))
  | inr before ↦ first q (omega (arith, below, before, last))
]

-- the last edge waits alone, if it is missed
module _ (edges : List Edge) (place : ℕ) (numbers : List ℤ) (last : place + 1 ≡ length edges) (first : MeetsFirst edges place numbers) (none ws : List Missed) (is_none : none ≡ []) (enqueued : IsEnqueued edges numbers (edge_at edges place).to place none ws) where
  pub queue_first : IsQueue edges numbers 0 0 ws
  queue_first = queue_start edges numbers (edge_at edges place).to place (omega (arith, last)) (λ q below missed. elim (cases_eq q place) [
    | inl e ↦ e
    | inr other ↦
        let met = first q (omega (arith, below, other, last)) in
        absurd (omega (arith, ints, missed, met))
  ]) ws (subst (λ (l : List Missed). IsEnqueued edges numbers (edge_at edges place).to place l ws) is_none enqueued)

  pub asked_first : All (IsAsked edges (edge_at edges place).to []) ws
  asked_first = elim enqueued [
    | inl met ↦ rw (met.1, is_none) (All-nil (IsAsked edges (edge_at edges place).to []))
    | inr missed ↦ All-permutation (IsAsked edges (edge_at edges place).to []) (entry_of edges numbers place ∷ none) ws missed.2
        (rw is_none (All-cons (IsAsked edges (edge_at edges place).to []) (entry_of edges numbers place) []
        (record { apart = missed.1; leads = inl refl }) (All-nil (IsAsked edges (edge_at edges place).to []))))
  ]

-- a number is lowered
module _ (edges : List Edge) (end : ℕ) (old : List ℤ) (others : MeetsOthers edges end old) (new : List ℤ) (places : List ℕ) (r : IsRepair edges end old new places)
    (p : ℕ) (t : IsTightest edges new p) (missed : slack new (edge_at edges p) <ℤ pos 0) (apart : (edge_at edges p).from ≢ end) (inside : (edge_at edges p).from < length new)
    (y : ℤ) (is_y : y ≡ number_of new (edge_at edges p).to +ℤ (edge_at edges p).bound) where
  -- no edge that waits ends there
  ends_away : (w : Missed) → IsAsked edges end places w → (edge_at edges w.place).to ≢ (edge_at edges p).from
  ends_away w asked same = elim asked.leads [
    | inl e ↦ apart (sym same ∙ e)
    | inr b ↦
        let (k, x, within, is, begins) = b in
        let none = begins_new edges end old others new places r p t missed apart inside y is_y k x within in
        let at = rw is at none in
        at (begins ∙ same)
  ]

  same_slack : (q : ℕ) → (edge_at edges q).from ≢ (edge_at edges p).from → (edge_at edges q).to ≢ (edge_at edges p).from
      → slack (set new (edge_at edges p).from y) (edge_at edges q) ≡ slack new (edge_at edges q)
  same_slack q from to =
      omega (
        arith,
        ints,
        at_other edges end old others new places r p t missed apart inside y is_y (edge_at edges q).from from,
        at_other
            edges end old others new places r p t missed apart inside y is_y (edge_at edges q).to to,
      )

  met_here : (q : ℕ) → q < length edges → (edge_at edges q).from ≡ (edge_at edges p).from → pos 0 ≤ℤ slack (set new (edge_at edges p).from y) (edge_at edges q)
  met_here q below from = begins_here edges end old others new places r p t missed apart inside y is_y q below from

  still_waiting : (w : Missed) → IsWaiting edges new w → IsAsked edges end places w → IsWaiting edges (set new (edge_at edges p).from y) w
  still_waiting w waiting asked = elim (cases_eq (edge_at edges w.place).from (edge_at edges p).from) [
    | inl from ↦ record { within = waiting.within; by = inr (met_here w.place waiting.within from) }
    | inr away ↦
        let same = same_slack w.place away (ends_away w asked) in
        record {
          within = waiting.within;
          by = elim waiting.by [
            | inl is ↦ inl (omega (arith, ints, is, same))
            | inr met ↦ inr (omega (arith, ints, met, same))
          ];
        }
  ]

  module _ (rest : List Missed) (q : IsRest edges new p rest) (asked : All (IsAsked edges end places) rest) where
    missed_waits : (s : ℕ) → s < length edges → slack (set new (edge_at edges p).from y) (edge_at edges s) <ℤ pos 0
        → (edge_at edges s).to ≢ (edge_at edges p).from → Contains rest (entry_of edges (set new (edge_at edges p).from y) s)
    missed_waits s below low away = elim (cases_eq (edge_at edges s).from (edge_at edges p).from) [
      | inl from ↦ let met = met_here s below from in absurd (omega (arith, ints, met, low))
      | inr other ↦
          let same = same_slack s other away in
          let missed_before : slack new (edge_at edges s) <ℤ pos 0 = omega (arith, ints, low, same) in
          elim (q.waits s below missed_before) [
            | inl e ↦ absurd (other (ap (λ (k : ℕ). (edge_at edges k).from) e))
            | inr held ↦ rw same held
          ]
    ]

    pub queue_lowered : IsQueue edges (set new (edge_at edges p).from y) (edge_at edges p).from (length edges) rest
    queue_lowered = record {
      each = λ k d within. still_waiting (get_or rest k d) (q.each k d within) (asked k d within);
      once = q.once;
      behind = λ k d within to. absurd (ends_away (get_or rest k d) (asked k d within) to);
      waits = λ s below low. elim (cases_eq (edge_at edges s).to (edge_at edges p).from) [
        | inl to ↦ inl (to, below)
        | inr away ↦ inr (missed_waits s below low away)
      ];
    }

-- what waits is asked for by the edges before or by the new one
pub asked_more : (edges : List Edge) (end : ℕ) (places : List ℕ) (p : ℕ) (before after : List Missed)
    → All (IsAsked edges end places) before → All (IsAdded edges (edge_at edges p).from end before) after
    → All (IsAsked edges end (places ++ p ∷ [])) after
asked_more edges end places p before after asked added k d within = elim (added k d within) [
  | inl new ↦ record { apart = new.1; leads = inr (subst (λ (v : ℕ). Begins edges (places ++ p ∷ []) v) (sym new.0) (begins_last edges places p)) }
  | inr held ↦
      let a = All-contains (IsAsked edges end places) before (get_or after k d) asked held in
      record {
        apart = a.apart;
        leads = elim a.leads [
          | inl e ↦ inl e
          | inr b ↦ inr (begins_still edges places p (edge_at edges (get_or after k d).place).to b)
        ];
      }
]

-- all that is left waited before
pub asked_fewer : (edges : List Edge) (end : ℕ) (places : List ℕ) (before after : List Missed) → All (IsAsked edges end places) before
    → All (Contains before) after → All (IsAsked edges end places) after
asked_fewer edges end places before after asked fewer k d within = All-contains (IsAsked edges end places) before (get_or after k d) asked (fewer k d within)

-- the edge at the place waited
pub asked_apart : (edges : List Edge) (end : ℕ) (places : List ℕ) (ws : List Missed) (p : ℕ) → All (IsAsked edges end places) ws → Any (λ w. w.place ≡ p) ws → (edge_at edges p).from ≢ end
asked_apart edges end places ws p asked (k, w, within, is, at) =
    let a = asked k w within in
    let apart = a.apart in
    rw (is, at) at apart

-- what the numbers were, with one more
pub former_more : (edges : List Edge) (places : List ℕ) (p : ℕ) (old former : List ℤ) (x : ℤ) → AreFormer edges places old former
    → x ≡ number_of old (edge_at edges p).from → AreFormer edges (places ++ p ∷ []) old (former ++ x ∷ [])
former_more edges places p old former x f is = record {
  count = length_push former x ∙ ap (λ n. n + 1) f.count ∙ sym (length_push places p);
  is = λ j within. elim (cases_eq j (length places)) [
    | inl e ↦
        let first = ap (λ (k : ℕ). number_of (former ++ x ∷ []) k) (e ∙ sym f.count) ∙ get_or-append_seam former x [] (pos 0) in
        let second = ap (λ (k : ℕ). get_or (places ++ p ∷ []) k 0) e ∙ get_or-append_seam places p [] 0 in
        rw second (first ∙ is)
    | inr other ↦
        let before : j < length places = omega (arith, length_push places p, within, other) in
        let first = get_or_append_left former (x ∷ []) (pos 0) j (omega (arith, before, f.count)) in
        let second = get_or_append_left places (p ∷ []) 0 j before in
        rw second (first ∙ f.is j before)
  ];
}

-- only what was lowered differs
pub repair_differs : (edges : List Edge) (end : ℕ) (old new : List ℤ) (places : List ℕ) → IsRepair edges end old new places → DiffersAt edges places old new
repair_differs edges end old new places r = record {
  count = r.count;
  each = λ v. elim (r.each v) [ inl same ↦ inl same | inr lowered ↦ inr lowered.begins ];
}

-- one of the numbers is put back
module _ (edges : List Edge) (places : List ℕ) (old former new : List ℤ) (f : AreFormer edges places old former) (left : ℕ) (some : 0 < left) (within : left ≤ length places) (d : DiffersAt edges (take left places) old new)
    (inside : (edge_at edges (get_or places (left - 1) 0)).from < length new) (x : ℤ) (is_x : x ≡ number_of former (left - 1)) where
  put_at : number_of (set new (edge_at edges (get_or places (left - 1) 0)).from x) (edge_at edges (get_or places (left - 1) 0)).from ≡ number_of old (edge_at edges (get_or places (left - 1) 0)).from
  put_at =
      get_or-set_at new (edge_at edges (get_or places (left - 1) 0)).from (edge_at edges (get_or places (left - 1) 0)).from x (pos 0) refl
      inside ∙ is_x ∙ f.is (left - 1) (omega (arith, some, within))

  taken : take left places ≡ take (left - 1) places ++ get_or places (left - 1) 0 ∷ []
  taken =
      let more : left ≡ left - 1 + 1 = omega (arith, some) in
      ap (λ (n : ℕ). take n places) more ∙ take_more places (left - 1) 0 (omega (arith, some, within))

  pub differs_less : DiffersAt edges (take (left - 1) places) old (set new (edge_at edges (get_or places (left - 1) 0)).from x)
  differs_less = record {
    count = length-set new (edge_at edges (get_or places (left - 1) 0)).from x ∙ d.count;
    each = λ v. elim (cases_eq v (edge_at edges (get_or places (left - 1) 0)).from) [
      | inl e ↦ inl (subst (λ (k : ℕ). number_of (set new (edge_at edges (get_or places (left - 1) 0)).from x) k ≡ number_of old k) (sym e) put_at)
      | inr other ↦
          let at = get_or-set_other new (edge_at edges (get_or places (left - 1) 0)).from v x (pos 0) other in
          elim (d.each v) [
            | inl same ↦ inl (at ∙ same)
            | inr b ↦ inr (any_last (λ p. (edge_at edges p).from ≡ v) (take (left - 1) places) (get_or places (left - 1) 0)
                (subst (λ (ps : List ℕ). Begins edges ps v) taken b) (λ same. other (sym same)))
          ]
    ];
  }

-- all are put back
pub all_back : (edges : List Edge) (places : List ℕ) (left : ℕ) (old new : List ℤ) → left ≡ 0 → DiffersAt edges (take left places) old new → new ≡ old
all_back edges places left old new none d = ext_get_or (pos 0) new old d.count (λ v within. elim (d.each v) [
  | inl same ↦ same
  | inr b ↦
      let (k, x, inside, is, begins) = subst (λ (n : ℕ). Begins edges (take n places) v) none b in
      absurd (omega (arith, inside))
])

-- numbers that are lowered for some edges, and the edges that wait for more of that
pub record IsState (edges : List Edge) (end : ℕ) (old new : List ℤ) (places : List ℕ) (former : List ℤ) (ws : List Missed) : Type 0 where
  pub repair : IsRepair edges end old new places
  pub noted : AreFormer edges places old former
  pub queue : IsQueue edges new 0 0 ws
  pub asked : All (IsAsked edges end places) ws

-- one more is lowered
module _ (edges : List Edge) (end : ℕ) (old : List ℤ) (system : IsSystem (length old) edges) (others : MeetsOthers edges end old) (near : All IsNearNumber old)
    (new : List ℤ) (places : List ℕ) (former : List ℤ) (ws : List Missed) (s : IsState edges end old new places former ws) (p : ℕ) (n : IsNext edges new p) (waited : Any (λ w. w.place ≡ p) ws) where
  apart : (edge_at edges p).from ≢ end
  apart = asked_apart edges end places ws p s.asked waited

  pub state_room : length places < length old
  state_room = repair_room edges end old system others new places s.repair p n.tightest n.missed apart

  within : (edge_at edges p).from < length new
  within = omega (arith, s.repair.count, (system.each p (record { from = 0; to = 0; bound = pos 0 }) n.tightest.within).from)

  module _ (lowered : List ℤ) (is : lowered ≡ set new (edge_at edges p).from (number_of new (edge_at edges p).to +ℤ (edge_at edges p).bound)) (more : List ℕ) (is_more : more ≡ places ++ p ∷ []) where
    pub lowered_repair : IsRepair edges end old lowered more
    lowered_repair = rw (is, is_more) (repair_step edges end old system others new places s.repair p n.tightest n.missed apart (number_of new (edge_at edges p).to +ℤ (edge_at edges p).bound) refl)

    pub lowered_numbers : All IsNumber lowered
    lowered_numbers = repair_numbers edges end old others lowered more lowered_repair near

    pub lowered_noted : (before : List ℤ) → before ≡ former ++ number_of new (edge_at edges p).from ∷ [] → AreFormer edges more old before
    lowered_noted before is_before =
        rw (is_more, is_before) (former_more edges places p old former (number_of new (edge_at edges p).from) s.noted
        (missed_from edges end old others new places s.repair p n.tightest.within n.missed))

    module _ (rest : List Missed) (q : IsRest edges new p rest) (fewer : All (Contains ws) rest) where
      still_asked : All (IsAsked edges end places) rest
      still_asked = asked_fewer edges end places ws rest s.asked fewer

      pub lowered_queue : IsQueue edges lowered (edge_at edges p).from (length edges) rest
      lowered_queue =
          rw is (queue_lowered edges end old others new places s.repair p n.tightest n.missed apart within
          (number_of new (edge_at edges p).to +ℤ (edge_at edges p).bound) refl rest q still_asked)

      pub state_more : (after : List Missed) (before : List ℤ) → before ≡ former ++ number_of new (edge_at edges p).from ∷ []
          → IsQueue edges lowered (edge_at edges p).from 0 after → All (IsAdded edges (edge_at edges p).from end rest) after
          → IsState edges end old lowered more before after
      state_more after before is_before queue added = record {
        repair = lowered_repair;
        noted = lowered_noted before is_before;
        queue = queue_all edges lowered (edge_at edges p).from after queue;
        asked = rw is_more (asked_more edges end places p rest after still_asked added);
      }

-- nothing is lowered, and the last edge may wait
pub state_first : (edges : List Edge) (place end : ℕ) (numbers : List ℤ) (places : List ℕ) (former : List ℤ) (none ws : List Missed)
    → end ≡ (edge_at edges place).to → IsSystem (length numbers) edges → All IsNearNumber numbers → place + 1 ≡ length edges
    → MeetsFirst edges place numbers → places ≡ [] → former ≡ [] → none ≡ [] → IsEnqueued edges numbers end place none ws
    → IsState edges end numbers numbers places former ws
state_first edges place end numbers places former none ws is_end system near last first no_places no_former no_waiting enqueued = record {
  repair = rw no_places (repair_start edges end numbers system near);
  noted = rw (no_places, no_former) (record { count = refl; is = λ j within. absurd (omega (arith, within)) });
  queue = queue_first edges place numbers last first none ws no_waiting (subst (λ (v : ℕ). IsEnqueued edges numbers v place none ws) is_end enqueued);
  asked = rw (no_places, is_end) (asked_first edges place numbers last first none ws no_waiting (subst (λ (v : ℕ). IsEnqueued edges numbers v place none ws) is_end enqueued));
}

-- an edge that begins at the end is missed
module _ (edges : List Edge) (end : ℕ) (old : List ℤ) (others : MeetsOthers edges end old) (new : List ℤ) (places : List ℕ) (r : IsRepair edges end old new places) (q : ℕ) (k : IsClosing edges new end q) where
  pub closing_tree : IsTree edges (edge_at edges q).from places
  closing_tree = rw k.begins r.tree

  pub closing_leads : LeadsOn edges (edge_at edges q).from places (edge_at edges q).to
  closing_leads = rw k.begins (missed_leads edges end old others new places r q k.within k.missed)

  pub closing_cycle : (walk : List ℕ) → IsTrace edges places q walk → IsNegativeCycle edges walk
  closing_cycle walk trace = refutes edges end old others new places r q k.within k.missed walk trace

-- there is room still
pub keeps_room : (nodes count edges : ℕ) (old new : Work) → count ≡ nodes → HasWorkRoom nodes edges old → KeepsRoom old new → HasWorkRoom count edges new
keeps_room nodes count edges old new same had keeps = record {
  waiting = omega (arith, had.waiting, keeps.waiting);
  order = omega (arith, same, had.order, keeps.order);
  former = omega (arith, same, had.former, keeps.former);
  walk = omega (arith, same, had.walk, keeps.walk);
}

-- room for so many edges is room for fewer
pub room_within : (nodes count limit edges : ℕ) (work : Work) → count ≡ nodes → edges ≤ limit → HasWorkRoom nodes limit work → HasWorkRoom count edges work
room_within nodes count limit edges work same few had = record {
  waiting = omega (arith, few, had.waiting);
  order = omega (arith, same, had.order);
  former = omega (arith, same, had.former);
  walk = omega (arith, same, had.walk);
}

-- Numbers that are lowered one after another: what a step keeps, and what the end shows.
use Rattle.std.proofs.Common.{◌≡◌, ◌≢◌, ◌∙◌, sym, subst, refl, ℕ, suc, ◌+◌, ◌-◌, ◌^◌, ◌<◌, ◌⊎◌, inl, inr, List, [], ◌∷◌, ◌++◌, length, set, arith, false, ℤ, pos, ◌+ℤ◌, ◌≤ℤ◌, ◌<ℤ◌, get_or, length-set, get_or-set_other}
use Rattle.std.specs.Prelude.{All, Bool, IsTrue, ◌↔◌}
use Rattle.std.proofs.lemmas.Int.{ints, by_lt_z}
use Rattle.std.proofs.lemmas.Bool.{cases_eq, false≢true}
use Rattle.std.proofs.lemmas.Grind.{get_or-set_at}
use Rattle.std.proofs.lemmas.List.{get_or_default, length_push}
use Rattle.std.proofs.lemmas.List.Elements.{All-push, All-contains}
use Rattle.neg_cycle.specs.declared.system.Edge.{Edge}
use Rattle.neg_cycle.specs.Systems.{IsSystem, Meets, edge_at, number_of, LeadsTo, sum_of_bounds, IsNegativeCycle}
use Rattle.difference_graph.specs.Gaps.{IsNumber, IsNearNumber}
use Rattle.difference_graph.specs.Repairs.{slack, IsTightest, BeginsNone, LeadsOn, IsTrace, IsLowered, IsRepair, MeetsOthers}
use Rattle.difference_graph.proofs.TreeLemmas.{begins_last, begins_still, tree_push, tree_nil, tree_short}

-- an edge that is met has slack
pub meets : (numbers : List ℤ) (e : Edge) → Meets numbers e → pos 0 ≤ℤ slack numbers e
meets numbers e met = omega (arith, ints, met)

-- an edge that is not met has too little
pub misses : (numbers : List ℤ) (e : Edge) (r : Bool) → (IsTrue r ↔ Meets numbers e) → r ≡ false → slack numbers e <ℤ pos 0
misses numbers e r is not_met = by_lt_z (slack numbers e) (pos 0) (λ below. below) (λ least. absurd (false≢true (sym not_met ∙ is.1 (omega (arith, ints, least)))))

module _ (edges : List Edge) (end : ℕ) (old : List ℤ) (others : MeetsOthers edges end old) (new : List ℤ) (places : List ℕ) (r : IsRepair edges end old new places) where
  -- no number rose
  fell : (v : ℕ) → number_of new v ≤ℤ number_of old v
  fell v = elim (r.each v) [ inl same ↦ omega (arith, ints, same) | inr lowered ↦ omega (arith, ints, lowered.below) ]

  -- an edge that is missed begins at a node that has its old number
  pub missed_from : (p : ℕ) → p < length edges → slack new (edge_at edges p) <ℤ pos 0 → number_of new (edge_at edges p).from ≡ number_of old (edge_at edges p).from
  missed_from p below missed = elim (r.each (edge_at edges p).from) [
    | inl same ↦ same
    | inr lowered ↦ let met = r.met p below lowered.below in absurd (omega (arith, ints, met, missed))
  ]

  -- and leads on
  pub missed_leads : (p : ℕ) → p < length edges → slack new (edge_at edges p) <ℤ pos 0 → LeadsOn edges end places (edge_at edges p).to
  missed_leads p below missed = elim (cases_eq (edge_at edges p).to end) [
    | inl e ↦ inl e
    | inr other ↦ elim (r.each (edge_at edges p).to) [
      | inl same ↦
          let from = missed_from p below missed in
          let met = others p below other in
          absurd (omega (arith, ints, missed, same, from, met))
      | inr lowered ↦ inr lowered.begins
    ]
  ]

  -- the edge with the least slack is missed, and begins at a node other than the end
  module _ (p : ℕ) (t : IsTightest edges new p) (missed : slack new (edge_at edges p) <ℤ pos 0) (apart : (edge_at edges p).from ≢ end) (inside : (edge_at edges p).from < length new)
      (y : ℤ) (is_y : y ≡ number_of new (edge_at edges p).to +ℤ (edge_at edges p).bound) where
    at_from : number_of (set new (edge_at edges p).from y) (edge_at edges p).from ≡ number_of new (edge_at edges p).from +ℤ slack new (edge_at edges p)
    at_from = get_or-set_at new (edge_at edges p).from (edge_at edges p).from y (pos 0) refl inside ∙ omega (arith, ints, is_y)

    pub at_other : (v : ℕ) → v ≢ (edge_at edges p).from → number_of (set new (edge_at edges p).from y) v ≡ number_of new v
    at_other v other = get_or-set_other new (edge_at edges p).from v y (pos 0) other

    at_same : (v : ℕ) → v ≡ (edge_at edges p).from → number_of (set new (edge_at edges p).from y) v ≡ number_of new v +ℤ slack new (edge_at edges p)
    at_same v e = subst (λ (k : ℕ). number_of (set new (edge_at edges p).from y) k ≡ number_of new k +ℤ slack new (edge_at edges p)) (sym e) at_from

    pub old_at : (v : ℕ) → v ≡ (edge_at edges p).from → number_of new v ≡ number_of old v
    old_at v e = subst (λ (k : ℕ). number_of new k ≡ number_of old k) (sym e) (missed_from p t.within missed)

    falls : (v : ℕ) → number_of (set new (edge_at edges p).from y) v ≤ℤ number_of new v
    falls v = elim (cases_eq v (edge_at edges p).from) [
      | inl e ↦ omega (arith, ints, at_same v e, missed)
      | inr other ↦ omega (arith, ints, at_other v other)
    ]

    met_old : (q v : ℕ) → q < length edges → (edge_at edges q).to ≡ v → v ≡ (edge_at edges p).from → Meets old (edge_at edges q)
    met_old q v below to e = others q below (λ at_end. apart (sym e ∙ sym to ∙ at_end))

    -- what the edge misses now, by whether it begins or ends at the node that is lowered
    pub begins_here : (q : ℕ) → q < length edges → (edge_at edges q).from ≡ (edge_at edges p).from → pos 0 ≤ℤ slack (set new (edge_at edges p).from y) (edge_at edges q)
    begins_here q below from = elim (cases_eq (edge_at edges q).to (edge_at edges p).from) [
      | inl to ↦ omega (
        arith,
        ints,
        at_same (edge_at edges q).from from,
        at_same (edge_at edges q).to to,
        old_at (edge_at edges q).from
            from,
        old_at (edge_at edges q).to to,
        met_old q (edge_at edges q).to below refl to,
      )
      | inr other ↦ omega (arith, ints, at_same (edge_at edges q).from from, at_other (edge_at edges q).to other, t.least q below)
    ]

    slack_most : (q : ℕ) → q < length edges → slack new (edge_at edges p) ≤ℤ slack (set new (edge_at edges p).from y) (edge_at edges q)
    slack_most q below = elim (cases_eq (edge_at edges q).from (edge_at edges p).from) [
      | inl from ↦ omega (arith, ints, begins_here q below from, missed)
      | inr away ↦ elim (cases_eq (edge_at edges q).to (edge_at edges p).from) [
        | inl to ↦ omega (
          arith,
          ints,
          at_other (edge_at edges q).from away,
          at_same (edge_at edges q).to to,
          old_at (edge_at edges q).to
              to,
          fell (edge_at edges q).from,
          met_old q (edge_at edges q).to below refl to,
        )
        | inr other ↦ omega (arith, ints, at_other (edge_at edges q).from away, at_other (edge_at edges q).to other, t.least q below)
      ]
    ]

    -- an edge from a node that was lowered before, to the one that is lowered now
    met_lowered : (q : ℕ) → q < length edges → IsLowered edges old new places (edge_at edges q).from
        → (edge_at edges q).from ≢ (edge_at edges p).from → (edge_at edges q).to ≡ (edge_at edges p).from
        → pos 0 ≤ℤ slack (set new (edge_at edges p).from y) (edge_at edges q)
    met_lowered q below lowered away to =
        omega (
          arith,
          ints,
          lowered.most p t.within,
          at_other (edge_at edges q).from away,
          at_same (edge_at edges q).to to,
          old_at
              (edge_at edges q).to to,
          met_old q (edge_at edges q).to below refl to,
        )

    met_more : (q : ℕ) → q < length edges
        → number_of (set new (edge_at edges p).from y) (edge_at edges q).from <ℤ number_of old (edge_at edges q).from
        → pos 0 ≤ℤ slack (set new (edge_at edges p).from y) (edge_at edges q)
    met_more q below low = elim (cases_eq (edge_at edges q).from (edge_at edges p).from) [
      | inl from ↦ begins_here q below from
      | inr away ↦ elim (r.each (edge_at edges q).from) [
        | inl same ↦ absurd (omega (arith, ints, low, same, at_other (edge_at edges q).from away))
        | inr lowered ↦ elim (cases_eq (edge_at edges q).to (edge_at edges p).from) [
          | inl to ↦ met_lowered q below lowered away to
          | inr other ↦ omega (arith, ints, at_other (edge_at edges q).from away, at_other (edge_at edges q).to other, r.met q below lowered.below)
        ]
      ]
    ]

    lowered_now : IsLowered edges old (set new (edge_at edges p).from y) (places ++ p ∷ []) (edge_at edges p).from
    lowered_now = record {
      below = omega (arith, ints, at_from, old_at (edge_at edges p).from refl, missed);
      begins = begins_last edges places p;
      most = λ q below. omega (arith, ints, at_from, old_at (edge_at edges p).from refl, slack_most q below);
    }

    lowered_before : (v : ℕ) → v ≢ (edge_at edges p).from → IsLowered edges old new places v → IsLowered edges old (set new (edge_at edges p).from y) (places ++ p ∷ []) v
    lowered_before v other lowered = record {
      below = omega (arith, ints, at_other v other, lowered.below);
      begins = begins_still edges places p v lowered.begins;
      most = λ q below. omega (arith, ints, at_other v other, slack_most q below, lowered.most p t.within);
    }

    each_more : (v : ℕ) → (number_of (set new (edge_at edges p).from y) v ≡ number_of old v) ⊎ IsLowered edges old (set new (edge_at edges p).from y) (places ++ p ∷ []) v
    each_more v = elim (cases_eq v (edge_at edges p).from) [
      | inl e ↦ inr (subst (λ (k : ℕ). IsLowered edges old (set new (edge_at edges p).from y) (places ++ p ∷ []) k) (sym e) lowered_now)
      | inr other ↦ elim (r.each v) [
        | inl same ↦ inl (at_other v other ∙ same)
        | inr lowered ↦ inr (lowered_before v other lowered)
      ]
    ]

    -- none of the edges before begins here
    pub begins_new : BeginsNone edges places (edge_at edges p).from
    begins_new k d within =
        let below = r.below k d within in
        λ same. absurd (omega (arith, ints, below, old_at (edge_at edges (get_or places k d)).from same))

    tight_before : (q : ℕ) → (edge_at edges q).from ≢ (edge_at edges p).from → slack new (edge_at edges q) ≤ℤ pos 0 → slack (set new (edge_at edges p).from y) (edge_at edges q) ≤ℤ pos 0
    tight_before q away tight = omega (arith, ints, at_other (edge_at edges q).from away, falls (edge_at edges q).to, tight)

    tight_now : slack (set new (edge_at edges p).from y) (edge_at edges p) ≤ℤ pos 0
    tight_now = elim (cases_eq (edge_at edges p).to (edge_at edges p).from) [
      | inl to ↦
          let met = met_old p (edge_at edges p).to t.within refl to in
          absurd (omega (arith, ints, missed, old_at (edge_at edges p).to to, old_at (edge_at edges p).from refl, met))
      | inr other ↦ omega (arith, ints, at_from, at_other (edge_at edges p).to other)
    ]

    pub repair_more : IsRepair edges end old (set new (edge_at edges p).from y) (places ++ p ∷ [])
    repair_more = record {
      count = length-set new (edge_at edges p).from y ∙ r.count;
      kept = at_other end (λ e. apart (sym e)) ∙ r.kept;
      tree = tree_push edges end places r.tree p t.within begins_new apart (missed_leads p t.within missed);
      below = All-push (λ q. number_of (set new (edge_at edges p).from y) (edge_at edges q).from <ℤ number_of old (edge_at edges q).from) places p
          (λ k d within. omega (arith, ints, r.below k d within, falls (edge_at edges (get_or places k d)).from)) lowered_now.below;
      tight = All-push (λ q. slack (set new (edge_at edges p).from y) (edge_at edges q) ≤ℤ pos 0) places p
          (λ k d within. tight_before (get_or places k d) (begins_new k d within) (r.tight k d within)) tight_now;
      met = met_more;
      each = each_more;
      near = λ q below. omega (arith, ints, slack_most q below, r.near p t.within);
      floor = λ v. elim (cases_eq v (edge_at edges p).from) [
        | inl e ↦ omega (arith, ints, at_same v e, old_at v e, r.near p t.within)
        | inr other ↦ omega (arith, ints, at_other v other, r.floor v)
      ];
    }

  -- the numbers stay in range
  pub repair_numbers : All IsNearNumber old → All IsNumber new
  repair_numbers near v d below =
      let within : v < length old = omega (arith, r.count, below) in
      let number : IsNearNumber (number_of old v) = near v (pos 0) within in
      let is : IsNumber (number_of new v) = record { low = omega (arith, ints, number.low, r.floor v); high = omega (arith, ints, number.high, fell v) } in
      rw (get_or_default new v d (pos 0) below) is

  -- along edges that are just met or missed, the numbers fall by the sum of the bounds at least
  tight_sum : (a b : ℕ) (walk : List ℕ) → LeadsTo edges a walk b → All (λ q. slack new (edge_at edges q) ≤ℤ pos 0) walk → (sum_of_bounds edges walk +ℤ number_of new b) ≤ℤ number_of new a
  tight_sum a b [] leads tight = rw leads (omega (arith, ints))
  tight_sum a b (q ∷ qs) leads tight =
      let first = rw leads.1 at (tight 0 0 (omega arith)) in
      let rest = tight_sum (edge_at edges q).to b qs leads.2 (λ k d within. tight (suc k) d (omega (arith, within))) in
      omega (arith, ints, first, rest)

  module _ (p : ℕ) (below : p < length edges) (missed : slack new (edge_at edges p) <ℤ pos 0) (walk : List ℕ) (trace : IsTrace edges places p walk) where
    rest_tight : All (λ q. slack new (edge_at edges q) ≤ℤ pos 0) trace.rest
    rest_tight k d within = All-contains (λ q. slack new (edge_at edges q) ≤ℤ pos 0) places (get_or trace.rest k d) r.tight (trace.among k d within)

    sum_negative : sum_of_bounds edges (p ∷ trace.rest) <ℤ pos 0
    sum_negative =
        let rest = tight_sum (edge_at edges p).to (edge_at edges p).from trace.rest trace.leads rest_tight in
        omega (arith, ints, rest, missed)

    pub refutes : IsNegativeCycle edges walk
    refutes = rw trace.is (record { closed = (below, refl, trace.leads); negative = sum_negative })

-- near numbers are in range
pub near_numbers : (numbers : List ℤ) → All IsNearNumber numbers → All IsNumber numbers
near_numbers numbers near v d below =
    let number : IsNearNumber (get_or numbers v d) = near v d below in
    record { low = omega (arith, ints, number.low); high = number.high }

-- nothing is lowered yet
module _ (edges : List Edge) (end : ℕ) (numbers : List ℤ) (system : IsSystem (length numbers) edges) (near : All IsNearNumber numbers) where
  slack_near : (q : ℕ) → q < length edges → pos 0 ≤ℤ (slack numbers (edge_at edges q) +ℤ pos (2 ^ 114))
  slack_near q below =
      let e = system.each q (record { from = 0; to = 0; bound = pos 0 }) below in
      let bound = e.bound in
      let from : IsNearNumber (number_of numbers (edge_at edges q).from) = near (edge_at edges q).from (pos 0) e.from in
      let to : IsNearNumber (number_of numbers (edge_at edges q).to) = near (edge_at edges q).to (pos 0) e.to in
      omega (arith, ints, bound, from, to)

  pub repair_start : IsRepair edges end numbers numbers []
  repair_start = record {
    count = refl;
    kept = refl;
    tree = tree_nil edges end;
    below = λ k d within. absurd (omega (arith, within));
    tight = λ k d within. absurd (omega (arith, within));
    met = λ q below low. absurd (omega (arith, ints, low));
    each = λ v. inl refl;
    near = slack_near;
    floor = λ v. omega (arith, ints);
  }

-- a step within a system
module _ (edges : List Edge) (end : ℕ) (old : List ℤ) (system : IsSystem (length old) edges) (others : MeetsOthers edges end old) (new : List ℤ) (places : List ℕ) (r : IsRepair edges end old new places)
    (p : ℕ) (t : IsTightest edges new p) (missed : slack new (edge_at edges p) <ℤ pos 0) (apart : (edge_at edges p).from ≢ end) where
  inside : (edge_at edges p).from < length new
  inside = omega (arith, r.count, (system.each p (record { from = 0; to = 0; bound = pos 0 }) t.within).from)

  pub repair_step : (written : ℤ) → written ≡ number_of new (edge_at edges p).to +ℤ (edge_at edges p).bound → IsRepair edges end old (set new (edge_at edges p).from written) (places ++ p ∷ [])
  repair_step written is = repair_more edges end old others new places r p t missed apart inside written is

  -- not all nodes are lowered yet
  pub repair_room : length places < length old
  repair_room =
      let few = tree_short edges (length old) system.each end (places ++ p ∷ []) (repair_step (number_of new (edge_at edges p).to +ℤ (edge_at edges p).bound) refl).tree in
      omega (arith, few, length_push places p)

-- so fewer are left
pub fewer_left : (nodes count more : ℕ) → more ≡ count + 1 → count < nodes → nodes - more < nodes - count
fewer_left nodes count more is room = omega (arith, is, room)

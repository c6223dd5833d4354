-- What a conflict leaves of the lower levels, and that it has a literal of the present one.
use Rattle.std.proofs.Common.{◌≡◌, ◌∙◌, sym, ap, subst, ℕ, ◌-◌, ◌<◌, ◌≤◌, inl, inr, Bool, true, List, [], ◌∷◌, ◌++◌, length, Option, arith}
use Rattle.std.specs.Prelude.{nat_le}
use Rattle.std.specs.List.{Contains}
use Rattle.std.proofs.lemmas.Bool.{cases_lt, le-leb, leb-true}
use Rattle.std.proofs.lemmas.List.Elements.{All-nil, All-cons, All-append, All-contains, All-contains_itself, All-filter, Contains-get_or, filter_passes}
use Rattle.hint_refutation.proofs.Lists.{any_found, any_from, contains_first, contains_later, contains_map, contains_unmap, contains_filter}
use Rattle.hint_refutation.specs.Propagation.{IsSettled}
use Rattle.neg_cycle.specs.declared.system.Edge.{Edge}
use Rattle.difference_graph.specs.Graphs.{Constraints}
use Rattle.clause_db.specs.declared.lit.Lit.{Lit}
use Rattle.clause_db.specs.Literals.{negation}
use Rattle.clause_db.specs.Clauses.{clause_at}
use Rattle.propagate.specs.declared.entry.Entry.{Entry}
use Rattle.propagate.specs.Trails.{Assigned, no_entry, entry_at, literals, up_to, IsTrail}
use Rattle.propagate.specs.Clauses.{IsFalsified}
use Rattle.propagate.specs.Closed.{ClosedAt}
use Rattle.propagate.specs.Reach.{IsConflict}
use Rattle.analyze.specs.Asserting.{HasHere, HasTwoAbove, IsAsserting, IsFalseSince, IsJump}
use Rattle.analyze.specs.Resolving.{level_of}
use Rattle.analyze.proofs.Order.{apart_from_negation, distinct, false_at, since_at, since_from}
use Rattle.cdcl_core.specs.Running.{IsConflicted, IsRun}
use Rattle.propagate.proofs.ClauseLemmas.{read_entry}

-- a literal of levels up to m is at a place of such a level
pub low_at : (xs : List Entry) (m : ℕ) (l : Lit) → Contains (literals (up_to m xs)) l → (k : ℕ) × (k < length xs) × ((entry_at xs k).lit ≡ l) × (level_of xs k ≤ m)
low_at xs m l has =
    let low : Entry → Bool = λ (e : Entry). nat_le e.level m in
    let (e, held, is) = contains_unmap (λ (x : Entry). x.lit) (up_to m xs) l has in
    let old = All-contains (Contains xs) (up_to m xs) e (All-filter low (Contains xs) xs (All-contains_itself xs)) held in
    let passes = leb-true e.level m (All-contains (λ (x : Entry). low x ≡ true) (up_to m xs) e (filter_passes low xs) held) in
    let here = read_entry xs old.0 e old.1 old.2 in
    (old.0, old.1, ap (λ (x : Entry). x.lit) here ∙ is, subst (λ (x : Entry). x.level ≤ m) (sym here) passes)

-- a literal at a place of a level up to m is one of these
low_held : (xs : List Entry) (m k : ℕ) (l : Lit) → k < length xs → (entry_at xs k).lit ≡ l → level_of xs k ≤ m → Contains (literals (up_to m xs)) l
low_held xs m k l within is low =
    let kept = contains_filter (λ (e : Entry). nat_le e.level m) xs (entry_at xs k) (Contains-get_or xs k no_entry within) (le-leb (level_of xs k) m low) in
    subst (λ (x : Lit). Contains (literals (up_to m xs)) x) is (contains_map (λ (e : Entry). e.lit) (up_to m xs) (entry_at xs k) kept)

module _ (t : Assigned) (trail : IsTrail t) where
  -- what became false above a level isn't false at it
  open_at : (m : ℕ) (l : Lit) → IsFalseSince t.entries (λ n. m < n) l → Contains (literals (up_to m t.entries)) (negation l) → ⊥
  open_at m l since has =
      let (k, within, is, low) = low_at t.entries m (negation l) has in
      let (j, below, at, high) = since_at t.entries (λ n. m < n) l since in
      let same : k ≡ j = distinct t trail k j within below (ap (λ (x : Lit). x.var) (is ∙ sym at)) in
      let level = ap (level_of t.entries) same in
      omega (arith, low, high, level)

  -- nor is it true there
  not_true_at : (m : ℕ) (l : Lit) → IsFalsified t.entries (l ∷ []) → Contains (literals (up_to m t.entries)) l → ⊥
  not_true_at m l false_ has =
      let (k, within, is, low) = low_at t.entries m l has in
      let (j, below, at) = false_at t.entries (l ∷ []) false_ l (contains_first l []) in
      let same : k ≡ j = distinct t trail k j within below (ap (λ (x : Lit). x.var) is ∙ sym (ap (λ (x : Lit). x.var) at)) in
      apart_from_negation l (sym is ∙ ap (λ (i : ℕ). (entry_at t.entries i).lit) same ∙ at)

  -- a clause with two literals that became false above a level is settled at it
  pub settled_above : (m : ℕ) (clause : List Lit) → HasTwoAbove t.entries m clause → IsSettled negation (literals (up_to m t.entries)) clause
  settled_above m clause two = inr (record {
    one = two.one;
    other = two.other;
    has_one = two.has_one;
    has_other = two.has_other;
    differ = two.differ;
    one_open = open_at m two.one two.one_above;
    other_open = open_at m two.other two.other_above;
  })

  -- a clause that is false, and settled at the level below, has a literal of the present level
  pub here_of_settled : (clause : List Lit) → 0 < length t.levels → IsFalsified t.entries clause → IsSettled negation (literals (up_to (length t.levels - 1) t.entries)) clause → HasHere t clause
  here_of_settled clause some false_ (inl true_) =
      let (l, has, held) = any_found (Contains (literals (up_to (length t.levels - 1) t.entries))) clause true_ in
      absurd (not_true_at (length t.levels - 1) l (one_false l has) held)
    where
      one_false : (l : Lit) → Contains clause l → IsFalsified t.entries (l ∷ [])
      one_false l has =
          All-cons (λ (x : Lit). Contains (literals t.entries) (negation x)) l []
          (All-contains (λ (x : Lit). Contains (literals t.entries) (negation x)) clause l false_ has)
          (All-nil (λ (x : Lit). Contains (literals t.entries) (negation x)))
  here_of_settled clause some false_ (inr two) =
      let (k, within, at) = false_at t.entries clause false_ two.one two.has_one in
      elim (cases_lt (level_of t.entries k) (length t.levels)) [
        | inr high ↦
            let top = trail.levels.top k within in
            any_from (IsFalseSince t.entries (λ n. n ≡ length t.levels)) clause two.one two.has_one (since_from t.entries (λ n. n ≡ length t.levels) k two.one within at (omega (arith, high, top)))
        | inl low ↦ absurd (two.one_open (low_held t.entries (length t.levels - 1) k (negation two.one) within at (omega (arith, low, some))))
      ]

  -- the learned clause has two literals that became false above each level below the jump
  pub learned_above : (lits : List Lit) (jump : ℕ) → IsAsserting t lits → IsJump t.entries lits jump → jump < length t.levels → (m : ℕ) → m < jump → HasTwoAbove t.entries m lits
  learned_above [] jump asserting is low m less = absurd asserting
  learned_above (first ∷ []) jump asserting is low m less = absurd (omega (arith, is, less))
  learned_above (first ∷ second ∷ others) jump asserting is low m less =
      let (l, has, since) = any_found (IsFalseSince t.entries (λ n. n ≡ jump)) (second ∷ others) is.1 in
      let (k, within, at, level) = since_at t.entries (λ n. n ≡ jump) l since in
      let (j, below, there, top) = since_at t.entries (λ n. n ≡ length t.levels) first asserting.0 in
      record {
        one = first;
        other = l;
        has_one = contains_first first (second ∷ others);
        has_other = contains_later first l (second ∷ others) has;
        differ = λ same.
            let var : (entry_at t.entries j).lit.var ≡ (entry_at t.entries k).lit.var = ap (λ (x : Lit). x.var) (there ∙ ap negation same ∙ sym at) in
            let place = ap (level_of t.entries) (distinct t trail j k below within var) in
            omega (arith, place, level, top, low);
        one_above = since_from t.entries (λ n. m < n) j first below there (omega (arith, top, low, less));
        other_above = since_from t.entries (λ n. m < n) k l within at (omega (arith, level, less));
      }

-- the jump is below the present level
pub jump_below : (t : Assigned) (lits : List Lit) (jump : ℕ) → 0 < length t.levels → IsAsserting t lits → IsJump t.entries lits jump → IsTrail t → jump < length t.levels
jump_below t [] jump some asserting is trail = absurd asserting
jump_below t (first ∷ []) jump some asserting is trail = omega (arith, some, is)
jump_below t (first ∷ second ∷ others) jump some asserting is trail =
    let (l, has, since) = any_found (IsFalseSince t.entries (λ n. n ≡ jump)) (second ∷ others) is.1 in
    let (k, within, at, level) = since_at t.entries (λ n. n ≡ jump) l since in
    let lower = All-contains (IsFalseSince t.entries (λ n. (0 < n) × (n < length t.levels))) (second ∷ others) l asserting.1 has in
    let (j, below, there, range) = since_at t.entries (λ n. (0 < n) × (n < length t.levels)) l lower in
    let same = ap (level_of t.entries) (distinct t trail k j within below (ap (λ (x : Lit). x.var) (at ∙ sym there))) in
    omega (arith, same, level, range.1)

-- a clause that is false at a closed trail is in conflict with it
pub false_conflicted : (db : List (List Lit)) (links : List (Option (Edge × Edge))) (base : List Edge) (t : Assigned) (g : Constraints) (c : ℕ) → IsRun db links base t g → IsConflict t db c
    → IsConflicted db links base t g c
false_conflicted db links base t g c run conflict = record {
  trail = run.trail;
  step = inl run.step;
  conflict = conflict;
  here = λ some. here_of_settled t run.trail (clause_at db c) some conflict.falsified (run.closed (length t.levels - 1) (omega (arith, some)) c [] conflict.held);
  closed = λ m deep two. run.closed m deep;
}

-- with the learned clause each level below the jump is closed
pub closed_with : (db : List (List Lit)) (links : List (Option (Edge × Edge))) (base : List Edge) (t : Assigned) (g : Constraints) (c jump : ℕ) (lits : List Lit) → IsConflicted db links base t g c
    → IsAsserting t lits → IsJump t.entries lits jump → jump < length t.levels → ((m : ℕ) → m < jump → HasTwoAbove t.entries m (clause_at db c))
    → (m : ℕ) → m < jump → ClosedAt t (db ++ lits ∷ []) m
closed_with db links base t g c jump lits conflicted asserting is low two m less =
    let settled : List Lit → Type 0 = λ clause. IsSettled negation (literals (up_to m t.entries)) clause in
    All-append settled db (lits ∷ []) (conflicted.closed m (omega (arith, less, low)) (two m less))
    (All-cons settled lits [] (settled_above t conflicted.trail m lits (learned_above t conflicted.trail lits jump asserting is low m less)) (All-nil settled))

use Rattle.std.proofs.Common.{◌≡◌, ◌∙◌, ℕ, ◌+◌, List, [], ◌∷◌, ◌++◌, length, Result, Ok, Err, arith}
use Rattle.std.specs.Prelude.{IfOk, OnOk}
use Rattle.neg_cycle.specs.declared.system.Edge.{Edge}
use Rattle.clause_db.specs.declared.lit.Lit.{Lit}
use Rattle.propagate.specs.Trails.{literals}
use Rattle.cdcl_core.specs.Orders.{linked}
use Rattle.cdcl_core.specs.Running.{IsConflicted, IsStuck}
use Rattle.cdcl_core.specs.Walking.{denied_in}
use Rattle.cdcl_core.proofs.CycleLines.{cycle_recorded}
use Rattle.cdcl_core.proofs.Spending.{cycle_spent}
use Rattle.cdcl_core.proofs.Refusals.{are_orders, clause_conflicted, clause_once, walk_within}
use Rattle.cdcl_core.proofs.Settlings.{all_more}
use Rattle.cdcl_core.proofs.lines.add_cycle.Goals as goal

-- what holds of the clauses with one more at the end, and of its place, holds of those that were made
at_end : {E : Type 0} (r : Result ℕ E) (old new : List (List Lit)) (lits : List Lit) (P : List (List Lit) → ℕ → Type 0) → IfOk r (λ c. c ≡ length old) → OnOk r (new ≡ old ++ lits ∷ [])
    → P (old ++ lits ∷ []) (length old) → IfOk r (λ c. P new c)
at_end (Ok c) old new lits P place clause holds = rw (clause, place) holds
at_end (Err e) old new lits P place clause holds = tt

pub steps_of-requires-clause-within : goal.steps_of-requires-clause-within
steps_of-requires-clause-within c =
    let s = c.requires.stuck in
    rw (c.cycle.ensures.cycle, c.requires.linked)
    (walk_within c.args.atoms.now c.args.derived.now.db c.args.links.now s.base (length c.args.bounds.now) c.args.trail.now c.args.graph.now s.literal s.stuck s.count)

pub steps_of-requires-clause-orders : goal.steps_of-requires-clause-orders
steps_of-requires-clause-orders c =
    rw (c.requires.linked) (are_orders c.args.atoms.now c.args.links.now (literals c.args.trail.now.entries) c.requires.links c.requires.orders)

pub denied-requires : goal.denied-requires
denied-requires c =
    let s = c.requires.stuck in
    record {
      within = rw (c.cycle-2.ensures.cycle, c.requires.linked)
          (walk_within c.args.atoms.now c.args.derived.now.db c.args.links.now s.base (length c.args.bounds.now) c.args.trail.now c.args.graph.now s.literal s.stuck s.count);
    }

pub add-requires-clause-once : goal.add-requires-clause-once
add-requires-clause-once c =
    let s = c.requires.stuck in
    let lits = rw (c.requires.linked, c.cycle-2.ensures.cycle) at c.in_ok-lits.ensures.clause in
    rw (c.deref.ensures.value, lits) (clause_once c.args.atoms.now c.args.derived.now.db c.args.links.now s.base (length c.args.bounds.now) c.args.trail.now c.args.graph.now s.literal s.stuck s.count)

pub returns-clause-conflicted : goal.returns-clause-conflicted
returns-clause-conflicted c =
    let db = c.args.derived.now.db in
    let links = c.args.links.now in
    let t = c.args.trail.now in
    let g = c.args.graph.now in
    let many = length c.args.bounds.now in
    let lits = rw (c.requires.linked, c.cycle-2.ensures.cycle) at c.in_ok-lits.ensures.clause in
    let clause = rw (c.deref.ensures.value, lits) at c.add.ensures.clause in
    at_end c.add.result db c.add.new.self.db (denied_in many (linked links (literals t.entries)) g.cycle)
    (λ d n. (base : List Edge) (l : Lit) → length base ≡ many → IsStuck db links base t g l → IsConflicted d links base t g n) c.add.ensures.place clause
    (λ base l count stuck. clause_conflicted c.args.atoms.now db links base many t g l stuck count c.requires.links c.requires.orders c.requires.vars c.graphs_are_solved.ensures.solution)

-- what follows from a fact of a success
of_one : {T E : Type 0} (A P : Type 0) (r : Result T E) → (A → P) → OnOk r A → OnOk r P
of_one A P (Ok x) then a = then a
of_one A P (Err e) then a = tt

-- what follows from three facts of a success
of_three : {T E : Type 0} (A B C P : Type 0) (r : Result T E) → (A → B → C → P) → OnOk r A → OnOk r B → OnOk r C → OnOk r P
of_three A B C P (Ok x) then a b c = then a b c
of_three A B C P (Err e) then a b c = tt

pub returns-clause-settled : goal.returns-clause-settled
returns-clause-settled c =
    let cites = c.args.derived.now.cites in
    of_one _ _ c.add.result (λ cite all. rw cite (all_more cites (length c.args.derived.now.lines) all)) c.add.ensures.cite

pub returns-clause-derives : goal.returns-clause-derives
returns-clause-derives c =
    let same = rw (c.requires.linked, c.cycle.ensures.cycle) at c.in_ok-steps.ensures.steps in
    let own = c.deref.ensures.value ∙ (rw (c.requires.linked, c.cycle-2.ensures.cycle) at c.in_ok-lits.ensures.clause) in
    of_three _ _ _ _ c.add.result (λ clause cite line log f v base l are stuck old.
    cycle_recorded log f v c.args.atoms.now c.args.derived.now.db c.args.derived.now.cites c.args.derived.now.lines c.args.bounds.now c.args.links.now base
    c.args.trail.now c.args.graph.now l c.in_ok-steps.steps
    old c.len.ensures.once c.requires.links c.requires.vars c.graphs_are_solved.ensures.solution are stuck same
    c.deref.result.now c.add.new.self.db c.add.new.self.cites c.add.new.self.lines (omega (arith, c.requires.line_room)) own clause cite line)
    c.add.ensures.clause c.add.ensures.cite c.add.ensures.line

pub returns-clause-spending : goal.returns-clause-spending
returns-clause-spending c =
    let lines = c.args.derived.now.lines in
    let cites = c.args.derived.now.cites in
    of_three _ _ _ _ c.add.result (λ clause cite line log f v rules table known old.
    cycle_spent log f v rules table known cites lines c.in_ok-steps.steps (length lines + 1) c.add.new.self.cites c.add.new.self.lines cite line old)
    c.add.ensures.clause c.add.ensures.cite c.add.ensures.line

-- The record with one more Cycle line, that of the walk which a refused edge closes, and its clause.
use Rattle.std.proofs.Common.{◌≡◌, ◌∙◌, ap, subst, ◌+◌, ◌-◌, ◌^◌, ◌<◌, Bool, List, [], ◌∷◌, ◌++◌, length, get_or, map, Option, Some, arith}
use Rattle.std.specs.Prelude.{is_some, All}
use Rattle.std.proofs.lemmas.List.{length-map}
use Rattle.std.proofs.lemmas.List.Elements.{All-append, All-cons, All-filter, All-map, All-nil}
use Rattle.mt_model.specs.declared.bound.Bound.{Bound}
use Rattle.mt_model.specs.declared.step.Step.{Step}
use Rattle.mt_model.specs.Form.{Form}
use Rattle.mt_model.specs.Log.{Logged}
use Rattle.mt_model.specs.Walks.{Conflict}
use Rattle.neg_cycle.specs.declared.system.Edge.{Edge}
use Rattle.neg_cycle.specs.Systems.{IsEdge, IsNegativeCycle, VisitsOnce}
use Rattle.neg_cycle.proofs.LawLemmas.{excludes_cycles}
use Rattle.difference_graph.specs.Graphs.{Constraints, IsSolved}
use Rattle.skew_bounds.specs.Edges.{AreEdges}
use Rattle.skew_bounds.proofs.Settled.{places-of-cycle, count-edges}
use Rattle.clause_db.specs.declared.lit.Lit.{Lit}
use Rattle.propagate.specs.declared.entry.Entry.{Entry}
use Rattle.propagate.specs.Links.{edges_at, edges_of}
use Rattle.propagate.specs.Trails.{Assigned, literals}
use Rattle.axiom_rules.specs.declared.literal.Atom.{Atom}
use Rattle.axiom_rules.specs.Atoms.{AreOnce}
use Rattle.axiom_rules.specs.Parts.{each_once}
use Rattle.proof_log.specs.declared.line.Hint.{Hint}
use Rattle.proof_log.specs.declared.line.Hint.TheVariants as hint
use Rattle.proof_log.specs.declared.line.Line.{Line}
use Rattle.proof_log.specs.declared.line.Line.TheVariants as line
use Rattle.proof_log.specs.Derivations.{clause_of_line}
use Rattle.proof_log.specs.Spelled.{IsSpelledCycle}
use Rattle.cdcl_core.specs.Orders.{AreLinks, linked}
use Rattle.cdcl_core.specs.Recording.{IsRecord, read_clause}
use Rattle.cdcl_core.specs.Running.{IsStuck}
use Rattle.cdcl_core.specs.Walking.{denied_in, step_in}
use Rattle.cdcl_core.proofs.Counts.{few_steps}
use Rattle.cdcl_core.proofs.Cycles.{walk_conflict}
use Rattle.cdcl_core.proofs.Denied.{walk_denied}
use Rattle.cdcl_core.proofs.Learning.{atoms_apart}
use Rattle.cdcl_core.proofs.Records.{record_more}
use Rattle.cdcl_core.proofs.Refusals.{clause_once, walk_within}
use Rattle.cdcl_core.proofs.Spelling.{steps_spelled}
use Rattle.cdcl_core.proofs.Stuck.{denied_all, last_denied, once_whole, whole_edges}

module _ (log : Logged) (f : Form) (v : Bool) (atoms : List Atom) (db : List (List Lit)) (cites : List Hint) (lines : List Line) (bounds : List Bound) (links : List (Option (Edge × Edge)))
    (base : List Edge) (t : Assigned) (g : Constraints) (l : Lit) (steps : List Step) (old : IsRecord log f v atoms db cites lines) (once : AreOnce atoms) (links_are : AreLinks atoms links)
    (vars : t.vars ≡ length atoms) (solved : IsSolved g) (are : AreEdges log bounds base) (stuck : IsStuck db links base t g l) where
  abbrev lits : List Lit
  lits = literals t.entries

  abbrev orders : List Lit
  orders = linked links lits

  abbrev edges : List Edge
  edges = base ++ edges_of links lits

  abbrev clause : List Lit
  clause = denied_in (length bounds) orders g.cycle

  abbrev IsLow : Lit → Type 0
  IsLow m = m.var < length atoms

  orders_low : All IsLow orders
  orders_low = All-filter (λ (m : Lit). is_some (edges_at links m.var)) IsLow lits (All-map IsLow (λ (e : Entry). e.lit) t.entries (λ k d below. rw vars at (stuck.trail.below k d below)))

  same_edges : g.edges ++ stuck.refused.edge ∷ [] ≡ edges
  same_edges = whole_edges db links base t g l stuck

  cycle : IsNegativeCycle edges g.cycle
  cycle = subst (λ (es : List Edge). IsNegativeCycle es g.cycle) same_edges stuck.refused.cycle

  visits : VisitsOnce edges g.cycle
  visits = subst (λ (es : List Edge). VisitsOnce es g.cycle) same_edges stuck.refused.once

  within : All (λ p. p < length edges) g.cycle
  within = places-of-cycle edges g.cycle cycle.closed

  count : length base ≡ length bounds
  count = count-edges log bounds base are

  refused_edge : IsEdge g.nodes stuck.refused.edge
  refused_edge = rw stuck.refused.of_literal at (stuck.step.step.linked.edges l)

  each_edge : All (IsEdge g.nodes) edges
  each_edge = subst (All (IsEdge g.nodes)) same_edges
      (All-append (IsEdge g.nodes) g.edges (stuck.refused.edge ∷ []) solved.system.each (All-cons (IsEdge g.nodes) stuck.refused.edge [] refused_edge (All-nil (IsEdge g.nodes))))

  clause_low : All IsLow clause
  clause_low = denied_all (length bounds) orders IsLow g.cycle (λ k d below past.
      let here = walk_within atoms db links base (length bounds) t g l stuck count k d below in
      orders_low (get_or g.cycle k d - length bounds) _ (omega (arith, here, past)))

  clause_some : 0 < length clause
  clause_some =
      let has = last_denied db links base t g l stuck excludes_cycles solved in
      let some : 0 < length (denied_in (length base) orders g.cycle) = omega (arith, has.1) in
      rw count at some

  module _ (same : map (step_in bounds atoms orders) g.cycle ≡ map Some steps) where
    conflict : Conflict log steps
    conflict = walk_conflict log bounds base atoms links lits are links_are old.of_log.orders orders_low g.cycle steps cycle same

    cycle_spelled : IsSpelledCycle steps
    cycle_spelled = record {
      count =
          let few = few_steps g.nodes edges g.cycle each_edge within visits in
          let most = solved.system.few_nodes in
          let sizes = ap length same in
          let places = length-map g.cycle (step_in bounds atoms orders) in
          let own = length-map steps Some in
          omega (arith, few, most, sizes, places, own);
      each = steps_spelled log old.of_log.valid steps conflict.edges conflict.found;
    }

    clause_is : clause_of_line (line.Cycle steps) ≡ read_clause atoms clause
    clause_is =
        let denied_is = walk_denied log bounds base atoms links lits are old.of_log.orders orders_low g.cycle steps within same in
        ap each_once denied_is ∙ once_whole (read_clause atoms clause) (atoms_apart atoms clause once clause_low (clause_once atoms db links base (length bounds) t g l stuck count))

    pub record_cycle : length lines + 1 < 2 ^ 32 → IsRecord log f v atoms (db ++ clause ∷ []) (cites ++ hint.Line (length lines + 1) ∷ []) (lines ++ line.Cycle steps ∷ [])
    record_cycle few = record_more log f v atoms db cites lines (line.Cycle steps) clause old cycle_spelled conflict clause_is clause_some few

    -- the same of lists that are equal to these
    pub cycle_recorded : (own : List Lit) (db_after : List (List Lit)) (cites_after : List Hint) (lines_after : List Line) → length lines + 1 < 2 ^ 32 → own ≡ clause
        → db_after ≡ db ++ own ∷ [] → cites_after ≡ cites ++ hint.Line (length lines + 1) ∷ [] → lines_after ≡ lines ++ line.Cycle steps ∷ [] → IsRecord log f v atoms db_after cites_after lines_after
    cycle_recorded own db_after cites_after lines_after few own_is db_is cites_is lines_is = rw (db_is, cites_is, lines_is, own_is) (record_cycle few)

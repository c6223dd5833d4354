-- What the calls ask for that take in what was learnt, and where the search is after them.
use Rattle.std.proofs.Common.{◌≡◌, refl, subst, ap, ℕ, ◌-◌, ◌<◌, ◌∷◌, [], length, take, map, arith}
use Rattle.std.specs.Prelude.{All}
use Rattle.std.proofs.lemmas.List.{length-map, length_push}
use Rattle.clause_db.specs.declared.lit.Lit.{Lit}
use Rattle.propagate.specs.Trails.{Assigned, literals, up_to}
use Rattle.cdcl_core.specs.Orders.{linked, read_lit}
use Rattle.cdcl_core.specs.Recording.{cite_at, read_clause}
use Rattle.cdcl_core.specs.Running.{IsRun}
use Rattle.cdcl_core.proofs.Conflicts.{jump_below}
use Rattle.cdcl_core.proofs.FreshLearned.{spending_learned}
use Rattle.cdcl_core.proofs.Learned.{asserting_some, back_run, marks_held}
use Rattle.cdcl_core.proofs.LinkedUpTo.{held_count, linked_cut, up_to_front}
use Rattle.cdcl_core.proofs.Learning.{one_lesson, record_learned}
use Rattle.cdcl_core.proofs.Progress.{cites_count, clause_room, conflict_reasons, edges_count, few_atoms, learned, line_room, trail_vars}
use Rattle.cdcl_core.proofs.Settlings.{all_more}
use Rattle.cdcl_core.proofs.state.SearchState.take.Goals as goal

pub add_learned-requires : goal.add_learned-requires
add_learned-requires c =
    let s = c.args.self.now in
    let w = c.requires.conflicted in
    let own = w.midway.search_for in
    let vars = trail_vars w.problem s own in
    record {
      lits = rw (← vars) c.requires.variables;
      refs = rw (cites_count w.problem s own) c.requires.refute.held;
      once = c.requires.once;
      clause_room = clause_room w.problem s own w.conflicts 1 w.midway.known w.few (omega arith) w.midway.spent;
      line_room = line_room w.problem s own w.conflicts 1 w.midway.known w.few (omega arith) w.midway.spent;
    }

pub back_to-requires : goal.back_to-requires
back_to-requires c =
    let s = c.args.self.now in
    let w = c.requires.conflicted in
    let conflicted = w.midway.conflicted in
    let less = jump_below s.trail c.args.learned.lits c.args.learned.jump c.requires.level c.requires.asserting c.requires.jump conflicted.trail in
    record { level = omega (arith, less, c.level_after.ensures); marks = marks_held s.derived.db s.trail s.graph c.args.conflict s.theory.links w.problem.edges conflicted }

pub returns : goal.returns
returns c = record {
  theory = refl;
  learnt = λ p n mid.
      let s = c.args.self.now in
      let own = mid.search_for in
      let vars = trail_vars p s own in
      let atoms = s.theory.atoms in
      let lits = c.args.learned.lits in
      let refs = c.args.learned.hints in
      let line = c.in_ok-add_learned.ensures.line.0 in
      let line_is = c.in_ok-add_learned.ensures.line.1 in
      let line_added = c.in_ok-add_learned.ensures.line.2 in
      let reasons = conflict_reasons s.derived.db s.theory.links p.edges s.trail s.graph c.args.conflict mid.conflicted in
      let low = subst (λ m. All (All (λ (l : Lit). l.var < m)) s.derived.db) vars reasons.variables in
      let some : 0 < length lits = asserting_some s.derived.db s.trail s.graph c.args.conflict lits c.requires.asserting in
      let w = c.requires.conflicted in
      let room = line_room w.problem s w.midway.search_for w.conflicts 1 w.midway.known w.few (omega arith) w.midway.spent in
      let run : IsRun c.add_learned.new.derived.db s.theory.links p.edges c.back_to.new.self c.back_to.new.graph =
      rw c.in_ok-add_learned.ensures.clause
      (back_run s.derived.db s.trail s.graph c.args.conflict c.args.learned.lits c.args.learned.jump c.level_after.result c.back_to.new.self
      c.back_to.new.graph c.requires.level c.level_after.ensures
      c.requires.asserting c.requires.jump c.requires.variables c.requires.two_above c.trails_are_in_order.ensures.trail
      c.back_to.ensures.in_step c.back_to.ensures.after_refusal c.back_to.ensures.closed s.theory.links p.edges mid.conflicted) in
      let entries : c.back_to.new.self.entries ≡ up_to c.level_after.result s.trail.entries = ap (λ (x : Assigned). x.entries) c.back_to.ensures.trail in
      let front : c.back_to.new.self.entries ≡ take (length c.back_to.new.self.entries) s.trail.entries = rw entries (up_to_front s.trail c.level_after.result mid.conflicted.trail) in
      let behind : ℕ = length c.back_to.new.graph.edges - c.len-2.result in
      let held : behind ≡ length (linked s.theory.links (literals c.back_to.new.self.entries)) =
      held_count s.theory.links p.edges c.back_to.new.graph.edges (literals c.back_to.new.self.entries) behind
      (length s.theory.bounds) run.step.edges (edges_count p s own) (rw c.len-2.ensures.count refl) in
      let are = linked_cut s.theory.links s.trail.entries s.linked own.linked c.back_to.new.self.entries behind c.go_back.new.self front held
      c.go_back.ensures.shorter c.go_back.ensures.same in
      learned p s n c.args.conflict c.back_to.new.self c.back_to.new.graph c.go_back.new.self c.add_learned.new.derived c.cut.new.self mid
      (ap (λ (x : Assigned). x.vars) c.back_to.ensures.trail) c.back_to.ensures.limits are run
      (lits ∷ [], c.in_ok-add_learned.ensures.clause)
      (rw c.in_ok-add_learned.ensures.clause (length_push s.derived.db lits))
      (rw line_added (length_push s.derived.lines line))
      (rw line_added
      (one_lesson s.derived.lines (read_clause atoms lits) (map (cite_at s.derived.cites) refs) line line_is
      (omega (arith, some, length-map lits (read_lit atoms)))))
      (λ all. rw c.in_ok-add_learned.ensures.cite (all_more s.derived.cites (length s.derived.lines) all))
      (λ log f v old. rw (c.in_ok-add_learned.ensures.clause, c.in_ok-add_learned.ensures.cite, line_added)
      (record_learned log f v atoms s.derived.db s.derived.cites s.derived.lines old c.len.ensures.once (few_atoms p s own) low lits refs line
      (rw (← vars) c.requires.variables)
      c.requires.once some c.requires.refute c.requires.settled line_is
      (omega (arith, room))))
      (λ log f v rules known quiet record_ old. rw (c.in_ok-add_learned.ensures.clause, c.in_ok-add_learned.ensures.cite, line_added)
      (spending_learned log f v rules atoms known s.derived.db s.derived.cites s.derived.lines s.trail old record_ quiet mid.conflicted.trail c.requires.level
      c.len.ensures.once low lits refs line
      (rw (← vars) c.requires.variables) c.requires.below
      c.requires.used c.requires.settled line_is));
}

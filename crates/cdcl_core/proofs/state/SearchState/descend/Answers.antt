-- What the calls of a descent ask for, and where it ends.
use Rattle.std.proofs.Common.{◌∙◌, ap, refl, subst, sym, ℕ, ◌<◌, ◌≤◌, length, All, arith}
use Rattle.propagate.specs.Trails.{Assigned, IsTrail, IsUnassigned, decided}
use Rattle.propagate.specs.Reach.{IsLast}
use Rattle.propagate.proofs.TrailLemmas.{trail_decided}
use Rattle.mtl_encode.specs.declared.problem.Problem.{Problem}
use Rattle.cdcl_core.specs.Orders.{IsOrderAmong}
use Rattle.cdcl_core.specs.Searching.{IsSearch}
use Rattle.cdcl_core.proofs.Descents.{decided_fewer, last_decided, running_next, running_room}
use Rattle.cdcl_core.proofs.LinkedUpTo.{decided_kept, decided_longer}
use Rattle.cdcl_core.proofs.Progress.{moved, search_decided, search_false, search_grown, search_refused, search_running}
use Rattle.cdcl_core.proofs.Scanned.{decided_free, decided_taken, grown_free}
use Rattle.cdcl_core.proofs.state.SearchState.descend.Goals as goal

pub decisions-init : goal.decisions-init
decisions-init c = record { under_way = c.requires.under_way; theory = refl; before = λ w low free. absurd (omega (arith, low)); search = λ p n search. search }

pub propagate-requires : goal.propagate-requires
propagate-requires c =
    let s = c.decisions.self in
    let w = c.decisions.invariant.under_way in
    let running = search_running w.problem s w.conflicts w.search in
    let run = w.search.run in
    record {
      reasons = run.step.reasons;
      watched = run.step.watched;
      closed = run.closed;
      linked = run.step.linked;
      room = running_room (length s.theory.atoms) s.derived.db s.theory.links s.trail s.graph running;
    }

pub returns-in-ClauseConflict : goal.returns-in-ClauseConflict
returns-in-ClauseConflict c = record {
  theory = c.decisions.invariant.theory;
  descended = λ p n old.
      let s = c.decisions.self in
      let in_step = rw c.in-ClauseConflict.is at c.in_ok-reached.ensures.in_step in
      let conflict = rw c.in-ClauseConflict.is at c.in_ok-reached.ensures.clause_conflict in
      search_false p s n
      (c.decisions.invariant.search p n old) c.propagate.new.self c.propagate.new.graph s.strategy c.propagate.ensures.grown.vars
      c.propagate.ensures.edges.limits c.propagate.ensures.grown.kept c.propagate.ensures.grown.longer c.in-ClauseConflict.clause
      c.trails_are_in_order.ensures.trail c.propagate.ensures.closed in_step conflict;
}

pub returns-in-TheoryConflict : goal.returns-in-TheoryConflict
returns-in-TheoryConflict c = record {
  theory = c.decisions.invariant.theory;
  descended = λ p n old.
      let s = c.decisions.self in
      let theory = rw c.in-TheoryConflict.is at c.in_ok-reached.ensures.theory_conflict in
      let lacks = rw c.in-TheoryConflict.is at c.in_ok-reached.ensures.lacks_last in
      search_refused p s n
      (c.decisions.invariant.search p n old) c.propagate.new.self c.propagate.new.graph s.strategy c.propagate.ensures.grown.vars
      c.propagate.ensures.edges.limits c.propagate.ensures.grown.kept c.propagate.ensures.grown.longer c.in-TheoryConflict.lit
      c.trails_are_in_order.ensures.trail c.propagate.ensures.closed theory.0 theory.1 lacks;
}

pub next-requires : goal.next-requires
next-requires c =
    let s = c.decisions.self in
    let w = c.decisions.invariant.under_way in
    let in_step = rw c.in-Quiet.is at c.in_ok-reached.ensures.in_step in
    let quiet =
    search_grown w.problem s w.conflicts w.search c.propagate.new.self c.propagate.new.graph s.strategy c.propagate.ensures.grown.vars
    c.propagate.ensures.edges.limits c.propagate.ensures.grown.kept c.propagate.ensures.grown.longer c.trails_are_in_order.ensures.trail
    c.propagate.ensures.closed in_step in
    let running = search_running w.problem (moved s c.propagate.new.self c.propagate.new.graph s.strategy) w.conflicts quiet in
    record {
      running = rw c.len-vars.ensures.atoms running;
      orders = subst (λ (nodes : ℕ). All (IsOrderAmong nodes) s.theory.atoms)
          (w.search.search_for.theory_of.nodes ∙ sym w.search.search_for.nodes ∙ sym c.propagate.ensures.edges.limits.nodes) w.search.search_for.theory_of.within;
      all_links = w.search.search_for.theory_of.all_links;
      count = sym c.len-vars.ensures.atoms;
      settled = rw c.in-Quiet.is at c.in_ok-reached.ensures.quiet;
      before = λ v low free. c.decisions.invariant.before v low (grown_free s.trail c.propagate.new.self c.propagate.ensures.grown v free);
    }

pub returns-in-Done : goal.returns-in-Done
returns-in-Done c = record {
  theory = c.decisions.invariant.theory;
  descended = λ p n old.
      let s = c.decisions.self in
      let search = c.decisions.invariant.search p n old in
      let in_step = rw c.in-Quiet.is at c.in_ok-reached.ensures.in_step in (
        search_grown p s n search c.propagate.new.self c.propagate.new.graph c.next.new.strategy c.propagate.ensures.grown.vars c.propagate.ensures.edges.limits
            c.propagate.ensures.grown.kept c.propagate.ensures.grown.longer c.trails_are_in_order.ensures.trail c.propagate.ensures.closed in_step,
        rw search.search_for.theory_of.atoms at (rw c.in-Done.is at c.in_ok-values.ensures.done),
      );
}

pub returns-in-Lost : goal.returns-in-Lost
returns-in-Lost c = record { theory = c.decisions.invariant.theory; descended = λ p n old. rw c.in-Lost.is at c.in_ok-values.ensures.lost }

pub decide-requires-clause-room : goal.decide-requires-clause-room
decide-requires-clause-room c =
    let s = c.decisions.self in
    let w = c.decisions.invariant.under_way in
    let next = rw c.in-Decide.is at c.in_ok-values.ensures.decides in
    let in_step = rw c.in-Quiet.is at c.in_ok-reached.ensures.in_step in
    let quiet =
    search_grown w.problem s w.conflicts w.search c.propagate.new.self c.propagate.new.graph s.strategy c.propagate.ensures.grown.vars
    c.propagate.ensures.edges.limits c.propagate.ensures.grown.kept c.propagate.ensures.grown.longer c.trails_are_in_order.ensures.trail
    c.propagate.ensures.closed in_step in
    let running = search_running w.problem (moved s c.propagate.new.self c.propagate.new.graph s.strategy) w.conflicts quiet in
    running_next (length s.theory.atoms) s.derived.db s.theory.links c.propagate.new.self c.propagate.new.graph running c.in-Decide.lit.var (rw c.len-vars.ensures.atoms at next.within) next.unassigned

pub decisions-smaller : goal.decisions-smaller
decisions-smaller c =
    let s = c.decisions.self in
    let w = c.decisions.invariant.under_way in
    let next = rw c.in-Decide.is at c.in_ok-values.ensures.decides in
    let u = c.propagate.new.self in
    let grown = c.propagate.ensures.grown in
    let running = search_running w.problem s w.conflicts w.search in
    let same = grown.vars ∙ running.vars in
    let low : c.in-Decide.lit.var < u.vars = let within = next.within in omega (arith, within, same, c.len-vars.ensures.atoms) in
    let fewer = decided_fewer u c.in-Decide.lit (length c.propagate.new.graph.edges) c.trails_are_in_order.ensures.trail low next.unassigned in
    let vars = ap (λ (x : Assigned). x.vars) c.decide.ensures.trail in
    let entries = ap (λ (x : Assigned). length x.entries) c.decide.ensures.trail in
    omega (arith, fewer.0, fewer.1, vars, entries, grown.vars, grown.longer)

pub decisions-preserved : goal.decisions-preserved
decisions-preserved c =
    let s = c.decisions.self in
    let w = c.decisions.invariant.under_way in
    let next = rw c.in-Decide.is at c.in_ok-values.ensures.decides in
    let u = c.propagate.new.self in
    let h = c.propagate.new.graph in
    let y = c.next.new.strategy in
    let lit = c.in-Decide.lit in
    let mark = length h.edges in
    let running = search_running w.problem s w.conflicts w.search in
    let same = c.propagate.ensures.grown.vars ∙ running.vars in
    let low : lit.var < u.vars = let within = next.within in omega (arith, within, same, c.len-vars.ensures.atoms) in
    let trail : IsTrail c.decide.new.self = rw c.decide.ensures.trail (trail_decided u lit mark c.trails_are_in_order.ensures.trail low next.unassigned) in
    let in_step = rw c.in-Quiet.is at c.in_ok-reached.ensures.in_step in
    let closed_at = rw c.in-Quiet.is at c.in_ok-reached.ensures.closed_at in
    let longer : length u.entries ≤ length c.decide.new.self.entries = rw c.decide.ensures.trail (decided_longer u lit mark) in
    let keeps = λ (p : Problem) (n : ℕ) (search : IsSearch p s n).
    search_decided p (moved s u h y) n
    (search_grown p s n search u h y c.propagate.ensures.grown.vars c.propagate.ensures.edges.limits c.propagate.ensures.grown.kept
    c.propagate.ensures.grown.longer c.trails_are_in_order.ensures.trail c.propagate.ensures.closed in_step)
    c.decide.new.self c.decide.new.graph y
    (ap (λ (x : Assigned). x.vars) c.decide.ensures.trail) c.decide.ensures.limits
    (rw c.decide.ensures.trail (decided_kept u lit mark)) longer trail c.decide.ensures.closed closed_at c.in-Kept.ensures.in_step in
    record {
      theory = c.decisions.invariant.theory;
      under_way = record { problem = w.problem; conflicts = w.conflicts; few = w.few; search = keeps w.problem w.conflicts w.search };
      before = λ v less free.
          let rest = rw c.decide.ensures.trail at free in
          let is = next.before v less (decided_free u lit mark v rest) in
          decided_taken u lit mark (subst (λ (x : ℕ). IsUnassigned (decided u lit mark).entries x) is rest);
      search = λ p n old. keeps p n (c.decisions.invariant.search p n old);
    }

pub returns-in-Cycle : goal.returns-in-Cycle
returns-in-Cycle c = record {
  theory = c.decisions.invariant.theory;
  descended = λ p n old.
      let s = c.decisions.self in
      let next = rw c.in-Decide.is at c.in_ok-values.ensures.decides in
      let u = c.propagate.new.self in
      let h = c.propagate.new.graph in
      let y = c.next.new.strategy in
      let lit = c.in-Decide.lit in
      let mark = length h.edges in
      let search = c.decisions.invariant.search p n old in
      let running = search_running p s n search in
      let same = c.propagate.ensures.grown.vars ∙ running.vars in
      let low : lit.var < u.vars = let within = next.within in omega (arith, within, same, c.len-vars.ensures.atoms) in
      let trail : IsTrail c.decide.new.self = rw c.decide.ensures.trail (trail_decided u lit mark c.trails_are_in_order.ensures.trail low next.unassigned) in
      let last : IsLast c.decide.new.self lit = rw c.decide.ensures.trail (last_decided u lit mark) in
      let in_step = rw c.in-Quiet.is at c.in_ok-reached.ensures.in_step in
      let closed_at = rw c.in-Quiet.is at c.in_ok-reached.ensures.closed_at in
      let longer : length u.entries ≤ length c.decide.new.self.entries = rw c.decide.ensures.trail (decided_longer u lit mark) in
      let quiet =
      search_grown p s n search u h y c.propagate.ensures.grown.vars c.propagate.ensures.edges.limits c.propagate.ensures.grown.kept
      c.propagate.ensures.grown.longer c.trails_are_in_order.ensures.trail c.propagate.ensures.closed in_step in
      search_refused p (moved s u h y) n quiet c.decide.new.self c.decide.new.graph y
      (ap (λ (x : Assigned). x.vars) c.decide.ensures.trail) c.decide.ensures.limits (rw c.decide.ensures.trail (decided_kept u lit mark)) longer lit trail
      (λ closed. c.decide.ensures.closed s.derived.db closed closed_at) last c.in-Cycle.ensures.refused (λ b step. c.in-Cycle.ensures.lacks_last s.derived.db b step);
}

use Rattle.std.proofs.lemmas.Result.{err_from_is_err_and}
use Rattle.std.proofs.Common.{◌∙◌, ap, sym, refl, rules, ◌+◌}
use Rattle.clause_db.specs.Literals.{negation}
use Rattle.propagate.specs.Trails.{entry_at}
use Rattle.propagate.specs.Visits.{IsNextFalse}
use Rattle.propagate.proofs.PlaceLemmas.{undone}
use Rattle.propagate.proofs.ReachLemmas.{progress_more, progress_none, stop_more}
use Rattle.propagate.proofs.VisitLemmas.{next_grown}
use Rattle.propagate.proofs.MoveLemmas.{left_first, left_visited, progress_next}
use Rattle.propagate.proofs.trail.Trail.visit_watchers.Goals as goal

pub watchers-init : goal.watchers-init
watchers-init c =
    let t = c.args.self.now in
    let work = c.requires.work in
    let same = c.negated-lit.ensures.other ∙ ap negation c.lit.ensures.literal ∙ ap (λ k. negation (entry_at t.entries k).lit) c.head.ensures.head in
    let next : IsNextFalse t c.negated-lit.result = record { more = c.requires.more; is = sym (undone (entry_at t.entries t.propagated).lit) ∙ ap negation (sym same) } in
    record {
      progress = progress_none t c.args.clauses.now c.args.graph.now work;
      propagated = refl;
      next = next;
      left = left_first t c.args.clauses.now.db.now c.negated-lit.result work.trail work.watched next;
    }

pub returns-in_err-visit-clause-reached : goal.returns-in_err-visit-clause-reached
returns-in_err-visit-clause-reached c =
    let p = err_from_is_err_and c.from_residual.result c.from_residual.ensures.1 in
    rw (p.1, p.2) (stop_more c.args.clauses.now c.args.self.now c.watchers.self c.visit.new.self c.args.graph.now
    c.watchers.graph c.visit.new.graph c.watchers.invariant.progress c.in_err-visit.field-0.0 c.in_err-visit.ensures.reached)

pub watchers-preserved-in-Stayed : goal.watchers-preserved-in-Stayed
watchers-preserved-in-Stayed c =
    let t = c.watchers.self in
    let s = c.visit.new.self in
    let f = c.negated-lit.result in
    let inv = c.watchers.invariant in
    let visited = rw c.in-Stayed.is at c.in_ok-visit.ensures.visited in
    let progress = c.in_ok-visit.ensures.reached in
    record {
      progress = progress_more c.args.clauses.now c.args.self.now t s c.args.graph.now c.watchers.graph c.visit.new.graph inv.progress progress;
      propagated = visited.propagated ∙ inv.propagated;
      next = next_grown t s f progress.grown visited.propagated inv.next;
      left = left_visited t s f c.in-Some.clause c.watchers.place (c.watchers.place + 1) inv.next progress.grown visited inv.left;
    }

pub watchers-preserved : goal.watchers-preserved
watchers-preserved c =
    let t = c.watchers.self in
    let s = c.visit.new.self in
    let f = c.negated-lit.result in
    let inv = c.watchers.invariant in
    let visited = rw c.in-Moved.is at c.in_ok-visit.ensures.visited in
    let progress = c.in_ok-visit.ensures.reached in
    record {
      progress = progress_more c.args.clauses.now c.args.self.now t s c.args.graph.now c.watchers.graph c.visit.new.graph inv.progress progress;
      propagated = visited.propagated ∙ inv.propagated;
      next = next_grown t s f progress.grown visited.propagated inv.next;
      left = left_visited t s f c.in-Some.clause c.watchers.place c.watchers.place inv.next progress.grown visited inv.left;
    }

pub returns-clause-reached : goal.returns-clause-reached
returns-clause-reached c =
    progress_next c.args.clauses.now c.args.self.now c.watchers.self c.advance.new.self c.args.graph.now c.watchers.graph
    c.negated-lit.result c.watchers.place c.watchers.invariant.progress c.watchers.invariant.left
    (c.in_default.ensures.none (search rules)) c.advance.ensures.trail c.advance.ensures.after

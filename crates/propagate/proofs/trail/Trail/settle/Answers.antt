use Rattle.std.proofs.lemmas.Result.{err_from_is_err_and}
use Rattle.std.proofs.Common.{arith}
use Rattle.propagate.proofs.TrailLemmas.{few_literals}
use Rattle.propagate.proofs.ReachLemmas.{progress_more, stop_more}
use Rattle.propagate.proofs.VisitLemmas.{all_settled, all_watched, short_grown}
use Rattle.propagate.proofs.trail.Trail.settle.Goals as goal

pub returns-in_err-satisfy_short-clause-reached : goal.returns-in_err-satisfy_short-clause-reached
returns-in_err-satisfy_short-clause-reached c =
    let p = err_from_is_err_and c.from_residual-in_err-satisfy_short.result c.from_residual-in_err-satisfy_short.ensures.1 in
    rw (p.1, p.2) (stop_more c.args.clauses.now c.args.self.now c.attach_new.new.self c.satisfy_short.new.self c.args.graph.now
    c.attach_new.new.graph c.satisfy_short.new.graph c.in_ok-attach_new.ensures.reached c.in_err-satisfy_short.field-0.0
    c.in_err-satisfy_short.ensures.reached)

pub literals-init : goal.literals-init
literals-init c =
    let attached = c.in_ok-attach_new.ensures.all in
    let satisfied = c.in_ok-satisfy_short.ensures.reached in
    let more = satisfied.known in
    record {
      progress =
          progress_more c.args.clauses.now c.args.self.now c.attach_new.new.self c.satisfy_short.new.self c.args.graph.now
          c.attach_new.new.graph c.satisfy_short.new.graph c.in_ok-attach_new.ensures.reached satisfied;
      known = omega (arith, attached, more);
      short = c.in_ok-satisfy_short.ensures.short;
    }

pub returns-in_err-visit_watchers-clause-reached : goal.returns-in_err-visit_watchers-clause-reached
returns-in_err-visit_watchers-clause-reached c =
    let p = err_from_is_err_and c.from_residual-in_err-visit_watchers.result c.from_residual-in_err-visit_watchers.ensures.1 in
    rw (p.1, p.2) (stop_more c.args.clauses.now c.args.self.now c.literals.self c.visit_watchers.new.self c.args.graph.now
    c.literals.graph c.visit_watchers.new.graph c.literals.invariant.progress c.in_err-visit_watchers.field-0.0
    c.in_err-visit_watchers.ensures.reached)

pub literals-smaller : goal.literals-smaller
literals-smaller c =
    let progress = c.in_ok-visit_watchers.ensures.reached in
    let next = c.in_ok-visit_watchers.ensures.next in
    let vars = progress.grown.vars in
    let most = progress.work.trail.propagated in
    let few = few_literals c.visit_watchers.new.self progress.work.trail in
    omega (arith, next, vars, most, few)

pub literals-preserved : goal.literals-preserved
literals-preserved c =
    let progress = c.in_ok-visit_watchers.ensures.reached in
    let more = progress.known in
    let known = c.literals.invariant.known in
    record {
      progress =
          progress_more c.args.clauses.now c.args.self.now c.literals.self c.visit_watchers.new.self c.args.graph.now
          c.literals.graph c.visit_watchers.new.graph c.literals.invariant.progress progress;
      known = omega (arith, more, known);
      short = short_grown c.literals.self c.visit_watchers.new.self c.args.clauses.now.db.now progress.grown c.literals.invariant.short;
    }

pub returns-clause-settled : goal.returns-clause-settled
returns-clause-settled c =
    let work = c.literals.invariant.progress.work in
    let most = work.trail.propagated in
    all_settled c.literals.self c.args.clauses.now.db.now work.watched (omega (arith, most, c.literals-test.false, c.head.ensures.head, c.len.ensures.count)) c.literals.invariant.known c.literals.invariant.short

pub returns-clause-every : goal.returns-clause-every
returns-clause-every c = all_watched c.literals.self c.args.clauses.now.db.now c.literals.invariant.progress.work.watched c.literals.invariant.known

use Rattle.std.proofs.lemmas.Result.{err_from_is_err_and}
use Rattle.std.proofs.Common.{arith}
use Rattle.propagate.proofs.ReachLemmas.{progress_more, stop_more}
use Rattle.propagate.proofs.trail.Trail.attach_new.Goals as goal

pub returns-in_err-attach_next-clause-reached : goal.returns-in_err-attach_next-clause-reached
returns-in_err-attach_next-clause-reached c =
    let p = err_from_is_err_and c.from_residual.result c.from_residual.ensures.1 in
    rw (p.1, p.2) (stop_more c.args.clauses.now c.args.self.now c.loop-c.self c.attach_next.new.self c.args.graph.now
    c.loop-c.graph c.attach_next.new.graph c.loop-c.invariant.progress c.in_err-attach_next.field-0.0
    c.in_err-attach_next.ensures.reached)

pub loop-c-preserved : goal.loop-c-preserved
loop-c-preserved c =
    let one = c.in_ok-attach_next.ensures.one in
    record {
      progress =
          progress_more c.args.clauses.now c.args.self.now c.loop-c.self c.attach_next.new.self c.args.graph.now c.loop-c.graph
          c.attach_next.new.graph c.loop-c.invariant.progress c.in_ok-attach_next.ensures.reached;
      known = omega (arith, one, c.new.ensures.place);
    }

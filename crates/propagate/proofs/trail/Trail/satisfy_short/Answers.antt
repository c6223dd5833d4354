use Rattle.std.proofs.lemmas.Result.{err_from_is_err_and}
use Rattle.std.proofs.Common.{◌≡◌, ap, refl, arith, length}
use Rattle.propagate.proofs.UnwatchedLemmas.{unwatched_below}
use Rattle.propagate.proofs.ReachLemmas.{progress_more, stop_more}
use Rattle.propagate.proofs.VisitLemmas.{all_short_satisfied, progress_satisfied, short_satisfied}
use Rattle.propagate.proofs.trail.Trail.satisfy_short.Goals as goal

pub returns-then-level-gt0-clause-short : goal.returns-then-level-gt0-clause-short
returns-then-level-gt0-clause-short c = short_satisfied c.args.self.now c.args.clauses.now.db.now c.requires.work.trail c.requires.work.closed (omega (arith, c.if-level-gt0.true, c.level.ensures.level))

pub satisfy_if_short-requires-clause-held : goal.satisfy_if_short-requires-clause-held
satisfy_if_short-requires-clause-held c =
    let at = c.in-Some.ensures.some in
    let below = unwatched_below c.short.self.watching.watches c.short.self.watching.satisfied at.within in
    let known = c.short.invariant.work.watched.known in
    omega (arith, below, at.is, known)

pub short-preserved : goal.short-preserved
short-preserved c =
    let t = c.short.self in
    let s = c.satisfy_if_short.new.self in
    let unmoved = c.satisfy_if_short.ensures.unmoved.watching in
    let progress =
    progress_more c.args.clauses.now c.args.self.now t s c.args.graph.now c.short.graph c.satisfy_if_short.new.graph
    c.short.invariant c.in_ok-satisfy_if_short.ensures.reached in
    let lowest : length s.levels ≡ 0 = omega (arith, ap length progress.grown.levels, c.if-level-gt0.false, c.level.ensures.level) in
    let found = c.in-Some.ensures.some in
    progress_satisfied c.args.clauses.now c.args.self.now s c.count_satisfied.new.self c.args.graph.now
    c.satisfy_if_short.new.graph c.in-Some.clause progress lowest (rw unmoved found.within) (rw unmoved found.is)
    c.in_ok-satisfy_if_short.ensures.short
    c.count_satisfied.ensures.trail c.count_satisfied.ensures.after

pub returns-in_err-satisfy_if_short-clause-reached : goal.returns-in_err-satisfy_if_short-clause-reached
returns-in_err-satisfy_if_short-clause-reached c =
    let p = err_from_is_err_and c.from_residual.result c.from_residual.ensures.1 in
    rw (p.1, p.2) (stop_more c.args.clauses.now c.args.self.now c.short.self c.satisfy_if_short.new.self c.args.graph.now
    c.short.graph c.satisfy_if_short.new.graph c.short.invariant c.in_err-satisfy_if_short.field-0.0
    c.in_err-satisfy_if_short.ensures.reached)

pub returns-clause-short : goal.returns-clause-short
returns-clause-short c =
    let inv = c.short.invariant in
    let known = inv.known in
    all_short_satisfied c.short.self c.args.clauses.now.db.now inv.work.watched (omega (arith, known, c.requires.known)) (c.in_default.ensures.none refl)

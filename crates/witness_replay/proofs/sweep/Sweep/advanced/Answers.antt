use Rattle.std.proofs.Common.{◌∙◌, sym}
use Rattle.witness_replay.proofs.SweepLemmas.{near-rest}
use Rattle.witness_replay.proofs.sweep.Sweep.advanced.Goals as goal

pub returns-clause-near : goal.returns-clause-near
returns-clause-near c =
    near-rest c.args.direction c.args.timeline.times.now c.args.timeline.moments.now c.requires.timeline c.args.wanted.low c.args.e c.loop-direction.sweep.place c.loop-direction.invariant.swept.within
    (sym c.has_more.ensures ∙ c.loop-direction-test.false)

use Rattle.std.proofs.Common.{rules, pos, get_or}
use Rattle.std.specs.Int.{w128}
use Rattle.std.proofs.lemmas.Int.{to_z-of_z}
use mir.Val.{SFits}
use Rattle.difference_graph.proofs.GapLemmas.{raised_turn}
use Rattle.difference_graph.proofs.gaps.raise_below.Goals as goal

pub loop-i-preserved : goal.loop-i-preserved
loop-i-preserved c =
    let fits : SFits w128 (get_or c.loop-i.numbers c.loop-i.i (pos 0)) = search rules in
    let fits_new : SFits w128 c.raised.result = search rules in
    raised_turn c.loop-i.i _ _ _ c.raised.result _ c.args.numbers.now c.loop-i.numbers c.loop-i.invariant c.loop-i-test.true
    (to_z-of_z w128 (get_or c.loop-i.numbers c.loop-i.i (pos 0)) fits) (to_z-of_z w128 c.raised.result fits_new) c.raised.ensures.low
    c.raised.ensures.high

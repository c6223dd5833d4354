use Rattle.formula_arena.specs.declared.direction.Direction.TheVariants.{Ahead, Behind}
use Rattle.witness_replay.proofs.TableLemmas.{node-reaches}
use Rattle.witness_replay.proofs.evaluator.fill_node.Goals as goal

pub returns-in-Until : goal.returns-in-Until
returns-in-Until c =
    let node = c.in-Until.ensures.node in
    rw node.2 (node-reaches c.args.log.now c.args.timeline.times.now c.args.arena.now c.args.node c.args.before.now c.requires.before
    Ahead c.in-Until.interval c.in-Until.f c.in-Until.g _ _ _ node.0 node.1 c.column-left.ensures c.column-right.ensures c.fill_reaches.ensures)

pub returns-in-Since : goal.returns-in-Since
returns-in-Since c =
    let node = c.in-Since.ensures.node in
    rw node.2 (node-reaches c.args.log.now c.args.timeline.times.now c.args.arena.now c.args.node c.args.before.now c.requires.before
    Behind c.in-Since.interval c.in-Since.f c.in-Since.g _ _ _ node.0 node.1 c.column-left-in-Since.ensures c.column-right-in-Since.ensures c.fill_reaches-in-Since.ensures)

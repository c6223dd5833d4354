use Rattle.std.proofs.Common.{◌∙◌, length}
use Rattle.formula_arena.specs.Nodes.{tree_at}
use Rattle.witness_replay.proofs.TableLemmas.{value-in-table}
use Rattle.witness_replay.proofs.evaluator.truth_at_first.Goals as goal

pub returns : goal.returns
returns c =
    let row = c.first_row.ensures in
    let value =
    value-in-table c.args.log.now c.args.timeline.times.now c.args.arena.now
    (length c.args.arena.now) c.evaluate.new.table c.evaluate.ensures c.args.node c.first_row.result c.requires.node_in row.within in
    let first = c.truth_by_rows.ensures.at_first c.args.log.now c.args.timeline.times.now c.first_row.result (tree_at c.args.arena.now c.args.node) row.within row.least in
    rw c.get.ensures.number (value ∙ first)

use Rattle.std.proofs.Common.{length, drop, ◌∙◌, ap, ◌*◌, length-append, arith}
use Rattle.witness_replay.proofs.TableLemmas.{columns-before, columns-more, ends-before}
use Rattle.witness_replay.proofs.evaluator.fill_next.Goals as goal

pub overflow_mul-get : goal.overflow_mul-get
overflow_mul-get c =
    let ends = ends-before c.get.result (length c.args.arena.now) (length c.args.timeline.times.now) (omega arith) in
    record { fits = omega arith }

pub split_at_mut-before-requires : goal.split_at_mut-before-requires
split_at_mut-before-requires c =
    let ends = ends-before c.get.result (length c.args.arena.now) (length c.args.timeline.times.now) (omega arith) in
    omega arith

pub slice_bounds-fill_node-end : goal.slice_bounds-fill_node-end
slice_bounds-fill_node-end c =
    let parts = c.split_at_mut-before in
    let ends = ends-before c.get.result (length c.args.arena.now) (length c.args.timeline.times.now) (omega arith) in
    omega (arith, ap length parts.ensures.value, length-append parts.result.0.now parts.result.1.now)

pub fill_node-requires-clause-before : goal.fill_node-requires-clause-before
fill_node-requires-clause-before c =
    let parts = c.split_at_mut-before in
    let count = parts.ensures.front_len ∙ ap (λ k. k * length c.args.timeline.times.now) c.get.ensures.number in
    columns-before c.args.log.now c.args.timeline.times.now c.args.arena.now c.args.node parts.result.0.now parts.result.1.now count (rw parts.ensures.value at c.requires.before)

pub returns : goal.returns
returns c =
    let parts = c.split_at_mut-before in
    let count = parts.ensures.front_len ∙ ap (λ k. k * length c.args.timeline.times.now) c.get.ensures.number in
    let before = rw parts.ensures.value at c.requires.before in
    columns-more c.args.log.now c.args.timeline.times.now c.args.arena.now c.args.node parts.result.0.now parts.result.1.now c.fill_node.new.target
    (drop (length c.args.timeline.times.now) parts.result.1.now) count before c.fill_node.ensures

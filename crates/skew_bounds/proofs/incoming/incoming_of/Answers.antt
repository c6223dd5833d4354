use Rattle.std.proofs.Common.{◌≡◌, ◌∙◌, ◌++◌, sym, pos, take, drop, length, arith}
use Rattle.std.proofs.lemmas.Grind.{common_steps}
use Rattle.std.proofs.lemmas.List.{take_more}
use Rattle.neg_cycle.specs.Systems.{edge_at}
use Rattle.skew_bounds.specs.Incoming.{lists_of}
use Rattle.skew_bounds.proofs.EdgeLists.{incoming-more, incoming-none, lists-count}
use Rattle.skew_bounds.proofs.incoming.incoming_of.Goals as goal

pub loop-edge-init : goal.loop-edge-init
loop-edge-init c = incoming-none c.args.nodes (lists_of c.in_ok-lists.lists.items) c.in_ok-lists.ensures

pub add-requires : goal.add-requires
add-requires c =
    let count : length c.loop-edge.lists.items ≡ c.args.nodes = sym (lists-count c.loop-edge.lists.items) ∙ c.loop-edge.invariant.count in
    rw (c.deref_mut.ensures.value, count) (c.requires c.loop-edge.edge-index _ c.loop-edge-test.true).to

pub loop-edge-preserved : goal.loop-edge-preserved
loop-edge-preserved c =
    let i = c.loop-edge.edge-index in
    let edge = edge_at c.args.edges.now i in
    let within = (c.requires i (record { from = 0; to = 0; bound = pos 0 }) c.loop-edge-test.true).to in
    let added = rw c.deref_mut.ensures.value at c.in_ok-add.ensures in
    let more = incoming-more c.args.nodes (take i c.args.edges.now) edge (lists_of c.loop-edge.lists.items) (lists_of c.add.new.lists) within c.loop-edge.invariant added in
    let size : length c.add.new.lists ≡ c.args.nodes = sym (lists-count c.add.new.lists) ∙ more.count in
    let before : length c.loop-edge.lists.items ≡ c.args.nodes = sym (lists-count c.loop-edge.lists.items) ∙ c.loop-edge.invariant.count in
    let kept : take c.loop-edge.lists.len (c.add.new.lists ++ drop (length c.add.new.lists) c.loop-edge.lists.items) ≡ c.add.new.lists = grind (arith, common_steps, size, before) in
    rw (kept, take_more c.args.edges.now i (record { from = 0; to = 0; bound = pos 0 }) c.loop-edge-test.true) more

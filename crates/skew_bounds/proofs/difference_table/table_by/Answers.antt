use Rattle.std.proofs.Common.{rules, ◌≡◌}
use Rattle.std.proofs.lemmas.List.{length-map}
use Rattle.skew_bounds.specs.Incoming.{lists_of}
use Rattle.skew_bounds.proofs.Columns.{held-more, held-table}
use Rattle.skew_bounds.proofs.difference_table.table_by.Goals as goal

pub loop-node-preserved : goal.loop-node-preserved
loop-node-preserved c =
    rw c.in_ok-push.ensures.items
    (held-more c.args.nodes (lists_of c.args.incoming.now) c.in_ok-zero.zero.items c.loop-node.node c.loop-node.columns.items c.in_ok-numbers.numbers.items c.in_ok-new.field-0
    c.loop-node.invariant c.in_ok-numbers.ensures.latest
    (let each = rw (c.deref-in-loop-node.ensures.value, c.deref-in-loop-node-2.ensures.value, c.in_ok-zero.ensures.count) at c.in_ok-new.ensures in each))

pub returns : goal.returns
returns c =
    let end : c.loop-node.node ≡ c.args.nodes = search rules in
    held-table c.args.nodes (lists_of c.args.incoming.now) c.in_ok-zero.zero.items c.loop-node.columns.items
    (rw (length-map c.args.incoming.now (λ list. list.items)) c.requires.nodes) (rw end at c.loop-node.invariant)

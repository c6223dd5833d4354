use Rattle.std.proofs.Common.{◌<◌, arith, rules}
use Rattle.std.proofs.lemmas.List.{length-set, length-replicate}
use Rattle.logic_table.proofs.runs.links_of.Goals as goal

pub set-requires : goal.set-requires
set-requires c =
    let low : c.get.result < c.args.vars = search rules in
    let var = c.get.ensures.number in
    let count = c.loop-linked.invariant.count in
    record { in_range = omega (arith, low, var, count) }

pub loop-linked-init : goal.loop-linked-init
loop-linked-init c =
    let vars = c.requires.vars in
    record {
      linked = rw c.in-Ok.ensures.none (c.set_links_are_linked.ensures.law.none c.args.trail.now c.args.vars c.args.graph.now (omega (arith, vars)));
      count = simp (c.in-Ok.ensures.none, length-replicate);
    }

pub loop-linked-preserved : goal.loop-linked-preserved
loop-linked-preserved c =
    let system = c.is_system.ensures.within.0 c.if-not-is_system.false in
    let yes = c.linked-item.result.yes in
    let no = c.linked-item.result.no in
    record {
      linked = rw c.set.ensures.edges
          (c.set_links_are_linked.ensures.law.after c.args.trail.now c.loop-linked.links c.args.graph.now c.linked-item.result.var yes no
          (rw c.requires.nodes (system.each 0 yes (search rules))) (rw c.requires.nodes (system.each 1 yes (search rules))) c.loop-linked.invariant.linked);
      count = rw (c.set.ensures.edges, length-set) c.loop-linked.invariant.count;
    }

use Rattle.std.proofs.Common.{sym, arith}
use Rattle.mt_model.proofs.BrokenBounds.{row-ends}
use Rattle.skew_bounds.specs.Edges.{edge_in}
use Rattle.skew_bounds.proofs.broken.is_edge_broken.Goals as goal

pub is_met-requires-clause-from : goal.is_met-requires-clause-from
is_met-requires-clause-from c =
    let ends = row-ends c.args.log.now c.args.bound (edge_in c.in-Some.edge) c.requires.of_rows (sym c.in-Some.ensures.edge) in
    omega (arith, ends.from, c.requires.count)

pub is_met-requires-clause-to : goal.is_met-requires-clause-to
is_met-requires-clause-to c =
    let ends = row-ends c.args.log.now c.args.bound (edge_in c.in-Some.edge) c.requires.of_rows (sym c.in-Some.ensures.edge) in
    omega (arith, ends.to, c.requires.count)

use Rattle.std.proofs.Common.{arith}
use Rattle.propagate.proofs.TrailLemmas.{few_literals, few_levels}
use Rattle.propagate.proofs.trail.Trail.level.Goals as goal

pub overflow_cast-result : goal.overflow_cast-result
overflow_cast-result c =
    let inside = c.self.inside in
    let most = few_literals _ c.self.invariant.stored.trail in
    let fewer = few_levels inside.entries.items inside.levels.items c.self.invariant.stored.trail.levels in
    omega (arith, most, fewer, c.self.invariant.stored.few, inside.entries.ok.0, inside.levels.ok.0, c.len.ensures)

use Rattle.std.proofs.Common.{◌<◌, length, arith}
use Rattle.propagate.proofs.TrailLemmas.{few_literals}
use Rattle.propagate.proofs.trail.Trail.advance.Goals as goal

pub overflow_add-self : goal.overflow_add-self
overflow_add-self c =
    let inside = c.self.inside in
    let more : inside.head < length inside.entries.items = rw (← c.self.view_is) at c.requires.more in
    let most = few_literals _ c.self.invariant.stored.trail in
    omega (arith, more, most, c.self.invariant.stored.few)

use Rattle.std.proofs.Common.{take}
use Rattle.propagate.specs.Best.{IsSeen}
use Rattle.propagate.proofs.best.last_beside.Given as goal

abbrev pub invariant-loop-lit : goal.invariant-loop-lit
invariant-loop-lit l = IsSeen l.trail.entries (take l.lit-index l.clause) l.beside l.last

use Rattle.std.proofs.Common.{take}
use Rattle.analyze.specs.Marks.{IsMarkedBy}
use Rattle.analyze.proofs.mark.mark.Given as goal

abbrev pub invariant-loop-lit : goal.invariant-loop-lit
invariant-loop-lit l = IsMarkedBy l.trail.entries l.before (take l.lit-index l.clause) l.fn.marked.keys l.marked.keys

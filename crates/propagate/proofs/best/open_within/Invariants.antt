use Rattle.propagate.specs.Best.{AreFalseWithin}
use Rattle.propagate.proofs.best.open_within.Given as goal

abbrev pub invariant-loop-place : goal.invariant-loop-place
invariant-loop-place l = AreFalseWithin l.trail.entries l.clause l.from l.place l.beside

use Rattle.std.proofs.Common.{◌≡◌}
use Rattle.mt_model.proofs.Pairs.{PairsBelow}
use Rattle.mt_model.proofs.reading.are_apart.Given as goal

abbrev pub invariant-loop-i : goal.invariant-loop-i
invariant-loop-i l = PairsBelow (λ m n. n ≡ m) l.names l.i

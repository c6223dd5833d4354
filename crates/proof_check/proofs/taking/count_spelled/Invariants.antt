use Rattle.std.proofs.Common.{take}
use Rattle.std.specs.Prelude.{All}
use Rattle.proof_log.specs.Spelled.{IsSpelled}
use Rattle.proof_check.proofs.taking.count_spelled.Given as goal

abbrev pub invariant-loop-i : goal.invariant-loop-i
invariant-loop-i l = All IsSpelled (take l.i l.lines)

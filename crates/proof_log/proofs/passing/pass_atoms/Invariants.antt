use Rattle.std.proofs.Common.{◌-◌, length}
use Rattle.proof_log.specs.Reading.{words_after}
use Rattle.proof_log.proofs.PassedLines.{AreKept}
use Rattle.proof_log.proofs.passing.pass_atoms.Given as goal

abbrev pub invariant-loop-rest : goal.invariant-loop-rest
invariant-loop-rest l = AreKept (words_after l.words) (words_after l.rest) l.count l.atoms.items

abbrev pub decreases-loop-rest : goal.decreases-loop-rest
decreases-loop-rest l = l.count - length l.atoms.items

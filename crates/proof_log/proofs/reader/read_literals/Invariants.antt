use Rattle.std.proofs.Common.{◌≡◌, ◌-◌, length, Some}
use Rattle.proof_log.specs.Reading.{literal_in, number_in, words_after}
use Rattle.proof_log.proofs.Items.{AreReadUpTo}
use Rattle.proof_log.proofs.reader.read_literals.Given as goal

abbrev pub invariant-loop-rest : goal.invariant-loop-rest
invariant-loop-rest l = (first : _) × (number_in (words_after l.words) ≡ Some (l.count, first)) × AreReadUpTo literal_in first l.count l.lits (words_after l.rest)

abbrev pub decreases-loop-rest : goal.decreases-loop-rest
decreases-loop-rest l = l.count - length l.lits

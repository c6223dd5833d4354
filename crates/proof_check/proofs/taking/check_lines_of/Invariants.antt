use Rattle.std.proofs.Common.{◌≡◌, [], length}
use Rattle.proof_check.proofs.TextLemmas.{AreTaken}
use Rattle.proof_check.proofs.taking.check_lines_of.Given as goal

abbrev pub invariant-loop-words : goal.invariant-loop-words
invariant-loop-words l = AreTaken l.rules l.text l.kept.closed l.rest l.learn_lines × (l.kept.pending ≡ [])

abbrev pub decreases-loop-words : goal.decreases-loop-words
decreases-loop-words l = length l.rest

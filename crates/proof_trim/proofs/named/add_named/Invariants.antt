use Rattle.std.proofs.Common.{◌≡◌, ◌++◌, false, length}
use Rattle.proof_log.specs.Reading.{words_after}
use Rattle.proof_trim.specs.Naming.{named_in}
use Rattle.proof_trim.proofs.named.add_named.Given as goal

abbrev pub invariant-loop-next : goal.invariant-loop-next
invariant-loop-next l = l.fn.numbers.items ++ named_in false (words_after l.words) ≡ l.numbers.items ++ named_in false (words_after l.rest)

abbrev pub decreases-loop-next : goal.decreases-loop-next
decreases-loop-next l = length l.rest

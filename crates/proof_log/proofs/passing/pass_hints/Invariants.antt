use Rattle.std.proofs.Common.{◌-◌}
use Rattle.proof_log.specs.Reading.{hint_in, words_after}
use Rattle.proof_log.proofs.PassedItems.{ArePassed}
use Rattle.proof_log.proofs.passing.pass_hints.Given as goal

abbrev pub invariant-loop-passed : goal.invariant-loop-passed
invariant-loop-passed l = ArePassed hint_in (words_after l.words) (words_after l.rest) l.count l.passed

abbrev pub decreases-loop-passed : goal.decreases-loop-passed
decreases-loop-passed l = l.count - l.passed

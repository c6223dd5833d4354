use Rattle.mt_model.specs.Walks.{edge_of}
use Rattle.proof_log.specs.Reading.{words_after}
use Rattle.proof_check.proofs.WordLemmas.{StepsRead}
use Rattle.proof_check.proofs.conflict.walked.Given as goal

abbrev pub invariant-loop-i : goal.invariant-loop-i
invariant-loop-i l = StepsRead (edge_of l.rules.log) l.fn.kept (words_after l.words) l.count l._i (words_after l.rest) l.walk l.kept

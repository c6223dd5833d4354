use Rattle.proof_log.specs.Reading.{words_after}
use Rattle.proof_check.proofs.WordLemmas.{LitsRead}
use Rattle.proof_check.proofs.judge.push_literals.Given as goal

abbrev pub invariant-loop-i : goal.invariant-loop-i
invariant-loop-i l = LitsRead l.fn.kept (words_after l.words) l.count l._i (words_after l.rest) l.kept

use Rattle.std.proofs.Common.{List, ◌+◌, length}
use Rattle.proof_log.specs.declared.line.Hint.{Hint}
use Rattle.proof_log.specs.Reading.{words_after}
use Rattle.proof_check.specs.Keeping.{lines_with}
use Rattle.proof_check.proofs.HintWords.{AreGiven, HintsTaken}
use Rattle.proof_check.proofs.judge.are_refuting.Given as goal

abbrev pub invariant-loop-i : goal.invariant-loop-i
invariant-loop-i l = (hints : List Hint) → AreGiven l.rules (lines_with l.kept.closed) (length l.kept.closed + 1) l.fn.assumed (words_after l.words) l.count hints
    → HintsTaken l.rules (lines_with l.kept.closed) (length l.kept.closed + 1) l.fn.assumed (words_after l.words) l.count l.i (words_after l.rest) l.assumed hints

use Rattle.std.proofs.Common.{◌-◌, ◌≤◌, length}
use Rattle.memchr.specs.Find.{Nowhere, Passes, is_byte}
use Rattle.proof_log.specs.LinesText.{space}
use Rattle.proof_log.proofs.word.word_end.Given as goal

abbrev pub invariant-loop-end : goal.invariant-loop-end
invariant-loop-end l = (l.end ≤ length l.words) × Nowhere (Passes (is_byte space) l.words) 0 l.end

abbrev pub decreases-loop-end : goal.decreases-loop-end
decreases-loop-end l = length l.words - l.end

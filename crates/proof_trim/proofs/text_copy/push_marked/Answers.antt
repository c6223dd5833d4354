use Rattle.std.proofs.Common.{refl}
use Rattle.proof_trim.proofs.text_copy.push_marked.Goals as goal

pub returns-then-mark : goal.returns-then-mark
returns-then-mark c = rw c.if-mark.true c.push_line.ensures

pub returns-else-mark : goal.returns-else-mark
returns-else-mark c = λ l is are. rw c.if-mark.false refl

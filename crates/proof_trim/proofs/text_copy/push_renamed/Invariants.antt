use Rattle.std.proofs.Common.{◌+◌, ◌-◌, length}
use Rattle.std.specs.Prelude.{slice_index}
use Rattle.proof_trim.proofs.Renaming.{AreRenamedTo}
use Rattle.proof_trim.proofs.text_copy.push_renamed.Given as goal

abbrev pub invariant-loop-next : goal.invariant-loop-next
invariant-loop-next l = AreRenamedTo (λ n. slice_index l.places (n - 1)) (length l.places + 1) l.words l.fn.left.items l.left.items l.rest

abbrev pub decreases-loop-next : goal.decreases-loop-next
decreases-loop-next l = length l.rest

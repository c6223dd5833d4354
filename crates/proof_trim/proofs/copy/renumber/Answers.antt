use Rattle.std.proofs.Common.{◌-◌, arith}
use Rattle.std.specs.Prelude.{slice_index}
use Rattle.proof_trim.specs.Trimmed.{hint_renumbered}
use Rattle.proof_trim.proofs.Renumbering.{changed-more}
use Rattle.proof_trim.proofs.copy.renumber.Goals as goal

pub loop-hint-preserved : goal.loop-hint-preserved
loop-hint-preserved c =
    changed-more (hint_renumbered (λ n. slice_index c.args.places.now (n - 1))) c.args.hints.now c.loop-hint.hints c.loop-hint.hint-index _ c.hint_copy.result
    (omega (arith, c.loop-hint-test.true)) c.loop-hint.invariant c.hint_copy.ensures

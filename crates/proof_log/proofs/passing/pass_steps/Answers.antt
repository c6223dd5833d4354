use Rattle.std.proofs.Common.{arith}
use Rattle.proof_log.specs.Reading.{step_in, words_after}
use Rattle.proof_log.proofs.PassedItems.{all-passed, none-left, none-passed, one-passed}
use Rattle.proof_log.proofs.Items.{uncounted}
use Rattle.proof_log.proofs.passing.pass_steps.Goals as goal

pub loop-passed-init : goal.loop-passed-init
loop-passed-init c = none-passed step_in (words_after c.args.words.now) (words_after c.in-Some.first.now) c.in-Some.count c.in-Some.ensures

pub loop-passed-preserved : goal.loop-passed-preserved
loop-passed-preserved c =
    one-passed step_in (words_after c.args.words.now) (words_after c.loop-passed.rest.now) c.in-Some.count c.loop-passed.passed c.loop-passed.invariant _
    (words_after c.in-Some-next_step.after.now) c.loop-passed-test.true c.in-Some-next_step.ensures

pub returns : goal.returns
returns c =
    all-passed step_in (words_after c.args.words.now) (words_after c.loop-passed.rest.now) c.in-Some.count c.loop-passed.passed c.loop-passed.invariant (omega (arith, c.loop-passed-test.false))

pub returns-in_default : goal.returns-in_default
returns-in_default c = uncounted step_in (words_after c.args.words.now) c.in_default.ensures

pub returns-in_default-next_step : goal.returns-in_default-next_step
returns-in_default-next_step c =
    none-left step_in (words_after c.args.words.now)
    (words_after c.loop-passed.rest.now) c.in-Some.count c.loop-passed.passed c.loop-passed.invariant c.loop-passed-test.true c.in_default-next_step.ensures

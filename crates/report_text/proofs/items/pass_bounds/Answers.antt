use Rattle.std.proofs.Common.{arith}
use Rattle.mt_model.specs.declared.step.Step.TheVariants as step
use Rattle.mt_model.specs.Texts.{step_text}
use Rattle.report_text.specs.Spelled.{IsSpelledBound}
use Rattle.report_text.proofs.ItemLists.{all-passed, one-passed, passed-stopped}
use Rattle.report_text.proofs.LineTexts.{bounds-spelled}
use Rattle.report_text.proofs.Sections.{first-row}
use Rattle.report_text.proofs.items.pass_bounds.Goals as goal

pub returns-in_default : goal.returns-in_default
returns-in_default c =
    passed-stopped IsSpelledBound step_text bounds-spelled
    (step.Low 0) first-row c.args.count c.args.bytes.now c.loop-passed.passed c.loop-passed.rest.now c.loop-passed.invariant c.loop-passed-test.true c.in_default.ensures

pub loop-passed-preserved : goal.loop-passed-preserved
loop-passed-preserved c =
    one-passed IsSpelledBound step_text bounds-spelled c.args.count c.args.bytes.now c.loop-passed.passed c.loop-passed.rest.now _ c.in-Some.after.now
    c.loop-passed.invariant c.loop-passed-test.true c.in-Some.ensures

pub returns : goal.returns
returns c =
    all-passed IsSpelledBound step_text bounds-spelled c.args.count c.args.bytes.now c.loop-passed.passed c.loop-passed.rest.now c.loop-passed.invariant (omega (arith, c.loop-passed-test.false))

use Rattle.std.proofs.Common.{◌<◌, length, arith}
use Rattle.mt_model.specs.declared.step.Step.TheVariants as step
use Rattle.mt_model.specs.Texts.{step_text}
use Rattle.report_text.specs.Spelled.{IsSpelledBound}
use Rattle.report_text.proofs.ItemLists.{items-stopped, one-more}
use Rattle.report_text.proofs.LineTexts.{bounds-spelled}
use Rattle.report_text.proofs.Sections.{first-row}
use Rattle.report_text.proofs.items.read_bounds.Goals as goal

pub returns-in_default : goal.returns-in_default
returns-in_default c =
    let more : length c.loop-rest.steps < c.args.count = omega (arith, c.len.ensures.count, c.loop-rest-test.true) in
    items-stopped IsSpelledBound step_text bounds-spelled (step.Low 0) first-row c.args.count c.args.bytes.now c.loop-rest.steps c.loop-rest.rest.now c.loop-rest.invariant more c.in_default.ensures

pub loop-rest-preserved : goal.loop-rest-preserved
loop-rest-preserved c =
    let more : length c.loop-rest.steps < c.args.count = omega (arith, c.len.ensures.count, c.loop-rest-test.true) in
    rw c.in_ok-push.ensures.ok
    (one-more IsSpelledBound step_text bounds-spelled c.args.count c.args.bytes.now c.loop-rest.steps c.loop-rest.rest.now c.in-Some.step
    c.in-Some.after.now c.loop-rest.invariant more c.in-Some.ensures)

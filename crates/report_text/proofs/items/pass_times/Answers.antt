use Rattle.std.proofs.Common.{arith, pos}
use Rattle.std.specs.Fmt.{signed_decimal}
use Rattle.mt_model.specs.declared.limits.TheConstants.{MAX_TIME}
use Rattle.mt_model.specs.Log.{IsWithin}
use Rattle.report_text.proofs.ItemLists.{all-passed, one-passed, passed-stopped}
use Rattle.report_text.proofs.LineTexts.{times-spelled}
use Rattle.report_text.proofs.Sections.{zero-time}
use Rattle.report_text.proofs.items.pass_times.Goals as goal

pub returns-in_default : goal.returns-in_default
returns-in_default c =
    passed-stopped (IsWithin MAX_TIME) signed_decimal times-spelled
    (pos 0) zero-time c.args.count c.args.bytes.now c.loop-passed.passed c.loop-passed.rest.now c.loop-passed.invariant c.loop-passed-test.true c.in_default.ensures

pub loop-passed-preserved : goal.loop-passed-preserved
loop-passed-preserved c =
    one-passed
    (IsWithin MAX_TIME) signed_decimal times-spelled c.args.count c.args.bytes.now c.loop-passed.passed c.loop-passed.rest.now _ c.in-Some.after.now
    c.loop-passed.invariant c.loop-passed-test.true c.in-Some.ensures

pub returns : goal.returns
returns c =
    all-passed
    (IsWithin MAX_TIME) signed_decimal times-spelled c.args.count c.args.bytes.now c.loop-passed.passed c.loop-passed.rest.now c.loop-passed.invariant
    (omega (arith, c.loop-passed-test.false))

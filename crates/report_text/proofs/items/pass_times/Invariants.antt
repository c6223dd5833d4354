use Rattle.std.proofs.Common.{◌-◌}
use Rattle.std.specs.Fmt.{signed_decimal}
use Rattle.mt_model.specs.declared.limits.TheConstants.{MAX_TIME}
use Rattle.mt_model.specs.Log.{IsWithin}
use Rattle.report_text.proofs.ItemLists.{ArePassedUpTo}
use Rattle.report_text.proofs.LineTexts.{times-spelled}
use Rattle.report_text.proofs.items.pass_times.Given as goal

abbrev pub invariant-loop-passed : goal.invariant-loop-passed
invariant-loop-passed l = ArePassedUpTo (IsWithin MAX_TIME) signed_decimal times-spelled l.count l.bytes l.passed l.rest

abbrev pub decreases-loop-passed : goal.decreases-loop-passed
decreases-loop-passed l = l.count - l.passed

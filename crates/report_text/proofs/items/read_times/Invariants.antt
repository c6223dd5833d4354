use Rattle.std.proofs.Common.{◌-◌, length}
use Rattle.std.specs.Fmt.{signed_decimal}
use Rattle.mt_model.specs.declared.limits.TheConstants.{MAX_TIME}
use Rattle.mt_model.specs.Log.{IsWithin}
use Rattle.report_text.proofs.ItemLists.{AreReadUpTo}
use Rattle.report_text.proofs.LineTexts.{times-spelled}
use Rattle.report_text.proofs.items.read_times.Given as goal

abbrev pub invariant-loop-rest : goal.invariant-loop-rest
invariant-loop-rest l = AreReadUpTo (IsWithin MAX_TIME) signed_decimal times-spelled l.count l.bytes l.times l.rest

abbrev pub decreases-loop-rest : goal.decreases-loop-rest
decreases-loop-rest l = l.count - length l.times

use Rattle.std.specs.Fmt.{signed_decimal}
use Rattle.mt_model.specs.declared.limits.TheConstants.{MAX_TIME}
use Rattle.mt_model.specs.Log.{IsWithin}
use Rattle.report_text.proofs.LineTexts.{times-spelled}
use Rattle.report_text.proofs.Lined.{unspelled}
use Rattle.report_text.proofs.front.next_time.Goals as goal

pub returns-in_err-time : goal.returns-in_err-time
returns-in_err-time c =
    rw c.from_residual-in_err-time.ensures
    (unspelled (IsWithin MAX_TIME) signed_decimal times-spelled c.args.bytes.now c.in_ok-line.line.now c.in_ok-line.rest.now c.in_ok-line.ensures c.in_err-time.ensures)

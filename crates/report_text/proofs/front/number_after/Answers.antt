use Rattle.std.proofs.Common.{sym}
use Rattle.report_text.proofs.Fronts.{is-number, no-number}
use Rattle.report_text.proofs.front.number_after.Goals as goal

pub returns-in_err-value : goal.returns-in_err-value
returns-in_err-value c = rw c.from_residual-in_err-value.ensures (no-number c.args.words.now c.args.line.now c.in_ok-digits.digits.now c.in_ok-digits.ensures (sym c.in_err-value.ensures.value))

pub returns : goal.returns
returns c = is-number c.args.words.now c.args.line.now c.in_ok-digits.digits.now c.in_ok-digits.ensures c.in_ok-value.value (sym c.in_ok-value.ensures.value)

use Rattle.proof_log.specs.Spelled.{IsNumber}
use Rattle.report_text.specs.ReportText.{events_line}
use Rattle.report_text.proofs.LineTexts.{events-spelled}
use Rattle.report_text.proofs.Lined.{uncut, unspelled}
use Rattle.report_text.proofs.front.next_events.Goals as goal

pub returns-in_err-line : goal.returns-in_err-line
returns-in_err-line c = rw c.from_residual.ensures (uncut IsNumber events_line events-spelled c.args.bytes.now c.in_err-line.ensures)

pub returns-in_err-events : goal.returns-in_err-events
returns-in_err-events c =
    rw c.from_residual-in_err-events.ensures
    (unspelled IsNumber events_line events-spelled c.args.bytes.now c.in_ok-line.line.now c.in_ok-line.rest.now c.in_ok-line.ensures
    (λ n is. c.in_err-events.ensures n (record { number = is.is; text = is.text })))

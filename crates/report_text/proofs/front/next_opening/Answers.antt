use Rattle.report_text.specs.Parts.{IsOpening, opening_line}
use Rattle.report_text.proofs.LineTexts.{openings-spelled}
use Rattle.report_text.proofs.Lined.{unspelled}
use Rattle.report_text.proofs.front.next_opening.Goals as goal

pub returns-in_err-opening : goal.returns-in_err-opening
returns-in_err-opening c =
    rw c.from_residual-in_err-opening.ensures
    (unspelled IsOpening opening_line openings-spelled c.args.bytes.now c.in_ok-line.line.now c.in_ok-line.rest.now c.in_ok-line.ensures c.in_err-opening.ensures)

use Rattle.report_text.specs.Parts.{IsKind}
use Rattle.report_text.specs.ReportText.{kind_line}
use Rattle.report_text.proofs.LineTexts.{kinds-spelled}
use Rattle.report_text.proofs.Lined.{unspelled}
use Rattle.report_text.proofs.front.next_kind.Goals as goal

pub returns-in_err-kind : goal.returns-in_err-kind
returns-in_err-kind c =
    rw c.from_residual-in_err-kind.ensures
    (unspelled IsKind (kind_line c.args.value) (kinds-spelled c.args.value) c.args.bytes.now c.in_ok-line.line.now c.in_ok-line.rest.now c.in_ok-line.ensures c.in_err-kind.ensures)

use Rattle.std.proofs.lemmas.Result.{err_from_is_err_and}
use Rattle.std.proofs.Common.{refl}
use Rattle.report_text.specs.declared.report.Report.TheVariants as report
use Rattle.report_text.proofs.Stages.{false-stopped, true-stopped, verdicts-read}
use Rattle.report_text.proofs.outlining.outline_verdicts.Goals as goal

pub returns-in_err-on_true : goal.returns-in_err-on_true
returns-in_err-on_true c =
    let p = err_from_is_err_and c.from_residual.result c.from_residual.ensures.1 in
    rw (p.1, p.2) (true-stopped c.args.events c.args.kind c.args.bytes.now c.in_err-on_true.field-0.0 c.in_err-on_true.ensures)

pub returns-in_err-on_false : goal.returns-in_err-on_false
returns-in_err-on_false c =
    let p = err_from_is_err_and c.from_residual-in_err-on_false.result c.from_residual-in_err-on_false.ensures.1 in
    rw (p.1, p.2)
    (false-stopped c.args.events c.args.kind c.in_ok-on_true.ensures.value c.args.bytes.now c.in_ok-on_true.rest.now c.in_err-on_false.field-0.0
    c.in_ok-on_true.ensures.front c.in_err-on_false.ensures)

pub returns : goal.returns
returns c =
    let first = c.in_ok-on_true.ensures in
    let second = c.in_ok-on_false.ensures in
    record {
      value = report.Verdicts c.args.events first.value second.value;
      outlined = record { on_true = first.value; on_false = second.value; is = refl; outlines_true = first.outlined; outlines_false = second.outlined };
      read =
          verdicts-read c.args.events c.args.kind first.value second.value
          (report.Verdicts c.args.events first.value second.value) c.args.bytes.now c.in_ok-on_true.rest.now c.in_ok-on_false.rest.now refl first.front second.front;
    }

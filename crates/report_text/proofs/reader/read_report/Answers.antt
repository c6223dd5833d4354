use Rattle.std.proofs.Common.{refl, subst, sym, inl, Ok, Err}
use Rattle.std.proofs.lemmas.Result.{err_from_is_err_and}
use Rattle.report_text.specs.declared.fault.ReportFault.TheVariants as fault
use Rattle.report_text.specs.ReportOf.{Answers, ReportOf}
use Rattle.report_text.proofs.CutShort.{answers-cut}
use Rattle.report_text.proofs.reader.read_report.Goals as goal

pub report_of-requires : goal.report_of-requires
report_of-requires c = (c.args.bytes.now, c.requires, c.in_ok-outline.ensures.answer)

pub returns-in-Ok : goal.returns-in-Ok
returns-in-Ok c =
    let bytes = c.args.bytes.now in
    let o = c.in_ok-outline.ensures.answer in
    let same = c.in-Ok.ensures o.value o.outlined o.is.spelled in
    let answer : Answers bytes (Ok c.in-Ok.report) = subst (λ r. ReportOf bytes (Ok r)) (sym same) o.is in
    record { answer = answer; cut = answers-cut bytes (Ok c.in-Ok.report) answer }

pub returns-in-Err : goal.returns-in-Err
returns-in-Err c =
    let bytes = c.args.bytes.now in
    let answer : Answers bytes (Err fault.Memory) = inl refl in
    record { answer = answer; cut = answers-cut bytes (Err fault.Memory) answer }

pub returns-in_err-outline : goal.returns-in_err-outline
returns-in_err-outline c =
    let p = err_from_is_err_and c.from_residual.result c.from_residual.ensures.1 in
    let bytes = c.args.bytes.now in
    let answer : Answers bytes (Err c.in_err-outline.field-0.0) = c.in_err-outline.ensures.answer in
    rw (p.1, p.2) (record { answer = answer; cut = answers-cut bytes (Err c.in_err-outline.field-0.0) answer })

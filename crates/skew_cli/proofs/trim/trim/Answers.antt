use Rattle.std.proofs.Common.{arith}
use Rattle.std.proofs.lemmas.Result.{err_from_is_err_and}
use Rattle.skew_cli.proofs.TrimSteps.{some-trim-faulty, some-trim-given, some-trim-long, trim-faulty, trim-given}
use Rattle.skew_cli.proofs.trim.trim.Goals as goal

pub trim_of_report-requires : goal.trim_of_report-requires
trim_of_report-requires g c =
    let within = c.in_ok-file.ensures.within in
    record { whole = (c.in_ok-file.file.items, omega (arith, within), rw c.deref.ensures.value at c.in_ok-outline.ensures.outline) }

pub returns-in_err-outline-clause-outcome : goal.returns-in_err-outline-clause-outcome
returns-in_err-outline-clause-outcome g c = λ tells.
    let p = err_from_is_err_and c.from_residual-in_err-outline.result c.from_residual-in_err-outline.ensures.1 in
    let refused = rw c.deref.ensures.value at c.in_err-outline.ensures.refused in
    rw (p.1, p.2)
    (trim-faulty (g.S.Shelf.files c.args.shelf.now) c.args.report.now c.in_ok-file.file.items (c.in_ok-file.ensures.whole tells) c.in_ok-file.ensures.within c.in_err-outline.field-0.0 refused)

pub returns-clause-outcome : goal.returns-clause-outcome
returns-clause-outcome g c = λ tells.
    let o = rw c.deref.ensures.value at c.in_ok-outline.ensures.outline in
    trim-given (g.S.Shelf.files c.args.shelf.now) c.args.report.now c.in_ok-file.file.items (c.in_ok-file.ensures.whole tells) c.in_ok-file.ensures.within o.value c.trim_of_report.result o.is
    (c.trim_of_report.ensures.outcome o.value o.outlined o.is.spelled)

pub returns-in_err-file-clause-possible : goal.returns-in_err-file-clause-possible
returns-in_err-file-clause-possible g c =
    let p = err_from_is_err_and c.from_residual.result c.from_residual.ensures.1 in
    rw (p.1, p.2) (some-trim-long c.in_err-file.field-0.0 c.in_err-file.ensures.too_long)

pub returns-in_err-outline-clause-possible : goal.returns-in_err-outline-clause-possible
returns-in_err-outline-clause-possible g c =
    let p = err_from_is_err_and c.from_residual-in_err-outline.result c.from_residual-in_err-outline.ensures.1 in
    let refused = rw c.deref.ensures.value at c.in_err-outline.ensures.refused in
    rw (p.1, p.2) (some-trim-faulty c.in_ok-file.file.items c.in_ok-file.ensures.within c.in_err-outline.field-0.0 refused)

pub returns-clause-possible : goal.returns-clause-possible
returns-clause-possible g c =
    let o = rw c.deref.ensures.value at c.in_ok-outline.ensures.outline in
    some-trim-given c.in_ok-file.file.items c.in_ok-file.ensures.within o.value c.trim_of_report.result o.is (c.trim_of_report.ensures.outcome o.value o.outlined o.is.spelled)

use Rattle.std.proofs.Common.{inl, refl}
use Rattle.std.proofs.lemmas.Result.{err_from_is_err_and}
use Rattle.skew_cli.proofs.TrimSteps.{untrimmed-refused}
use Rattle.skew_cli.proofs.trim.trim_of_report.Goals as goal

pub returns-in_err-text-clause-outcome : goal.returns-in_err-text-clause-outcome
returns-in_err-text-clause-outcome c = λ r out spelled.
    let p = err_from_is_err_and c.from_residual.result c.from_residual.ensures.1 in
    rw (p.1, p.2) (untrimmed-refused r c.in_err-text.field-0.0 (c.in_err-text.ensures.refused r out spelled))

pub returns-clause-outcome : goal.returns-clause-outcome
returns-clause-outcome c = λ r out spelled.
    let t = c.in_ok-text.ensures.trimmed r out spelled in
    inl (record { can = c.in_ok-text.ensures.can r out spelled; report = t.report; trim = t.trim; written = t.text; zero = refl })

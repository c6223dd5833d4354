use Rattle.std.proofs.Common.{ap, refl, inl, inr, Err}
use Rattle.skew_cli.proofs.TrimSteps.{lines-can}
use Rattle.skew_cli.proofs.trim.trimmed_lines.Goals as goal

pub returns-in-Ok-clause-can : goal.returns-in-Ok-clause-can
returns-in-Ok-clause-can c = λ lines is. lines-can lines (c.in-Ok.ensures.can lines is)

pub returns-in-Err-Empty-clause-refused : goal.returns-in-Err-Empty-clause-refused
returns-in-Err-Empty-clause-refused c = λ lines is.
    let none = c.in-Err-Empty.ensures.empty (ap Err c.in-Err-Empty.field-0-is) lines is in
    record { number = 0; place = inl (none, refl); told = refl }

pub returns-in-Err-Hint-clause-refused : goal.returns-in-Err-Hint-clause-refused
returns-in-Err-Hint-clause-refused c = λ lines is.
    let first = c.in-Err-Hint.ensures.hint c.in-Err-Hint.line (ap Err c.in-Err-Hint.field-0-is) lines is in
    record { number = c.in-Err-Hint.line; place = inr first; told = refl }

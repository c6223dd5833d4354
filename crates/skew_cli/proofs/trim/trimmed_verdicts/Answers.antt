use Rattle.std.proofs.lemmas.Result.{err_from_is_err_and}
use Rattle.skew_cli.proofs.TrimSteps.{both-can, false-told, true-told}
use Rattle.skew_cli.proofs.TrimmedTexts.{sections-left}
use Rattle.skew_cli.proofs.trim.trimmed_verdicts.Goals as goal

pub returns-in_err-left_true-clause-refused : goal.returns-in_err-left_true-clause-refused
returns-in_err-left_true-clause-refused c = λ s t are.
    let p = err_from_is_err_and c.from_residual.result c.from_residual.ensures.1 in
    rw (p.1, p.2) (true-told c.args.events s t c.in_err-left_true.field-0.0 (c.in_err-left_true.ensures.refused c.args.events s are.outlines_true are.true_spelled))

pub returns-in_err-left_false-clause-refused : goal.returns-in_err-left_false-clause-refused
returns-in_err-left_false-clause-refused c = λ s t are.
    let p = err_from_is_err_and c.from_residual-in_err-left_false.result c.from_residual-in_err-left_false.ensures.1 in
    let can = c.in_ok-left_true.ensures.can c.args.events s are.outlines_true are.true_spelled in
    rw (p.1, p.2) (false-told c.args.events s t can c.in_err-left_false.field-0.0 (c.in_err-left_false.ensures.refused c.args.events t are.outlines_false are.false_spelled))

pub returns-clause-trimmed : goal.returns-clause-trimmed
returns-clause-trimmed c = λ s t are.
    let left_t = c.in_ok-left_true.ensures.trimmed c.args.events s are.outlines_true are.true_spelled in
    let left_f = c.in_ok-left_false.ensures.trimmed c.args.events t are.outlines_false are.false_spelled in
    sections-left c.args.events c.args.on_true c.args.on_false c.outline_with.result c.outline_with-2.result c.in_ok-left_true.left_true c.in_ok-left_false.left_false s t left_t left_f
    c.outline_with.ensures.kind c.outline_with.ensures.text c.outline_with-2.ensures.kind c.outline_with-2.ensures.text c.in_ok-print_outline.field-0.items c.in_ok-print_outline.ensures.text

pub returns-clause-can : goal.returns-clause-can
returns-clause-can c = λ s t are.
    both-can c.args.events s t (c.in_ok-left_true.ensures.can c.args.events s are.outlines_true are.true_spelled) (c.in_ok-left_false.ensures.can c.args.events t are.outlines_false are.false_spelled)

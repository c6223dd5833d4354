use Rattle.std.proofs.Common.{arith}
use Rattle.skew_cli.proofs.TrimmedTexts.{short-sections, some-sections, verdicts-can, verdicts-refused, verdicts-trimmed, walk-can, walk-left}
use Rattle.skew_cli.proofs.trim.trimmed_report.Goals as goal

pub trimmed_verdicts-requires-clause-true_short : goal.trimmed_verdicts-requires-clause-true_short
trimmed_verdicts-requires-clause-true_short c =
    let (bytes, few, is) = rw c.in-Verdicts.is at c.requires.whole in
    let within = (short-sections bytes c.in-Verdicts.events c.in-Verdicts.on_true c.in-Verdicts.on_false is).0 in
    omega (arith, few, within)

pub trimmed_verdicts-requires-clause-false_short : goal.trimmed_verdicts-requires-clause-false_short
trimmed_verdicts-requires-clause-false_short c =
    let (bytes, few, is) = rw c.in-Verdicts.is at c.requires.whole in
    let within = (short-sections bytes c.in-Verdicts.events c.in-Verdicts.on_true c.in-Verdicts.on_false is).1 in
    omega (arith, few, within)

pub trimmed_verdicts-requires-clause-some : goal.trimmed_verdicts-requires-clause-some
trimmed_verdicts-requires-clause-some c =
    let (bytes, few, is) = rw c.in-Verdicts.is at c.requires.whole in
    some-sections bytes c.in-Verdicts.events c.in-Verdicts.on_true c.in-Verdicts.on_false is

pub returns-in_ok-print_outline-in-Inconsistent-clause-trimmed : goal.returns-in_ok-print_outline-in-Inconsistent-clause-trimmed
returns-in_ok-print_outline-in-Inconsistent-clause-trimmed c = λ r out spelled.
    let printed = c.in_ok-print_outline-in-Inconsistent in
    walk-left c.in-Inconsistent.events c.in-Inconsistent.count c.in-Inconsistent.text.now r (rw c.in-Inconsistent.is at out) printed.field-0.items (printed.ensures.text r out)

pub returns-in_ok-print_outline-in-Inconsistent-clause-can : goal.returns-in_ok-print_outline-in-Inconsistent-clause-can
returns-in_ok-print_outline-in-Inconsistent-clause-can c = λ r out spelled.
    walk-can c.in-Inconsistent.events c.in-Inconsistent.count c.in-Inconsistent.text.now r (rw c.in-Inconsistent.is at out)

pub returns-in-Verdicts-clause-trimmed : goal.returns-in-Verdicts-clause-trimmed
returns-in-Verdicts-clause-trimmed c =
    rw c.in-Verdicts.is (verdicts-trimmed c.in-Verdicts.events c.in-Verdicts.on_true c.in-Verdicts.on_false c.trimmed_verdicts.result (λ text. text.items) c.trimmed_verdicts.ensures.trimmed)

pub returns-in-Verdicts-clause-can : goal.returns-in-Verdicts-clause-can
returns-in-Verdicts-clause-can c =
    rw c.in-Verdicts.is (verdicts-can c.in-Verdicts.events c.in-Verdicts.on_true c.in-Verdicts.on_false c.trimmed_verdicts.result c.trimmed_verdicts.ensures.can)

pub returns-in-Verdicts-clause-refused : goal.returns-in-Verdicts-clause-refused
returns-in-Verdicts-clause-refused c =
    rw c.in-Verdicts.is (verdicts-refused c.trimmed_verdicts.result c.in-Verdicts.events c.in-Verdicts.on_true c.in-Verdicts.on_false c.trimmed_verdicts.ensures.refused)

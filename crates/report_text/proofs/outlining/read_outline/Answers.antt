use Rattle.std.proofs.Common.{◌<◌, ◌≡◌, arith, inr, length, subst, sym, Err}
use Rattle.std.proofs.lemmas.Bool.Decides.{nat_tests}
use Rattle.report_text.specs.ReportOf.{ReportOf}
use Rattle.report_text.proofs.Unambiguous.{faulty-after, faulty-stopped, whole-text}
use Rattle.report_text.proofs.outlining.read_outline.Goals as goal

pub returns-then-is_empty : goal.returns-then-is_empty
returns-then-is_empty c =
    let o = c.in-Ok.ensures in
    let rest = c.in-Ok.rest.now in
    let none : length rest ≡ 0 = let test = c.if-is_empty.true in let is = c.is_empty.ensures in grind (arith, nat_tests) in
    record { answer = record { value = o.value; outlined = o.outlined; is = whole-text c.args.bytes.now o.value rest o.front none } }

pub returns-else-is_empty : goal.returns-else-is_empty
returns-else-is_empty c =
    let bytes = c.args.bytes.now in
    let o = c.in-Ok.ensures in
    let rest = c.in-Ok.rest.now in
    let some : 0 < length rest = let test = c.if-is_empty.false in let is = c.is_empty.ensures in grind (arith, nat_tests) in
    record { answer = inr (subst (λ f. ReportOf bytes (Err f)) (sym c.fault_at.ensures) (faulty-after bytes o.value rest o.front (omega (arith, some)))) }

pub returns-in-Err-Syntax : goal.returns-in-Err-Syntax
returns-in-Err-Syntax c =
    let bytes = c.args.bytes.now in
    let stopped = rw c.in-Err-Syntax.field-0-is at c.in-Err-Syntax.ensures in
    record { answer = inr (subst (λ f. ReportOf bytes (Err f)) (sym c.fault_at-in-Err-Syntax.ensures) (faulty-stopped bytes c.in-Err-Syntax.left stopped)) }

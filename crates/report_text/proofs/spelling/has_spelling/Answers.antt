use Rattle.std.proofs.Common.{◌↔◌, IfOk, IsTrue, subst, sym}
use Rattle.report_text.specs.Spelled.{IsSpelled}
use Rattle.report_text.proofs.spelling.has_spelling.Goals as goal

pub returns-in-Verdicts : goal.returns-in-Verdicts
returns-in-Verdicts c = record { spelled = subst (λ r. IfOk c.are_verdicts.result (λ b. IsTrue b ↔ IsSpelled r)) (sym c.in-Verdicts.is) c.are_verdicts.ensures }

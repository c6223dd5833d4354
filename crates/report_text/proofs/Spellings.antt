-- Which reports have a spelling, from what their parts have.
use Rattle.std.proofs.Common.{◌↔◌, IfOk, IsTrue, ℕ, Bool, Result, Ok, Err}
use Rattle.proof_log.specs.Spelled.{IsNumber}
use Rattle.report_text.specs.declared.report.Section.{Section}
use Rattle.report_text.specs.Spelled.{AreSpelledVerdicts, IsSpelledSection}

-- where the true section has one, so has the report exactly where the false section has
pub by-second : {E : Type 0} (events : ℕ) (a b : Section) (r : Result Bool E) → IsNumber events → IsSpelledSection events a
    → IfOk r (λ t. IsTrue t ↔ IsSpelledSection events b) → IfOk r (λ t. IsTrue t ↔ AreSpelledVerdicts events a b)
by-second events a b (Ok t) few first second = (λ yes. record { few = few; true_spelled = first; false_spelled = second.0 yes }, λ both. second.1 both.false_spelled)
by-second events a b (Err e) few first second = tt

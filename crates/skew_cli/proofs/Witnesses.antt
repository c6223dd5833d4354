-- The witnesses of a report whose claims are so.
use Rattle.std.proofs.Common.{◌≡◌, refl, Bool, true, false}
use Rattle.std.specs.Prelude.{◌↔◌, IsTrue}
use Rattle.std.proofs.lemmas.Bool.{or_parts}
use Rattle.mt_model.specs.Form.{Form}
use Rattle.mt_model.specs.Log.{Logged}
use Rattle.mt_model.specs.Truth.{IsValue}
use Rattle.report_text.specs.declared.report.Section.{Section}
use Rattle.report_text.specs.declared.report.Section.TheVariants as section
use Rattle.report_text.specs.declared.report.Report.{Report}
use Rattle.report_text.specs.declared.report.Report.TheVariants as report
use Rattle.verdict.specs.Claims.{Claims, SectionClaims}
use Rattle.verdict.specs.Right.{is_unknown, is_witness}
use Rattle.skew_cli.specs.Laws.{HasExactWitnesses}

exact-section : (log : Logged) (f : Form) (v : Bool) (s : Section) → SectionClaims log f v s → is_unknown s ≡ false → IsTrue (is_witness s) ↔ IsValue log f v
exact-section log f v (section.Witness t) claims known = (λ w. claims, λ is. refl)
exact-section log f v (section.Refuted lines) claims known = (λ w. let never : ⊥ = cc in absurd never, λ is. absurd (claims is))
exact-section log f v (section.Unknown lines) claims known = let never : ⊥ = cc in absurd never

pub exact-witnesses : (log : Logged) (f : Form) (r : Report) → Claims log f r → HasExactWitnesses log f r
exact-witnesses log f (report.Inconsistent events steps) claims decided v = (λ w. let never : ⊥ = cc in absurd never, λ is. absurd (claims v is))
exact-witnesses log f (report.Verdicts events on_true on_false) claims decided true = exact-section log f true on_true claims.0 ((or_parts (is_unknown on_true) (is_unknown on_false) decided).0)
exact-witnesses log f (report.Verdicts events on_true on_false) claims decided false = exact-section log f false on_false claims.1 ((or_parts (is_unknown on_true) (is_unknown on_false) decided).1)

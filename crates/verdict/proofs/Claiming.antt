-- What accepted and right reports claim.
use Rattle.std.proofs.Common.{refl, ℕ, Bool, true, false, length}
use Rattle.mt_model.specs.Form.{Form}
use Rattle.mt_model.specs.Laws.{ConflictExcludesTimings}
use Rattle.mt_model.specs.Log.{IsLog, Logged}
use Rattle.proof_check.specs.Laws.{RefutedIsNoValue}
use Rattle.report_text.specs.declared.report.Section.{Section}
use Rattle.report_text.specs.declared.report.Section.TheVariants as section
use Rattle.report_text.specs.declared.report.Report.{Report}
use Rattle.report_text.specs.declared.report.Report.TheVariants as report
use Rattle.verdict.specs.AuditPlace.{Shows, ShowsAll}
use Rattle.verdict.specs.Claims.{Claims, SectionClaims}
use Rattle.verdict.specs.Laws.{AcceptedReportsAreTrue, IsExactSection, RightReportsAreAccepted, RightVerdictsAreExact}
use Rattle.verdict.specs.Right.{IsRightSection, SaysRight}

module _ (excludes : ConflictExcludesTimings) (refutes : RefutedIsNoValue) where
  section_claims : (log : Logged) (f : Form) (conflicts : ℕ) (v : Bool) (s : Section) → IsLog log → Shows log f conflicts v s → SectionClaims log f v s
  section_claims log f conflicts v (section.Witness t) valid shows = record { timing = t; admissible = shows.admissible; value = shows.value }
  section_claims log f conflicts v (section.Refuted lines) valid shows = λ value. refutes log f v lines valid shows value
  section_claims log f conflicts v (section.Unknown lines) valid shows = tt

  all_claims : (log : Logged) (f : Form) (conflicts : ℕ) (r : Report) → IsLog log → ShowsAll log f conflicts r → Claims log f r
  all_claims log f conflicts (report.Inconsistent events steps) valid shown = λ v value. excludes log steps value.timing shown.bounds shown.conflict value.admissible
  all_claims log f conflicts (report.Verdicts events on_true on_false) valid shown = (
    section_claims log f conflicts true on_true valid shown.0,
    section_claims log f conflicts false on_false valid shown.1,
  )

  pub accepted_true : AcceptedReportsAreTrue
  accepted_true log f conflicts r valid accepted = all_claims log f conflicts r valid accepted.shown

right_shows : (log : Logged) (f : Form) (conflicts : ℕ) (v : Bool) (s : Section) → IsRightSection log f conflicts v s → Shows log f conflicts v s
right_shows log f conflicts v (section.Witness t) right = right
right_shows log f conflicts v (section.Refuted lines) right = right.refutes
right_shows log f conflicts v (section.Unknown lines) right = let spends = right.spends in record { derives = spends.derives; count = spends.count }

all_right : (log : Logged) (f : Form) (conflicts : ℕ) (r : Report) → SaysRight log f conflicts r → ShowsAll log f conflicts r
all_right log f conflicts (report.Inconsistent events steps) says = says
all_right log f conflicts (report.Verdicts events on_true on_false) says = (
  right_shows log f conflicts true on_true says.true_right,
  right_shows log f conflicts false on_false says.false_right,
)

pub right_accepted : RightReportsAreAccepted
right_accepted log f conflicts r right = record { events = right.events; shown = all_right log f conflicts r right.says }

-- what a section claims of a value that isn't left open says whether it is one
claims_exact : (log : Logged) (f : Form) (v : Bool) (s : Section) → SectionClaims log f v s → IsExactSection log f v s
claims_exact log f v (section.Witness t) claims known = (λ is. claims, λ value. refl)
claims_exact log f v (section.Refuted lines) claims known = (λ no. absurd (cc), λ value. absurd (claims value))
claims_exact log f v (section.Unknown lines) claims known = absurd (cc)

pub right_exact : AcceptedReportsAreTrue → RightVerdictsAreExact
right_exact true_law log f conflicts on_true on_false valid right =
    let claims =
    true_law log f conflicts (report.Verdicts (length log.rows) on_true on_false) valid
    (record { events = refl; shown = all_right log f conflicts (report.Verdicts (length log.rows) on_true on_false) right }) in
    (claims_exact log f true on_true claims.0, claims_exact log f false on_false claims.1)

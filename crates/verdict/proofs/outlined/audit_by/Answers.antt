use Rattle.std.proofs.Common.{◌≡◌, ◌∙◌, ap, arith, length, subst, sym}
use Rattle.report_text.specs.ReportText.{events_of}
use Rattle.verdict.specs.AuditPlace.{IsAudit}
use Rattle.verdict.proofs.outlined.audit_by.Goals as goal

pub returns-in_ok-table-in-Inconsistent : goal.returns-in_ok-table-in-Inconsistent
returns-in_ok-table-in-Inconsistent c = λ r out spelled.
    let log = c.log-log.result.now in
    let f = c.args.question.now.form in
    let o = rw c.in-Inconsistent.is at out in
    let bounds = rw o.is at spelled in
    let count : c.events_of.result ≡ c.in-Inconsistent.events = c.events_of.ensures r out ∙ ap events_of o.is in
    let same : c.in-Inconsistent.events ≡ length log.rows = omega (arith, count, ap length c.rows.ensures.same) in
    let walk = c.audit_of_bounds.ensures o.steps (record { full = o.full; each = bounds.walk.each; are = o.are }) f c.args.budget c.in-Inconsistent.events same in
    subst (λ l. IsAudit l f c.args.budget r c.audit_of_bounds.result) c.log-log.ensures.log
    (subst (λ x. IsAudit log f c.args.budget x c.audit_of_bounds.result) (sym o.is) walk)

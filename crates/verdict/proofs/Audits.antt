-- What an audit says of a report, by the law that a report has one audit.
use Rattle.std.proofs.Common.{◌≡◌, ◌↔◌, subst, ℕ}
use Rattle.mt_model.specs.Form.{Form}
use Rattle.mt_model.specs.Log.{Logged}
use Rattle.report_text.specs.declared.report.Report.{Report}
use Rattle.verdict.specs.declared.answer.Audit.{Audit}
use Rattle.verdict.specs.declared.answer.Audit.TheVariants as audit
use Rattle.verdict.specs.declared.answer.Part.{Part}
use Rattle.verdict.specs.AuditPlace.{AuditPlace, IsAccepted, IsAudit}
use Rattle.verdict.specs.Laws.{AuditsAreExact}

module _ (log : Logged) (f : Form) (conflicts : ℕ) (exact : AuditsAreExact) (r : Report) (a : Audit) (is : IsAudit log f conflicts r a) where
  pub accepted_iff : (a ≡ audit.Accepted) ↔ IsAccepted log f conflicts r
  accepted_iff = (λ same. subst (IsAudit log f conflicts r) same is, λ accepted. exact log f conflicts r a audit.Accepted is accepted)

  pub refused_iff : (p : Part) (n : ℕ) → (a ≡ audit.Refused p n) ↔ AuditPlace log f conflicts r p n
  refused_iff p n = (λ same. subst (IsAudit log f conflicts r) same is, λ place. exact log f conflicts r a (audit.Refused p n) is place)

-- What a verdict on a formula and a log comes to, where the formula's hosts are in the log.
use Rattle.std.proofs.Common.{◌≡◌, refl, inl, inr, ℕ, List}
use Rattle.std.specs.Prelude.{codes}
use Rattle.mt_model.specs.Form.{Form}
use Rattle.mt_model.specs.Log.{Logged}
use Rattle.report_text.specs.declared.report.Report.{Report}
use Rattle.verdict.specs.declared.answer.Part.{Part}
use Rattle.verdict.specs.AuditPlace.{AuditPlace, IsAccepted}
use Rattle.verdict.specs.Claims.{Claims}
use Rattle.question.specs.Faults.{HasTooManyNodes}
use Rattle.question.specs.Faults.{IsJudged, IsTooLarge}
use Rattle.skew_answers.specs.declared.status.Status.TheVariants as status
use Rattle.skew_answers.specs.Texts.{line}
use Rattle.skew_commands.specs.declared.refusal.Refusal.TheVariants as refusal
use Rattle.skew_cli.specs.AuditOutcome.{AuditOfReport, refused_part}
use Rattle.skew_commands.specs.Refusals.{text_of}
use Rattle.skew_best.specs.SizeTests.{TellsLarge, OnSize}
use Rattle.skew_best.proofs.SizeSteps.{size-refused, size-small}
use Rattle.skew_commands.proofs.Steps.{At}

module _ (log : Logged) (f : Form) where
  pub many-told : HasTooManyNodes log f → TellsLarge f log refusal.Nodes
  many-told h = inl (refl, h.many)

  pub large-told : (n : ℕ) → IsTooLarge log f n → TellsLarge f log (refusal.Size n)
  large-told n h = inr (h.nodes.few, (n, refl, record { size = h.size; large = h.large }))

  module _ (conflicts : ℕ) (r : Report) where
    -- a problem that is too large is refused before the report is judged
    pub audit-large : (n : ℕ) → IsTooLarge log f n → At (OnSize f log (AuditOfReport conflicts f log r)) (refusal.Size n)
    audit-large n h = size-refused f log (AuditOfReport conflicts f log r) (refusal.Size n) n refl (record { size = h.size; large = h.large })

    module _ (judged : IsJudged log f) where
      pub audit-refused : (p : Part) (k : ℕ) → AuditPlace log f conflicts r p k → At (OnSize f log (AuditOfReport conflicts f log r)) (refusal.Part (refused_part p) k)
      audit-refused p k place =
          size-small f log (AuditOfReport conflicts f log r) (line (text_of (refusal.Part (refused_part p) k))) status.Rejected judged.small
          (inr (record { part = p; number = k; place = place; refused = (refl, refl) }))

      pub audit-accepted : (out : List ℕ) → IsAccepted log f conflicts r → Claims log f r → out ≡ line (codes "accepted") → OnSize f log (AuditOfReport conflicts f log r) out status.Zero
      audit-accepted out accepted claims written =
          size-small f log (AuditOfReport conflicts f log r) out status.Zero judged.small
          (inl (record { accepted = accepted; claims = claims; written = written; zero = refl }))

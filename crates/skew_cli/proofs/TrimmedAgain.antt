-- What trimming leaves of a report that an audit accepts.
use Rattle.std.proofs.Common.{sym, subst, inl, inr, ℕ, Bool, true, false, List}
use Rattle.mt_model.specs.Form.{Form}
use Rattle.mt_model.specs.Log.{Logged}
use Rattle.proof_trim.specs.Laws.{CanBeTrimmed, RefutingCanBeTrimmed, TrimsKeepRefuting}
use Rattle.report_text.specs.declared.report.Report.{Report}
use Rattle.report_text.specs.declared.report.Report.TheVariants as report
use Rattle.report_text.specs.declared.report.Section.{Section}
use Rattle.report_text.specs.declared.report.Section.TheVariants as section
use Rattle.proof_log.specs.declared.line.Line.{Line}
use Rattle.verdict.specs.declared.answer.Audit.TheVariants as audit
use Rattle.verdict.specs.AuditPlace.{IsAccepted, Shows}
use Rattle.verdict.specs.Laws.{AuditsAreExact}
use Rattle.skew_commands.specs.declared.refusal.ReportPart.{ReportPart}
use Rattle.skew_commands.specs.declared.refusal.ReportPart.TheVariants as part
use Rattle.skew_cli.specs.TrimLaws.{AcceptedCanTrim, TrimsAreAccepted}
use Rattle.skew_cli.specs.TrimOutcome.{AreUntrimmedAt, CanTrimSection, IsReportTrim, IsSectionTrim, IsUntrimmedAt}

untrimmed-never : (lines : List Line) → CanBeTrimmed lines → (n : ℕ) → AreUntrimmedAt lines n → ⊥
untrimmed-never lines can n (inl none) = can.some none.0
untrimmed-never lines can n (inr first) = can.back n first

module _ (keeps : TrimsKeepRefuting) (refuting_can : RefutingCanBeTrimmed) (log : Logged) (f : Form) (conflicts : ℕ) where
  shows-trimmed : (v : Bool) (s t : Section) → IsSectionTrim s t → Shows log f conflicts v s → Shows log f conflicts v t
  shows-trimmed v (section.Witness times) t trim shown = subst (Shows log f conflicts v) (sym trim) shown
  shows-trimmed v (section.Refuted lines) t trim shown = subst (Shows log f conflicts v) (sym trim.2) (keeps lines trim.0 trim.1 log f v shown)
  shows-trimmed v (section.Unknown lines) t trim shown = subst (Shows log f conflicts v) (sym trim) shown

  shown-can : (v : Bool) (s : Section) → Shows log f conflicts v s → CanTrimSection s
  shown-can v (section.Witness times) shown n untrimmed = untrimmed
  shown-can v (section.Refuted lines) shown n untrimmed = untrimmed-never lines (refuting_can log f v lines shown) n untrimmed
  shown-can v (section.Unknown lines) shown n untrimmed = untrimmed

  accepted-trimmed : (r t : Report) → IsReportTrim r t → IsAccepted log f conflicts r → IsAccepted log f conflicts t
  accepted-trimmed (report.Inconsistent events steps) t trim accepted = subst (IsAccepted log f conflicts) (sym trim) accepted
  accepted-trimmed (report.Verdicts events on_true on_false) t trim accepted =
      let shown = accepted.shown in
      subst (IsAccepted log f conflicts) (sym trim.is) (record {
        events = accepted.events;
        shown = (shows-trimmed true on_true trim.new_true trim.true_trimmed shown.0, shows-trimmed false on_false trim.new_false trim.false_trimmed shown.1);
      })

  accepted-can : (r : Report) → IsAccepted log f conflicts r → (p : ReportPart) (n : ℕ) → IsUntrimmedAt r p n → ⊥
  accepted-can (report.Inconsistent events steps) accepted p n untrimmed = untrimmed
  accepted-can (report.Verdicts events on_true on_false) accepted part.OnTrue n untrimmed = let shown = accepted.shown in shown-can true on_true shown.0 n untrimmed
  accepted-can (report.Verdicts events on_true on_false) accepted part.OnFalse n untrimmed = let shown = accepted.shown in shown-can false on_false shown.1 n untrimmed.false_untrimmed
  accepted-can (report.Verdicts events on_true on_false) accepted part.Events n untrimmed = untrimmed
  accepted-can (report.Verdicts events on_true on_false) accepted part.Inconsistent n untrimmed = untrimmed

pub accepted-can-trim : TrimsKeepRefuting → RefutingCanBeTrimmed → AcceptedCanTrim
accepted-can-trim = accepted-can

pub trims-accepted : TrimsKeepRefuting → RefutingCanBeTrimmed → AuditsAreExact → TrimsAreAccepted
trims-accepted keeps refuting_can exact log f conflicts r t trim accepted =
    let kept = accepted-trimmed keeps refuting_can log f conflicts r t trim accepted in
    record {
      accepted = kept;
      none = λ p n place. (let same = exact log f conflicts t audit.Accepted (audit.Refused p n) kept place in let never : ⊥ = cc in absurd never);
    }

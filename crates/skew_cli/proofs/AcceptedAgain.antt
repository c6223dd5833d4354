-- What `check` wrote, as `audit` reads it.
use Rattle.std.proofs.Common.{◌∙◌, sym, subst, inl, inr, ℕ, List, Ok}
use Rattle.std.specs.Prelude.{codes}
use Rattle.mt_model.specs.Form.{Form}
use Rattle.mt_model.specs.Log.{Logged}
use Rattle.mtl_parse.specs.Laws.{TextsAreUnambiguous}
use Rattle.report_text.specs.declared.report.Report.{Report}
use Rattle.report_text.specs.Laws.{BytesAreUnambiguous, TextsReadBack}
use Rattle.report_text.specs.ReportOf.{ReportOf}
use Rattle.verdict.specs.declared.answer.Audit.TheVariants as audit
use Rattle.verdict.specs.Claims.{Claims}
use Rattle.verdict.specs.Laws.{AuditsAreExact, RightReportsAreAccepted}
use Rattle.verdict.specs.Right.{IsRight}
use Rattle.skew_answers.specs.declared.status.Status.{Status}
use Rattle.skew_answers.specs.declared.status.Status.TheVariants as status
use Rattle.skew_cli.specs.declared.limits.TheConstants.{REPORT_LIMIT}
use Rattle.skew_commands.specs.declared.refusal.Named.TheVariants as named
use Rattle.skew_commands.specs.declared.refusal.Refusal.TheVariants as refusal
use Rattle.skew_cli.specs.AuditOutcome.{AuditOfLog, AuditOfReport, refused_part}
use Rattle.skew_cli.specs.CheckOutcome.{CheckOfLog, Checked}
use Rattle.skew_cli.specs.Laws.{AcceptedFilesAreTrue, ChecksAreAccepted}
use Rattle.skew_cli.specs.Outcome.{Says}
use Rattle.skew_commands.specs.Reads.{IsQuestion}
use Rattle.skew_best.specs.SizeTests.{OnSize}
use Rattle.skew_cli.specs.ReportTests.{OnReport}
use Rattle.skew_commands.specs.Tests.{OnFile, OnNodes}
use Rattle.skew_best.proofs.Passing.{pass-file, pass-hosts, pass-nodes, pass-question, pass-size, too-long}
use Rattle.skew_best.proofs.Reaching.{reach-file, reach-hosts, reach-nodes, reach-question, reach-size, refuses-no_verdict}
use Rattle.skew_cli.proofs.ReportSteps.{pass-report, reach-report}

zero-claims : (conflicts : ℕ) (f : Form) (log : Logged) (r : Report) (out : List ℕ) → AuditOfReport conflicts f log r out status.Zero → Claims log f r
zero-claims conflicts f log r out (inl a) = a.claims
zero-claims conflicts f log r out (inr b) = absurd (refuses-no_verdict (refusal.Part (refused_part b.part) b.number) out status.Zero tt b.refused)

-- the report that was accepted claims what is so
pub accepted-true : AcceptedFilesAreTrue
accepted-true files conflicts formula log name out h =
    let s = status.Zero in
    let q = reach-question out s tt files formula log (AuditOfLog files conflicts name) h in
    let f = q.form in
    let l = q.logged in
    let report = λ (bytes : List ℕ). OnReport bytes (λ r. OnSize f l (AuditOfReport conflicts f l r)) in
    let hosts = reach-hosts out s tt q.text f l (OnNodes f (OnFile files name REPORT_LIMIT named.Report report)) q.next in
    let nodes = reach-nodes out s tt f (OnFile files name REPORT_LIMIT named.Report report) hosts.1 in
    let file = reach-file out s tt files name REPORT_LIMIT named.Report report nodes.1 in
    let read = reach-report out s tt file.file (λ r. OnSize f l (AuditOfReport conflicts f l r)) file.next in
    let small = reach-size out s tt f l (AuditOfReport conflicts f l read.0) read.2 in
    record {
      text = q.text;
      form = f;
      logged = l;
      question = q.question;
      bytes = file.file;
      held = file.held;
      report = read.0;
      read = read.1;
      claims = zero-claims conflicts f l read.0 out small.1;
    }

-- a right report is not refused
right-accepted : AuditsAreExact → RightReportsAreAccepted → (conflicts : ℕ) (f : Form) (log : Logged) (r : Report) (out : List ℕ) (s : Status) → IsRight log f conflicts r → AuditOfReport conflicts f log r out s → Says (codes "accepted") status.Zero out s
right-accepted exact accepts conflicts f log r out s right (inl a) = (a.written, a.zero)
right-accepted exact accepts conflicts f log r out s right (inr b) =
    let one = exact log f conflicts r audit.Accepted (audit.Refused b.part b.number) (accepts log f conflicts r right) b.place in
    let never : ⊥ = cc in
    absurd never

pub checks-accepted : TextsAreUnambiguous → BytesAreUnambiguous → TextsReadBack → AuditsAreExact → RightReportsAreAccepted → ChecksAreAccepted
checks-accepted texts bytes back exact accepts files others conflicts formula log name written out found s checked verdict holds audited =
    let q = reach-question written found verdict files formula log (CheckOfLog conflicts) checked in
    let f = q.form in
    let l = q.logged in
    let hosts = reach-hosts written found verdict q.text f l (OnNodes f (OnSize f l (Checked conflicts f l))) q.next in
    let nodes = reach-nodes written found verdict f (OnSize f l (Checked conflicts f l)) hosts.1 in
    let small = reach-size written found verdict f l (Checked conflicts f l) nodes.1 in
    let c = small.1 in
    let same : IsQuestion others formula log q.text f l =
    record {
      text_held = holds.formula_same ∙ q.question.text_held;
      text_within = q.question.text_within;
      formula_read = q.question.formula_read;
      file = q.question.file;
      file_held = holds.log_same ∙ q.question.file_held;
      file_within = q.question.file_within;
      log_read = q.question.log_read;
    } in
    let report = λ (bytes : List ℕ). OnReport bytes (λ r. OnSize f l (AuditOfReport conflicts f l r)) in
    let on_hosts = pass-question out s texts others formula log (AuditOfLog others conflicts name) q.text f l same audited in
    let on_nodes = pass-hosts out s q.text f l (OnNodes f (OnFile others name REPORT_LIMIT named.Report report)) hosts.0 on_hosts in
    let on_file = pass-nodes out s f (OnFile others name REPORT_LIMIT named.Report report) nodes.0 on_nodes in
    let reads : ReportOf written (Ok c.report) = subst (λ w. ReportOf w (Ok c.report)) (sym c.written) (back c.report c.right.spelled) in
    record {
      accepted = λ within.
          let on_report = pass-file out s others name REPORT_LIMIT named.Report report written holds.report within on_file in
          let on_size = pass-report out s bytes written (λ r. OnSize f l (AuditOfReport conflicts f l r)) c.report reads on_report in
          right-accepted exact accepts conflicts f l c.report out s c.right (pass-size out s f l (AuditOfReport conflicts f l c.report) small.0 on_size);
      too_long = λ longer. too-long out s others name REPORT_LIMIT named.Report report written holds.report longer on_file;
    }

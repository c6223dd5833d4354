use Rattle.std.proofs.Common.{ℕ, List, Err, inl, inr}
use Rattle.std.proofs.lemmas.Result.{err_from_is_err_and}
use Rattle.mt_model.specs.Form.{Form, form_of}
use Rattle.mt_model.specs.Log.{Logged}
use Rattle.skew_answers.specs.declared.status.Status.{Status}
use Rattle.skew_cli.specs.declared.limits.TheConstants.{REPORT_LIMIT}
use Rattle.skew_commands.specs.declared.refusal.Named.TheVariants as named
use Rattle.skew_cli.specs.AuditOutcome.{AuditOfReport}
use Rattle.skew_best.specs.SizeTests.{OnSize}
use Rattle.skew_cli.specs.ReportTests.{TellsFaultyLine, OnReport}
use Rattle.skew_cli.proofs.ReportSteps.{report-read, report-refused}
use Rattle.skew_commands.proofs.Possible.{third-long, third-read, third-uncounted, third-unread}
use Rattle.skew_commands.proofs.Steps.{At, gives-weaker, reason-weaker, third-given, third-too_long}
use Rattle.skew_cli.proofs.audit.audit_of_question.Goals as goal

-- what is answered for a report's file
abbrev AuditOfFile : ℕ → Form → Logged → List ℕ → List ℕ → Status → Type 0
AuditOfFile conflicts f log file = OnReport file (λ r. OnSize f log (AuditOfReport conflicts f log r))

pub returns-in_err-file-clause-outcome : goal.returns-in_err-file-clause-outcome
returns-in_err-file-clause-outcome g c = λ tells.
    let p = err_from_is_err_and c.from_residual-in_err-file.result c.from_residual-in_err-file.ensures.1 in
    let q = c.args.question.now in
    let f = form_of q.formula in
    rw (p.1, p.2)
    (third-too_long (g.S.Shelf.files c.args.shelf.now) c.args.report.now REPORT_LIMIT named.Report q.text.items f q.log
    (AuditOfFile c.args.conflicts f q.log) c.in_ok-known_hosts.ensures.known c.in_ok-few_nodes.ensures.few
    tells c.in_err-file.field-0.0 c.in_err-file.ensures.refused)

pub returns-in_err-outline-clause-outcome : goal.returns-in_err-outline-clause-outcome
returns-in_err-outline-clause-outcome g c = λ tells.
    let p = err_from_is_err_and c.from_residual-in_err-outline.result c.from_residual-in_err-outline.ensures.1 in
    let q = c.args.question.now in
    let f = form_of q.formula in
    let file = c.in_ok-file.file.items in
    let stop = c.in_err-outline.field-0.0 in
    let refused = rw c.deref-2.ensures.value at c.in_err-outline.ensures.refused in
    rw (p.1, p.2)
    (third-given (g.S.Shelf.files c.args.shelf.now) c.args.report.now REPORT_LIMIT named.Report q.text.items f q.log
    (AuditOfFile c.args.conflicts f q.log) c.in_ok-known_hosts.ensures.known c.in_ok-few_nodes.ensures.few
    file (Err stop) (c.in_ok-file.ensures.whole tells) c.in_ok-file.ensures.within
    (reason-weaker stop (TellsFaultyLine file) (At (AuditOfFile c.args.conflicts f q.log file)) (report-refused file (λ r. OnSize f q.log (AuditOfReport c.args.conflicts f q.log r))) refused))

pub returns-clause-outcome : goal.returns-clause-outcome
returns-clause-outcome g c = λ tells.
    let q = c.args.question.now in
    let f = form_of q.formula in
    let file = c.in_ok-file.file.items in
    let o = rw c.deref-2.ensures.value at c.in_ok-outline.ensures.outline in
    let report = o.value in
    let reads = o.is in
    third-given (g.S.Shelf.files c.args.shelf.now) c.args.report.now REPORT_LIMIT named.Report q.text.items f q.log
    (AuditOfFile c.args.conflicts f q.log) c.in_ok-known_hosts.ensures.known c.in_ok-few_nodes.ensures.few
    file c.audit_of_report.result (c.in_ok-file.ensures.whole tells) c.in_ok-file.ensures.within
    (gives-weaker c.audit_of_report.result (OnSize f q.log (AuditOfReport c.args.conflicts f q.log report)) (AuditOfFile c.args.conflicts f q.log file)
    (λ out s. report-read file (λ r. OnSize f q.log (AuditOfReport c.args.conflicts f q.log r)) report out s reads) (c.audit_of_report.ensures.outcome report o.outlined o.is.spelled))

pub returns-in_err-known_hosts-clause-possible : goal.returns-in_err-known_hosts-clause-possible
returns-in_err-known_hosts-clause-possible g c =
    let p = err_from_is_err_and c.from_residual.result c.from_residual.ensures.1 in
    let q = c.args.question.now in
    let f = form_of q.formula in
    let refused = rw c.deref.ensures.value at c.in_err-known_hosts.ensures.refused in
    rw (p.1, p.2) (third-unread REPORT_LIMIT named.Report q.text.items f q.log (AuditOfFile c.args.conflicts f q.log) c.in_err-known_hosts.field-0.0 refused)

pub returns-in_err-few_nodes-clause-possible : goal.returns-in_err-few_nodes-clause-possible
returns-in_err-few_nodes-clause-possible g c =
    let p = err_from_is_err_and c.from_residual-in_err-few_nodes.result c.from_residual-in_err-few_nodes.ensures.1 in
    let q = c.args.question.now in
    let f = form_of q.formula in
    rw (p.1, p.2)
    (third-uncounted REPORT_LIMIT named.Report q.text.items f q.log
    (AuditOfFile c.args.conflicts f q.log) c.in_ok-known_hosts.ensures.known c.in_err-few_nodes.field-0.0 c.in_err-few_nodes.ensures.refused)

pub returns-in_err-file-clause-possible : goal.returns-in_err-file-clause-possible
returns-in_err-file-clause-possible g c =
    let p = err_from_is_err_and c.from_residual-in_err-file.result c.from_residual-in_err-file.ensures.1 in
    let q = c.args.question.now in
    let f = form_of q.formula in
    rw (p.1, p.2)
    (third-long REPORT_LIMIT named.Report q.text.items f q.log
    (AuditOfFile c.args.conflicts f q.log) c.in_ok-known_hosts.ensures.known c.in_ok-few_nodes.ensures.few c.in_err-file.field-0.0 c.in_err-file.ensures.too_long)

pub returns-in_err-outline-clause-possible : goal.returns-in_err-outline-clause-possible
returns-in_err-outline-clause-possible g c =
    let p = err_from_is_err_and c.from_residual-in_err-outline.result c.from_residual-in_err-outline.ensures.1 in
    let q = c.args.question.now in
    let f = form_of q.formula in
    let file = c.in_ok-file.file.items in
    let stop = c.in_err-outline.field-0.0 in
    let refused = rw c.deref-2.ensures.value at c.in_err-outline.ensures.refused in
    rw (p.1, p.2) (third-read REPORT_LIMIT named.Report q.text.items f q.log (AuditOfFile c.args.conflicts f q.log) c.in_ok-known_hosts.ensures.known c.in_ok-few_nodes.ensures.few
    file (Err stop) c.in_ok-file.ensures.within
    (reason-weaker stop (TellsFaultyLine file) (At (AuditOfFile c.args.conflicts f q.log file)) (report-refused file (λ r. OnSize f q.log (AuditOfReport c.args.conflicts f q.log r))) refused))

pub returns-clause-possible : goal.returns-clause-possible
returns-clause-possible g c =
    let q = c.args.question.now in
    let f = form_of q.formula in
    let file = c.in_ok-file.file.items in
    let o = rw c.deref-2.ensures.value at c.in_ok-outline.ensures.outline in
    let report = o.value in
    let reads = o.is in
    third-read REPORT_LIMIT named.Report q.text.items f q.log (AuditOfFile c.args.conflicts f q.log) c.in_ok-known_hosts.ensures.known c.in_ok-few_nodes.ensures.few
    file c.audit_of_report.result c.in_ok-file.ensures.within
    (gives-weaker c.audit_of_report.result (OnSize f q.log (AuditOfReport c.args.conflicts f q.log report)) (AuditOfFile c.args.conflicts f q.log file)
    (λ out s. report-read file (λ r. OnSize f q.log (AuditOfReport c.args.conflicts f q.log r)) report out s reads) (c.audit_of_report.ensures.outcome report o.outlined o.is.spelled))

pub returns-in_err-known_hosts-clause-openings : goal.returns-in_err-known_hosts-clause-openings
returns-in_err-known_hosts-clause-openings g c = (0, λ past told. told)

pub returns-in_err-few_nodes-clause-openings : goal.returns-in_err-few_nodes-clause-openings
returns-in_err-few_nodes-clause-openings g c = (0, λ past told. told)

pub returns-in_err-file-clause-openings : goal.returns-in_err-file-clause-openings
returns-in_err-file-clause-openings g c = (1, c.in_err-file.ensures.once)

pub returns-in_err-outline-clause-openings : goal.returns-in_err-outline-clause-openings
returns-in_err-outline-clause-openings g c = (1, c.in_ok-file.ensures.once)

pub returns-clause-openings : goal.returns-clause-openings
returns-clause-openings g c = (1, c.in_ok-file.ensures.once)

pub returns-in_err-known_hosts-clause-in_turn : goal.returns-in_err-known_hosts-clause-in_turn
returns-in_err-known_hosts-clause-in_turn g c = inl (0, λ past told. told)

pub returns-in_err-few_nodes-clause-in_turn : goal.returns-in_err-few_nodes-clause-in_turn
returns-in_err-few_nodes-clause-in_turn g c = inl (0, λ past told. told)

pub returns-in_err-file-clause-in_turn : goal.returns-in_err-file-clause-in_turn
returns-in_err-file-clause-in_turn g c = inr (c.in_ok-known_hosts.ensures.known, c.in_ok-few_nodes.ensures.few)

pub returns-in_err-outline-clause-in_turn : goal.returns-in_err-outline-clause-in_turn
returns-in_err-outline-clause-in_turn g c = inr (c.in_ok-known_hosts.ensures.known, c.in_ok-few_nodes.ensures.few)

pub returns-clause-in_turn : goal.returns-clause-in_turn
returns-clause-in_turn g c = inr (c.in_ok-known_hosts.ensures.known, c.in_ok-few_nodes.ensures.few)

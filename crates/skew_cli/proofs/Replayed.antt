-- What `replay` answers for the witness of a report.
use Rattle.std.proofs.Common.{sym, inl, inr, ℕ, ◌≤◌, Bool, true, false, List, length, ℤ, arith}
use Rattle.mt_model.specs.Form.{Form}
use Rattle.mt_model.specs.Log.{Logged}
use Rattle.log_read.specs.ValidLogs.{LogsAreValid}
use Rattle.mtl_parse.specs.Laws.{TextsAreUnambiguous}
use Rattle.report_text.specs.declared.report.Report.{Report}
use Rattle.report_text.specs.declared.report.Report.TheVariants as report
use Rattle.report_text.specs.Spelled.{IsSpelledWitness}
use Rattle.verdict.specs.Right.{IsRight, IsWitness}
use Rattle.skew_answers.specs.declared.status.Status.{Status}
use Rattle.skew_answers.specs.Texts.{times_text}
use Rattle.skew_answers.proofs.TimesBack.{times-back, times-short}
use Rattle.skew_commands.specs.declared.limits.TheConstants.{TIMES_LIMIT}
use Rattle.skew_commands.specs.declared.refusal.Named.TheVariants as named
use Rattle.skew_cli.specs.Laws.{IsWitnessOf, WitnessesAreReplayed}
use Rattle.skew_cli.specs.Outcome.{Says}
use Rattle.skew_commands.specs.ReplayOutcome.{ReplayOfLog, ReplayOfTimes, value_status, value_text}
use Rattle.skew_commands.specs.Tests.{OnFile, OnNodes, OnTimes}
use Rattle.skew_best.proofs.Passing.{pass-file, pass-hosts, pass-nodes, pass-question}

module _ (log : Logged) (f : Form) (conflicts : ℕ) where
  -- a witness of a right report is an admissible timing in which the formula has the value
  witness-right : (r : Report) (v : Bool) (t : List ℤ) → IsRight log f conflicts r → IsWitnessOf r v t → IsWitness log f v t
  witness-right (report.Inconsistent events steps) v t right is = absurd is
  witness-right (report.Verdicts events on_true on_false) true t right is = rw is at right.says.true_right
  witness-right (report.Verdicts events on_true on_false) false t right is = rw is at right.says.false_right

  -- it has a time for each row, in the range of times
  witness-spelled : (r : Report) (v : Bool) (t : List ℤ) → IsRight log f conflicts r → IsWitnessOf r v t → IsSpelledWitness (length log.rows) t
  witness-spelled (report.Inconsistent events steps) v t right is = absurd is
  witness-spelled (report.Verdicts events on_true on_false) true t right is = rw (right.events, is) at right.spelled.true_spelled
  witness-spelled (report.Verdicts events on_true on_false) false t right is = rw (right.events, is) at right.spelled.false_spelled

  replay-value : (v : Bool) (t : List ℤ) (out : List ℕ) (s : Status) → IsWitness log f v t → ReplayOfTimes log f t out s → Says (value_text v) (value_status v) out s
  replay-value v t out s is (inl valued) = (rw is.value at valued.written, rw is.value at valued.value)
  replay-value v t out s is (inr broken) = absurd (broken.excluded is.admissible)

  pub times-read : (t : List ℤ) (out : List ℕ) (s : Status) → IsSpelledWitness (length log.rows) t → OnTimes (times_text t) log (ReplayOfTimes log f) out s → ReplayOfTimes log f t out s
  times-read t out s spelled h = rw (sym spelled.full, times-back t spelled.each) at h

pub witnesses-replayed : TextsAreUnambiguous → LogsAreValid → WitnessesAreReplayed
witnesses-replayed texts logs files conflicts formula log name text f l written out found s checked v t q is held h =
    let times = λ (file : List ℕ). OnTimes file l (ReplayOfTimes l f) in
    let on_file = OnFile files name TIMES_LIMIT named.Times times in
    let on_hosts = pass-question out s texts files formula log (ReplayOfLog files name) text f l q.question h in
    let on_nodes = pass-hosts out s text f l (OnNodes f on_file) q.judged.nodes.hosts on_hosts in
    let asked = pass-nodes out s f on_file q.judged.nodes.few on_nodes in
    let spelled = witness-spelled l f conflicts checked.report v t checked.right is in
    let valid = logs q.question.file l q.question.log_read in
    let short : length (times_text t) ≤ TIMES_LIMIT = omega (arith, times-short t spelled.each, spelled.full, valid.few_rows) in
    let on_times = pass-file out s files name TIMES_LIMIT named.Times times (times_text t) held short asked in
    replay-value l f conflicts v t out s (witness-right l f conflicts checked.report v t checked.right is) (times-read l f conflicts t out s spelled on_times)

use Rattle.std.proofs.Common.{ℕ}
use Rattle.std.proofs.lemmas.Result.{err_from_is_err_and}
use Rattle.mt_model.specs.Form.{Form}
use Rattle.mt_model.specs.Log.{Logged}
use Rattle.report_text.specs.declared.report.Report.{Report}
use Rattle.report_text.specs.declared.report.Report.TheVariants as report
use Rattle.verdict.specs.Right.{IsRight}
use Rattle.demo_log.specs.DemoFormula.{demo_formula}
use Rattle.demo_log.specs.DemoLog.{log_of_seed}
use Rattle.skew_words.specs.declared.limits.TheConstants.{DEFAULT_CONFLICTS}
use Rattle.skew_cli.specs.CheckOutcome.{IsWitnessed}
use Rattle.skew_cli.specs.DemoOutcome.{DemoOutcome}
use Rattle.skew_commands.proofs.Steps.{At, reason-weaker}
use Rattle.skew_cli.proofs.demo.demo.Goals as goal

-- no test refuses the demo
pub returns-in_err-report-clause-outcome : goal.returns-in_err-report-clause-outcome
returns-in_err-report-clause-outcome c =
    let p = err_from_is_err_and c.from_residual.result c.from_residual.ensures.1 in
    rw (p.1, p.2) (reason-weaker c.in_err-report.field-0.0 (λ r. ⊥) (At (DemoOutcome c.args.seed)) (λ r never. absurd never) c.in_err-report.ensures.refused)

pub returns-clause-outcome : goal.returns-clause-outcome
returns-clause-outcome c = record {
  report = c.in_ok-report.report;
  right = c.in_ok-report.ensures.right;
  claims = c.in_ok-report.ensures.claims;
  few = c.in_ok-report.ensures.few;
  written = c.in_ok-demo_reply.ensures.text;
  status = c.in_ok-demo_reply.ensures.status;
}

-- a right report has a witness, or is on a log that admits no timing
right-witnessed : (log : Logged) (f : Form) (conflicts : ℕ) (r : Report) → IsRight log f conflicts r → IsWitnessed r
right-witnessed log f conflicts (report.Inconsistent events steps) right = tt
right-witnessed log f conflicts (report.Verdicts events on_true on_false) right = right.says.witnessed

pub demo_reply-requires-clause-witnessed : goal.demo_reply-requires-clause-witnessed
demo_reply-requires-clause-witnessed c = right-witnessed (log_of_seed c.args.seed) demo_formula DEFAULT_CONFLICTS c.in_ok-report.report c.in_ok-report.ensures.right

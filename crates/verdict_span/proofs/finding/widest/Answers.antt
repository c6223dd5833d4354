use Rattle.std.proofs.Common.{subst, IfErr, IfOk, OnOk}
use Rattle.std.proofs.lemmas.Result.{IfOk-weaker}
use Rattle.mt_model.specs.Form.{Form, form_of}
use Rattle.question.specs.Faults.{IsFault, IsJudged}
use Rattle.verdict_span.specs.Widest.{WidestRight}
use Rattle.verdict_span.proofs.finding.widest.Goals as goal

pub returns : goal.returns
returns c =
    let log = c.args.log.now in
    let form = c.in_ok-nodes.ensures.formula in
    let right = subst (λ (f : Form). IfOk c.widest_of.result (WidestRight log f c.args.value c.args.e c.args.to c.args.budget)) form c.widest_of.ensures.right in
    let told = c.right_spans_are_greatest.ensures.greatest in
    record {
      right = right;
      tells = IfOk-weaker c.widest_of.result _ _
          (λ answer. told.tells log (form_of c.args.f.now) c.args.value c.args.e c.args.to c.args.budget answer c.log_is_valid.ensures.valid
          (record { row = c.requires.row; other = c.requires.other; apart = c.requires.apart; room = c.requires.room }) c.requires.some)
          right;
      inconsistent = IfOk-weaker c.widest_of.result _ _ (λ answer. told.exactly log (form_of c.args.f.now) c.args.value c.args.e c.args.to c.args.budget answer) right;
      judged = subst (λ (f : Form). OnOk c.widest_of.result (IsJudged log f)) form c.widest_of.ensures.judged;
      fault = subst (λ (f : Form). IfErr c.widest_of.result (IsFault log f)) form c.widest_of.ensures.fault;
    }

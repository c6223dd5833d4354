use Rattle.std.proofs.Common.{◌∙◌, sym, subst, IfErr, IfOk, OnOk}
use Rattle.std.proofs.lemmas.Result.{IfOk-weaker}
use Rattle.mt_model.specs.Form.{Form, form_of}
use Rattle.least_skew.specs.Faults.{IsAsked, IsFault}
use Rattle.least_skew.specs.Least.{LeastRight}
use Rattle.least_skew.proofs.Widenings.{hosts-at}
use Rattle.least_skew.proofs.finding.least.Goals as goal

-- the hosts are those of the log with the greatest widening
pub invariant_of-aim-clause-hosts : goal.invariant_of-aim-clause-hosts
invariant_of-aim-clause-hosts c =
    let known = rw c.in_ok-widest.ensures.wide at c.in_ok-nodes.ensures.hosts in
    rw c.in_ok-nodes.ensures.formula (sym (hosts-at c.args.log.now _ (form_of c.args.f.now)) ∙ known)

pub returns : goal.returns
returns c =
    let log = c.args.log.now in
    let max = c.args.max in
    let form = c.in_ok-nodes.ensures.formula in
    let right = subst (λ (f : Form). IfOk c.least_of.result (LeastRight log f c.args.value max c.args.budget)) form (rw c.in_ok-widest.ensures.by at c.least_of.ensures.right) in
    let told = c.right_tolerances_are_least.ensures.least in
    record {
      right = right;
      tells = IfOk-weaker c.least_of.result _ _
          (λ answer. told.tells log (form_of c.args.f.now) c.args.value max c.args.budget answer c.log_is_valid.ensures.valid c.requires.skews c.requires.range c.requires.some) right;
      inconsistent = IfOk-weaker c.least_of.result _ _ (λ answer. told.exactly log (form_of c.args.f.now) c.args.value max c.args.budget answer) right;
      asked = subst (λ (f : Form). OnOk c.least_of.result (IsAsked log f max)) form (rw c.in_ok-widest.ensures.by at c.least_of.ensures.asked);
      fault = subst (λ (f : Form). IfErr c.least_of.result (IsFault log f max)) form (rw c.in_ok-widest.ensures.by at c.least_of.ensures.fault);
    }

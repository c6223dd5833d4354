use Rattle.std.proofs.Common.{◌++◌, codes, length}
use Rattle.std.specs.Fmt.{decimal}
use Rattle.mt_model.specs.declared.step.Step.TheVariants as step
use Rattle.report_text.specs.ReportText.{bound_text, ended}
use Rattle.report_text.proofs.Walks.{item-more}
use Rattle.report_text.proofs.printer.push_walk.Goals as goal

pub loop-step-preserved : goal.loop-step-preserved
loop-step-preserved c =
    item-more bound_text c.args.text.now.items c.loop-step.text.items c.push_bound.new.text.items (ended (codes "inconsistent " ++ decimal (length c.args.steps.now))) c.args.steps.now c.loop-step.step-index (step.Low 0) c.loop-step-test.true c.loop-step.invariant c.in_ok-push_bound.ensures

use Rattle.mt_model.specs.declared.step.Step.TheVariants as step
use Rattle.proof_check.specs.Cycles.{bound_edge_of}
use Rattle.verdict.proofs.BoundWalks.{all_walked, more_walked, no_more, none_walked}
use Rattle.verdict.proofs.bounds.walk_of.Goals as goal

pub loop-i-init : goal.loop-i-init
loop-i-init c = none_walked c.args.log.now c.args.count c.args.text.now c.new-walk.result c.new-walk.ensures.count c.new-walk.ensures.room (c.new-walk.ensures.walked (bound_edge_of c.args.log.now))

pub returns-in_default : goal.returns-in_default
returns-in_default c = λ steps are.
    no_more c.args.log.now c.args.count c.args.text.now c.loop-i._i c.loop-i.rest.now c.loop-i.walk c.loop-i-test.true c.loop-i.invariant c.in_default.ensures.bound steps
    are (step.Low 0)

pub loop-i-preserved : goal.loop-i-preserved
loop-i-preserved c =
    more_walked c.args.log.now c.args.count c.args.text.now c.loop-i._i c.loop-i.rest.now c.loop-i.walk c.loop-i-test.true c.loop-i.invariant
    c.in-Some.step c.in-Some.after.now c.in-Some.ensures.bound c.step.new.self c.step.ensures.count c.step.ensures.room c.step.ensures.walked

pub returns : goal.returns
returns c = λ steps are.
    all_walked c.args.log.now c.args.count c.args.text.now c.loop-i._i c.loop-i.rest.now c.loop-i.walk c.loop-i-test.false c.loop-i.invariant steps are

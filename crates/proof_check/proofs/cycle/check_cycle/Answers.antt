use Rattle.std.proofs.Common.{◌≡◌, arith, subst, sym, take}
use Rattle.std.proofs.lemmas.List.{take_all, take_more}
use Rattle.proof_check.specs.Cycles.{bound_edge_of}
use Rattle.proof_check.specs.Walking.{HasCome, HasWalked}
use Rattle.proof_check.proofs.cycle.check_cycle.Goals as goal

pub loop-step-init : goal.loop-step-init
loop-step-init c = (c.new-walk.ensures.walked (bound_edge_of c.args.log.now), c.new-walk.ensures.room)

pub loop-step-preserved : goal.loop-step-preserved
loop-step-preserved c =
    let more = c.then-walk.ensures.walked (bound_edge_of c.args.log.now) (take c.loop-step.step-index c.args.steps.now) _ c.bound_edge.ensures.edge c.loop-step.invariant.0 in
    (subst (λ ss. HasCome (bound_edge_of c.args.log.now) ss c.then-walk.result) (sym (take_more c.args.steps.now c.loop-step.step-index _ c.loop-step-test.true)) more, c.then-walk.ensures.room)

pub returns-clause-accepted : goal.returns-clause-accepted
returns-clause-accepted c =
    let all : take c.loop-step.step-index c.args.steps.now ≡ c.args.steps.now = take_all c.loop-step.step-index c.args.steps.now (omega (arith, c.loop-step-test.false)) in
    c.place.ensures.accepted c.args.log.now c.args.steps.now (subst (λ ss. HasWalked c.args.log.now ss c.loop-step.walk) all c.loop-step.invariant.0)

pub returns-clause-place : goal.returns-clause-place
returns-clause-place c =
    let all : take c.loop-step.step-index c.args.steps.now ≡ c.args.steps.now = take_all c.loop-step.step-index c.args.steps.now (omega (arith, c.loop-step-test.false)) in
    c.place.ensures.place c.args.log.now c.args.steps.now (subst (λ ss. HasWalked c.args.log.now ss c.loop-step.walk) all c.loop-step.invariant.0)

pub returns-clause-excludes : goal.returns-clause-excludes
returns-clause-excludes c =
    let all : take c.loop-step.step-index c.args.steps.now ≡ c.args.steps.now = take_all c.loop-step.step-index c.args.steps.now (omega (arith, c.loop-step-test.false)) in
    c.place.ensures.excludes c.args.log.now c.args.steps.now (subst (λ ss. HasWalked c.args.log.now ss c.loop-step.walk) all c.loop-step.invariant.0)

use Rattle.mt_model.specs.declared.step.Step.TheVariants as step
use Rattle.mt_model.specs.Walks.{edge_of}
use Rattle.proof_log.specs.Reading.{words_after}
use Rattle.proof_check.proofs.WordLemmas.{no_steps_read, steps_more, steps_none, steps_read}
use Rattle.proof_check.proofs.conflict.walked.Goals as goal

pub loop-i-init : goal.loop-i-init
loop-i-init c =
    no_steps_read (edge_of c.args.rules.now.log) c.args.kept.now
    (words_after c.args.words.now) c.args.count c.new-walk.result c.new-walk.ensures.count c.new-walk.ensures.room
    (c.new-walk.ensures.walked (edge_of c.args.rules.now.log))

pub returns-in_default-clause-walked : goal.returns-in_default-clause-walked
returns-in_default-clause-walked c = λ steps spelled all is.
    steps_none (edge_of c.args.rules.now.log) c.args.kept.now (words_after c.args.words.now) c.args.count c.loop-i._i
    (words_after c.loop-i.rest.now) c.loop-i.walk c.loop-i.kept c.loop-i-test.true c.loop-i.invariant c.in_default.ensures.step steps spelled all is
    (step.Low 0)

pub loop-i-preserved : goal.loop-i-preserved
loop-i-preserved c =
    steps_more (edge_of c.args.rules.now.log) c.args.kept.now (words_after c.args.words.now) c.args.count c.loop-i._i
    (words_after c.loop-i.rest.now) c.loop-i.walk c.loop-i.kept c.loop-i-test.true c.loop-i.invariant
    c.in-Some.step (words_after c.in-Some.after.now) c.in-Some.ensures.step c.then-walk.result c.then-walk.ensures.count c.then-walk.ensures.room
    (λ steps come. c.then-walk.ensures.walked (edge_of c.args.rules.now.log) steps c.in-Some.step (rw c.log.ensures.log at c.step_edge.ensures.edge) come)
    c.push_negation.new.kept c.in_ok-push_negation.ensures.closed c.in_ok-push_negation.ensures.few c.in_ok-push_negation.ensures.negation

pub returns-clause-walked : goal.returns-clause-walked
returns-clause-walked c = λ steps spelled all is.
    steps_read (edge_of c.args.rules.now.log) c.args.kept.now (words_after c.args.words.now) c.args.count c.loop-i._i
    (words_after c.loop-i.rest.now) c.loop-i.walk c.loop-i.kept c.loop-i-test.false c.loop-i.invariant steps spelled all is

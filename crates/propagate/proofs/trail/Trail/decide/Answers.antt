use Rattle.propagate.proofs.ReachLemmas.{if_kept_from, if_refused_from}
use Rattle.propagate.proofs.ClosedLemmas.{closed_decided}
use Rattle.propagate.proofs.StepLemmas.{step_decided, lacks_decided}
use Rattle.propagate.proofs.trail.Trail.decide.Goals as goal

pub returns-clause-in_step : goal.returns-clause-in_step
returns-clause-in_step c = if_kept_from c.push_edge.result c.push_edge.ensures.kept (λ kept db base step.
    rw (c.open.ensures.trail, c.mark.ensures.count)
    (step_decided c.args.self.now db c.args.links.now base c.args.graph.now c.push_edge.new.graph c.open.ensures.before c.push_edge.ensures.limits step c.args.lit kept))

pub returns-clause-lacks_last : goal.returns-clause-lacks_last
returns-clause-lacks_last c = if_refused_from c.push_edge.result c.push_edge.ensures.same (λ same db base step.
    rw (c.open.ensures.trail, c.mark.ensures.count)
    (lacks_decided c.args.self.now db c.args.links.now base c.args.graph.now c.push_edge.new.graph c.open.ensures.before c.push_edge.ensures.limits step c.args.lit same))

pub returns-clause-closed : goal.returns-clause-closed
returns-clause-closed c = λ db below here. rw c.open.ensures.trail (closed_decided c.args.self.now c.args.lit c.mark.result db below here)

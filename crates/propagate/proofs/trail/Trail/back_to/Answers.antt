use Rattle.std.proofs.Common.{◌≡◌, ◌<◌, ◌≤◌, ◌∙◌, ap, sym, take, length, arith}
use Rattle.propagate.specs.Trails.{mark_of}
use Rattle.propagate.proofs.TrailLemmas.{cut_at_top}
use Rattle.propagate.proofs.ClosedLemmas.{closed_cut}
use Rattle.propagate.proofs.StepLemmas.{step_cut, lacks_cut}
use Rattle.propagate.proofs.trail.Trail.back_to.Goals as goal

pub returns-then-level-clause-in_step : goal.returns-then-level-clause-in_step
returns-then-level-clause-in_step c = λ db links base step.
    let t = c.args.self.now in
    let g = c.args.graph.now in
    let op : c.args.level < length t.levels = omega (arith, c.if-level.true, c.level.ensures.level) in
    let popped : c.pop_to.new.self.edges ≡ take (mark_of t.levels c.args.level) g.edges = c.pop_to.ensures.edges ∙ ap (λ k. take k g.edges) c.mark.ensures.mark in
    rw c.cut.ensures.trail (step_cut t db links base g c.pop_to.new.self c.args.level op c.cut.ensures.before c.pop_to.ensures.limits popped step)

pub returns-then-level-clause-after_refusal : goal.returns-then-level-clause-after_refusal
returns-then-level-clause-after_refusal c = λ lower db links base lacks.
    let t = c.args.self.now in
    let g = c.args.graph.now in
    let popped : c.pop_to.new.self.edges ≡ take (mark_of t.levels c.args.level) g.edges = c.pop_to.ensures.edges ∙ ap (λ k. take k g.edges) c.mark.ensures.mark in
    rw c.cut.ensures.trail (lacks_cut t db links base g c.pop_to.new.self c.args.level lower c.cut.ensures.before c.pop_to.ensures.limits popped lacks)

pub returns-else-level-clause-trail : goal.returns-else-level-clause-trail
returns-else-level-clause-trail c =
    let t = c.args.self.now in
    let top : length t.levels ≤ c.args.level = omega (arith, c.if-level.false, c.level.ensures.level) in
    sym (cut_at_top t c.args.level c.level.ensures.trail top)

pub returns-then-level-clause-closed : goal.returns-then-level-clause-closed
returns-then-level-clause-closed c = λ db below. rw c.cut.ensures.trail (closed_cut c.args.self.now c.args.level db below)

pub returns-else-level-clause-closed : goal.returns-else-level-clause-closed
returns-else-level-clause-closed c = λ db below. rw (returns-else-level-clause-trail c) (closed_cut c.args.self.now c.args.level db below)

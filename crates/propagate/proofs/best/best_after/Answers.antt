use Rattle.std.proofs.Common.{◌≢◌, ◌∙◌, refl, Some}
use Rattle.clause_db.specs.Literals.{negation}
use Rattle.propagate.proofs.BestLemmas.{top_best}
use Rattle.propagate.proofs.PlaceLemmas.{held_assigned, held_at}
use Rattle.propagate.proofs.best.best_after.Goals as goal

pub level_of-requires : goal.level_of-requires
level_of-requires c = record { assigned = held_assigned c.args.trail.now.entries (negation c.args.fallen) c.var.result c.var.ensures.variable c.requires.fallen }

pub returns-then-level_of-level-clause-best : goal.returns-then-level_of-level-clause-best
returns-then-level_of-level-clause-best c =
    let t = c.args.trail.now in
    let at = held_at t (negation c.args.fallen) c.var.result c.level_of.result c.level.ensures.trail c.var.ensures.variable c.requires.fallen c.level_of.ensures.level in
    let apart : Some c.args.beside ≢ Some c.args.fallen = λ same. c.requires.apart cc in
    top_best t c.args.clause.now (Some c.args.beside) c.args.fallen c.level.ensures.trail c.requires.has apart
    (rw (c.if-level_of-level.true ∙ c.level.ensures.level) at at) (c.in_default.ensures.none refl)

use Rattle.axiom_rules.proofs.ShapeLemmas.{shape-and, shape-not, shape-since, shape-until}
use Rattle.axiom_rules.proofs.shape.shape_of.Goals as goal

pub returns-in-Not : goal.returns-in-Not
returns-in-Not c =
    let is = c.in-Not.ensures.node in
    rw c.get.ensures.number (shape-not c.cores_are_cores.ensures.equality c.args.log.now c.args.arena.now c.len.ensures.arena c.args.id c.requires c.in-Not.f is.0 is.1)

pub returns-in-And : goal.returns-in-And
returns-in-And c =
    let is = c.in-And.ensures.node in
    rw (c.get-in-And.ensures.number, c.get-in-And-2.ensures.number)
    (shape-and c.cores_are_cores.ensures.equality c.args.log.now c.args.arena.now c.len.ensures.arena c.args.id c.requires c.in-And.f c.in-And.g is.0 is.1 is.2)

pub returns-in-Until : goal.returns-in-Until
returns-in-Until c =
    let is = c.in-Until.ensures.node in
    rw (c.get-in-Until.ensures.number, c.get-in-Until-2.ensures.number)
    (shape-until c.cores_are_cores.ensures.equality c.args.log.now c.args.arena.now c.len.ensures.arena c.args.id c.requires c.in-Until.interval c.in-Until.f c.in-Until.g is.0 is.1 is.2)

pub returns-in-Since : goal.returns-in-Since
returns-in-Since c =
    let is = c.in-Since.ensures.node in
    rw (c.get-in-Since.ensures.number, c.get-in-Since-2.ensures.number)
    (shape-since c.cores_are_cores.ensures.equality c.args.log.now c.args.arena.now c.len.ensures.arena c.args.id c.requires c.in-Since.interval c.in-Since.f c.in-Since.g is.0 is.1 is.2)

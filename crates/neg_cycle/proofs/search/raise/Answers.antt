use Rattle.std.proofs.Common.{◌≡◌, arith, [], ◌∷◌, ◌++◌, drop, refl, pos}
use Rattle.std.specs.Int.{w128}
use Rattle.std.proofs.lemmas.Int.{to_z-of_z}
use Rattle.std.proofs.lemmas.Grind.{common_steps}
use Rattle.neg_cycle.proofs.SearchLemmas.{walk_read, loop_refutes, search_raised, room_raised}
use Rattle.neg_cycle.proofs.search.raise.Goals as goal

pub visit-requires : goal.visit-requires
visit-requires c =
    let e = c.requires.system.each c.args.place (record { from = 0; to = 0; bound = pos 0 }) c.requires.place in
    walk_read c.args.edges.now c.args.labels.now.numbers.items c.args.labels.now.walks.items _ c.index-walk.result.now c.requires.labels e.from c.index-walk.ensures

pub returns-in-Some-clause-did : goal.returns-in-Some-clause-did
returns-in-Some-clause-did c =
    let found = c.in-Some.ensures in
    let same = c.deref.ensures.value in
    let is : c.in_ok-extended.field-0.items ≡ drop c.in-Some.i c.index-walk.result.now.places.items ++ c.args.place ∷ [] = grind (arith, common_steps, c.in_ok-extended.ensures) in
    rw is (loop_refutes c.args.edges.now c.args.labels.now.numbers.items c.args.labels.now.walks.items c.args.place c.args.number c.requires.system c.requires.labels c.requires.place c.requires.number c.requires.above
    c.index-walk.result.now c.index-walk.ensures c.in-Some.i found.within found.found)

pub returns-clause-labels : goal.returns-clause-labels
returns-clause-labels c =
    rw (to_z-of_z w128 c.args.number c.ranges.number)
    (search_raised c.args.edges.now c.args.labels.now.numbers.items c.args.labels.now.walks.items c.args.place c.args.number c.requires.system c.requires.labels c.requires.place c.requires.number c.requires.above
    c.index-walk.result.now c.index-walk.ensures c.in_default.ensures.none _ refl (rw c.deref-2.ensures.value at c.in_ok-extended-2.ensures))

pub returns-clause-did : goal.returns-clause-did
returns-clause-did c =
    rw (to_z-of_z w128 c.args.number c.ranges.number)
    (room_raised c.args.edges.now c.args.labels.now.numbers.items c.args.labels.now.walks.items c.args.place c.args.number c.requires.system c.requires.labels c.requires.place c.requires.number c.requires.above
    c.index-walk.result.now c.index-walk.ensures c.in_default.ensures.none)

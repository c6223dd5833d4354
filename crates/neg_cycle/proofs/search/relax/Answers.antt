use Rattle.std.proofs.Common.{arith, rules, refl, pos}
use Rattle.std.proofs.lemmas.Int.{ints}
use Rattle.neg_cycle.proofs.SearchLemmas.{number_read, number_range}
use Rattle.neg_cycle.proofs.search.relax.Goals as goal

pub overflow_sub-number : goal.overflow_sub-number
overflow_sub-number c =
    let e = c.requires.system.each c.args.place (record { from = 0; to = 0; bound = pos 0 }) c.requires.place in
    let bound = e.bound in
    let from = number_read c.args.labels.now.numbers.items _ c.index.result.now e.from c.index.ensures in
    let range = number_range c.args.edges.now c.args.labels.now.numbers.items c.args.labels.now.walks.items c.requires.system c.requires.labels _ e.from in
    search (rules, bound, from, range)

pub returns-then-number-index-clause-did : goal.returns-then-number-index-clause-did
returns-then-number-index-clause-did c =
    let e = c.requires.system.each c.args.place (record { from = 0; to = 0; bound = pos 0 }) c.requires.place in
    let bound = e.bound in
    let from = number_read c.args.labels.now.numbers.items _ c.index.result.now e.from c.index.ensures in
    let to = number_read c.args.labels.now.numbers.items _ c.index-2.result.now e.to c.index-2.ensures in
    let from_range = number_range c.args.edges.now c.args.labels.now.numbers.items c.args.labels.now.walks.items c.requires.system c.requires.labels _ e.from in
    let to_range = number_range c.args.edges.now c.args.labels.now.numbers.items c.args.labels.now.walks.items c.requires.system c.requires.labels _ e.to in
    (refl, omega (arith, ints, c.if-number-index.true))

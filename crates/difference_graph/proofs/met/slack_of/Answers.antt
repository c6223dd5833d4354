use Rattle.std.proofs.Common.{rules, arith, pos}
use Rattle.std.proofs.lemmas.Int.{ints}
use Rattle.neg_cycle.specs.Systems.{number_of}
use Rattle.difference_graph.specs.Gaps.{IsNumber}
use Rattle.difference_graph.proofs.met.slack_of.Goals as goal

pub overflow_sub-result : goal.overflow_sub-result
overflow_sub-result c =
    let from : IsNumber (number_of c.args.numbers.now c.args.edge.from) = c.requires.numbers c.args.edge.from (pos 0) c.requires.edge.from in
    let to : IsNumber (number_of c.args.numbers.now c.args.edge.to) = c.requires.numbers c.args.edge.to (pos 0) c.requires.edge.to in
    let bound = c.requires.edge.bound in
    let is = c.difference.ensures in
    search (rules, from, to, bound, is)

pub returns : goal.returns
returns c =
    let from : IsNumber (number_of c.args.numbers.now c.args.edge.from) = c.requires.numbers c.args.edge.from (pos 0) c.requires.edge.from in
    let to : IsNumber (number_of c.args.numbers.now c.args.edge.to) = c.requires.numbers c.args.edge.to (pos 0) c.requires.edge.to in
    let bound = c.requires.edge.bound in
    let is = c.difference.ensures in
    record { slack = omega (arith, ints, from, to, bound, is) }

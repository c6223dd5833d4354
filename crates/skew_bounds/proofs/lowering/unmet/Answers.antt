use Rattle.std.proofs.Common.{◌≡◌, arith, ◌+ℤ◌}
use Rattle.std.proofs.lemmas.Int.{ints}
use Rattle.neg_cycle.specs.Systems.{number_of}
use Rattle.skew_bounds.proofs.Falls.{number-near}
use Rattle.skew_bounds.proofs.lowering.unmet.Goals as goal

pub sum-number-requires-clause-number : goal.sum-number-requires-clause-number
sum-number-requires-clause-number c =
    let near = number-near c.args.potential.now c.args.numbers.now c.requires.search c.args.edge.to c.requires.edge.to in
    record { low = omega (arith, ints, near.low, near.high); high = omega (arith, ints, near.low, near.high) }

pub returns-then-number-numbers : goal.returns-then-number-numbers
returns-then-number-numbers c =
    let to = number-near c.args.potential.now c.args.numbers.now c.requires.search c.args.edge.to c.requires.edge.to in
    let from = number-near c.args.potential.now c.args.numbers.now c.requires.search c.args.edge.from c.requires.edge.from in
    let bound = c.requires.edge.bound in
    let sum : c.sum-number.result ≡ number_of c.args.numbers.now c.args.edge.to +ℤ c.args.edge.bound = omega (arith, ints, c.sum-number.ensures, to.low, to.high, bound.low, bound.high) in
    record {
      number = omega (arith, ints, sum, to.low, to.high, bound.low, bound.high);
      above = omega (arith, ints, c.if-number-numbers.true, sum, to.low, to.high, from.low, from.high, bound.low, bound.high);
      met = tt;
    }

pub returns-else-number-numbers : goal.returns-else-number-numbers
returns-else-number-numbers c =
    let to = number-near c.args.potential.now c.args.numbers.now c.requires.search c.args.edge.to c.requires.edge.to in
    let from = number-near c.args.potential.now c.args.numbers.now c.requires.search c.args.edge.from c.requires.edge.from in
    let bound = c.requires.edge.bound in
    let sum : c.sum-number.result ≡ number_of c.args.numbers.now c.args.edge.to +ℤ c.args.edge.bound = omega (arith, ints, c.sum-number.ensures, to.low, to.high, bound.low, bound.high) in
    record { number = tt; above = tt; met = omega (arith, ints, c.if-number-numbers.false, sum, to.low, to.high, from.low, from.high, bound.low, bound.high) }

use Rattle.std.proofs.Common.{◌≡◌, arith, of_z, to_z}
use Rattle.std.specs.BinaryHeap.{heap_items}
use Rattle.std.specs.Int.{w128}
use Rattle.std.proofs.lemmas.Int.{ints}
use Rattle.skew_bounds.proofs.Falls.{lowered-near, lowered-not, lowered-one, search-lowered}
use Rattle.skew_bounds.proofs.lowering.relax.Goals as goal

pub lower-requires-clause-number : goal.lower-requires-clause-number
lower-requires-clause-number c =
    let unmet = c.in-Some.ensures in
    let near =
    lowered-near c.args.potential.now c.args.numbers.now (heap_items c.args.waiting.now) c.args.edge c.requires.search c.requires.edge
    c.requires.met c.in-Some.number unmet.number unmet.above in
    record { low = omega (arith, ints, near.low, near.high); high = omega (arith, ints, near.low, near.high) }

pub returns-in_ok-lower : goal.returns-in_ok-lower
returns-in_ok-lower c =
    let potential = c.args.potential.now in
    let numbers = c.args.numbers.now in
    let before = heap_items c.args.waiting.now in
    let number = c.in-Some.number in
    let unmet = c.in-Some.ensures in
    let near = lowered-near potential numbers before c.args.edge c.requires.search c.requires.edge c.requires.met number unmet.number unmet.above in
    let same : to_z w128 (of_z w128 number) ≡ number = omega (arith, ints, near.low, near.high) in
    let waits = rw same at c.in_ok-lower.ensures.waits in
    rw (rw same at c.in_ok-lower.ensures.numbers)
    (record {
      search = search-lowered potential numbers before c.args.edge c.requires.search c.requires.edge c.requires.met number unmet.number unmet.above;
      lowered = lowered-one potential numbers before c.args.edge c.requires.search c.requires.edge c.requires.met number unmet.number unmet.above (heap_items c.lower.new.waiting) waits;
    })

pub returns-in_default-clause-lowered : goal.returns-in_default-clause-lowered
returns-in_default-clause-lowered c =
    lowered-not c.args.potential.now c.args.numbers.now (heap_items c.args.waiting.now) c.args.edge c.requires.search c.requires.edge c.requires.met c.in_default.ensures.met

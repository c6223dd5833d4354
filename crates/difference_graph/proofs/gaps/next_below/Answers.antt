use Rattle.std.proofs.Common.{rules, pos, get_or}
use Rattle.std.specs.Int.{w128}
use Rattle.std.proofs.lemmas.Int.{to_z-of_z}
use mir.Val.{SFits}
use Rattle.difference_graph.proofs.GapLemmas.{next_takes, next_keeps, next_whole}
use Rattle.difference_graph.proofs.gaps.next_below.Goals as goal
use Rattle.difference_graph.proofs.gaps.next_below.Goals.{then-is_next, else-is_next}

pub loop-number-preserved : goal.loop-number-preserved
loop-number-preserved c =
    let fits : SFits w128 (get_or c.args.numbers.now c.loop-number.number-index (pos 0)) = search rules in
    let read = to_z-of_z w128 (get_or c.args.numbers.now c.loop-number.number-index (pos 0)) fits in
    elim c.if-is_next.branch [
      | then-is_next w ↦ next_takes c.args.numbers.now c.loop-number.number-index _ _ c.loop-number.found c.if-is_next.found
          c.loop-number-test.true read c.loop-number.invariant (c.is_next.ensures.next.0 w.if-is_next.true) w.found-is
      | else-is_next w ↦ next_keeps c.args.numbers.now c.loop-number.number-index _ _ c.loop-number.found c.if-is_next.found c.loop-number-test.true read c.loop-number.invariant
          (λ next. let is = c.is_next.ensures.next.1 next in let not = w.if-is_next.false in absurd (cc)) w.found-is
    ]

pub returns : goal.returns
returns c =
    record {
      found = next_whole c.args.numbers.now c.loop-number.number-index _ c.args.level c.loop-number.found c.loop-number-test.false
          (to_z-of_z w128 c.args.level c.ranges.level) c.loop-number.invariant;
    }

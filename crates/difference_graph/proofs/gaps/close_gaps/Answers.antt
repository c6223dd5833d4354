use Rattle.std.proofs.Common.{◌≡◌, ◌∙◌, rules, arith, pos, length, ◌^◌, ◌+ℤ◌, ◌-ℤ◌, ◌≤ℤ◌, ◌<ℤ◌}
use Rattle.std.specs.Int.{w128}
use Rattle.std.proofs.lemmas.Int.{ints, to_z-of_z}
use mir.Val.{SFits, to_z, of_z}
use Rattle.difference_graph.specs.Gaps.{IsNumber}
use Rattle.difference_graph.proofs.GapLemmas.{keeps_met, numbers_closed, count_falls, level_near, next_number}
use Rattle.difference_graph.proofs.gaps.close_gaps.Goals as goal

pub gaps-smaller : goal.gaps-smaller
gaps-smaller c =
    let n = c.in-Some.ensures.found in
    let inv = c.gaps.invariant in
    let next : IsNumber c.in-Some.next = next_number c.gaps.numbers (to_z w128 c.gaps.level-bits) c.in-Some.next inv.numbers n in
    let fits_next : SFits w128 c.in-Some.next = search (rules, next) in
    let fits : SFits w128 c.level_below-below.result = search rules in
    let fits_by : SFits w128 c.difference.result = search rules in
    let read_next = to_z-of_z w128 c.in-Some.next fits_next in
    let read = to_z-of_z w128 c.level_below-below.result fits in
    let read_by = to_z-of_z w128 c.difference.result fits_by in
    let e = rw read_next at c.level_below-below.ensures in
    let d = rw read_next at c.difference.ensures.difference in
    let by : to_z w128 (of_z w128 c.difference.result) ≡ to_z w128 (of_z w128 c.level_below-below.result) -ℤ c.in-Some.next = read_by ∙ d in
    count_falls (to_z w128 c.gaps.level-bits) c.in-Some.next (to_z w128 (of_z w128 c.level_below-below.result)) (to_z w128 (of_z w128 c.difference.result)) c.gaps.numbers c.raise_below.new.numbers
    inv.top n (rw read e.below) (rw read e.above) (rw read e.cut) by c.raise_below.ensures.raised

pub gaps-preserved : goal.gaps-preserved
gaps-preserved c =
    let n = c.in-Some.ensures.found in
    let inv = c.gaps.invariant in
    let raised = c.raise_below.ensures.raised in
    let next : IsNumber c.in-Some.next = next_number c.gaps.numbers (to_z w128 c.gaps.level-bits) c.in-Some.next inv.numbers n in
    let fits_next : SFits w128 c.in-Some.next = search (rules, next) in
    let fits : SFits w128 c.level_below-below.result = search rules in
    let fits_by : SFits w128 c.difference.result = search rules in
    let read_next = to_z-of_z w128 c.in-Some.next fits_next in
    let read = to_z-of_z w128 c.level_below-below.result fits in
    let read_by = to_z-of_z w128 c.difference.result fits_by in
    let e = rw read_next at c.level_below-below.ensures in
    let d = rw read_next at c.difference.ensures.difference in
    let by : to_z w128 (of_z w128 c.difference.result) ≡ to_z w128 (of_z w128 c.level_below-below.result) -ℤ c.in-Some.next = read_by ∙ d in
    let below : to_z w128 (of_z w128 c.level_below-below.result) <ℤ to_z w128 c.gaps.level-bits = rw read e.below in
    let near : to_z w128 c.gaps.level-bits ≤ℤ (to_z w128 (of_z w128 c.level_below-below.result) +ℤ pos (2 ^ 90)) = rw read e.near in
    record {
      count = raised.count ∙ inv.count;
      numbers =
          numbers_closed (to_z w128 c.gaps.level-bits) c.in-Some.next (to_z w128 (of_z w128 c.level_below-below.result))
          (to_z w128 (of_z w128 c.difference.result)) c.gaps.numbers c.raise_below.new.numbers
          inv.top n below (rw read e.above) (rw read e.cut) by raised inv.numbers;
      met =
          λ edge limit meets. keeps_met (to_z w128 c.gaps.level-bits) c.in-Some.next (to_z w128 (of_z w128 c.level_below-below.result))
          (to_z w128 (of_z w128 c.difference.result)) c.gaps.numbers c.raise_below.new.numbers
          inv.top n below (rw read e.above) (rw read e.cut) by raised edge limit.bound (inv.met edge limit meets);
      top = omega (arith, ints, below, inv.top);
      near = level_near (to_z w128 c.gaps.level-bits) (to_z w128 (of_z w128 c.level_below-below.result)) _ _ (length c.gaps.numbers) (length c.raise_below.new.numbers) near
          (count_falls (to_z w128 c.gaps.level-bits) c.in-Some.next (to_z w128 (of_z w128 c.level_below-below.result)) (to_z w128 (of_z w128 c.difference.result)) c.gaps.numbers c.raise_below.new.numbers
          inv.top n below (rw read e.above) (rw read e.cut) by raised) raised.count inv.near;
    }

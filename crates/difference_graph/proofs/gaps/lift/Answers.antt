use Rattle.std.proofs.Common.{refl, rules, pos, ◌-ℤ◌}
use Rattle.std.specs.Int.{w128}
use Rattle.std.proofs.lemmas.Int.{to_z-of_z}
use mir.Val.{SFits}
use Rattle.difference_graph.specs.Gaps.{IsNumber}
use Rattle.difference_graph.proofs.GapLemmas.{next_number}
use Rattle.difference_graph.proofs.LiftLemmas.{lifted}
use Rattle.difference_graph.proofs.gaps.lift.Goals as goal

pub returns-in-Some : goal.returns-in-Some
returns-in-Some c =
    let n = c.in-Some.ensures.found in
    let greatest : IsNumber c.in-Some.greatest = next_number c.args.numbers.now (pos 1) c.in-Some.greatest c.requires.numbers n in
    let fits : SFits w128 c.in-Some.greatest = search (rules, greatest) in
    let fits_by : SFits w128 (pos 0 -ℤ c.in-Some.greatest) = search (rules, greatest) in
    let read = to_z-of_z w128 c.in-Some.greatest fits in
    let is_by = to_z-of_z w128 (pos 0 -ℤ c.in-Some.greatest) fits_by in
    record {
      lifted = lifted c.args.numbers.now c.raise_below.new.numbers c.in-Some.greatest (pos 0 -ℤ c.in-Some.greatest)
          c.requires.numbers n refl (rw (read, is_by) at c.raise_below.ensures.raised);
    }

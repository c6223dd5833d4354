use Rattle.std.proofs.Common.{◌≡◌, ◌*◌, ◌^◌, length, pos, ◌+ℤ◌, ◌≤ℤ◌}
use Rattle.std.specs.Prelude.{All}
use Rattle.difference_graph.specs.Gaps.{IsNumber, KeepsMet, count_below}
use Rattle.difference_graph.proofs.gaps.close_gaps.Given as goal

abbrev pub invariant-gaps : goal.invariant-gaps
invariant-gaps l = record {
  count : length l.numbers ≡ length l.fn.numbers;
  numbers : All IsNumber l.numbers;
  met : KeepsMet l.fn.numbers l.numbers;
  top : l.level ≤ℤ pos 0;
  near : pos (count_below l.level l.numbers * 2 ^ 90) ≤ℤ (l.level +ℤ pos (length l.numbers * 2 ^ 90));
}

abbrev pub decreases-gaps : goal.decreases-gaps
decreases-gaps l = count_below l.level l.numbers

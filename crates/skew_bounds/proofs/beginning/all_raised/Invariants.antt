use Rattle.std.proofs.Common.{◌≡◌, map, take, ◌+ℤ◌}
use Rattle.skew_bounds.proofs.beginning.all_raised.Given as goal

abbrev pub invariant-loop-number : goal.invariant-loop-number
invariant-loop-number l = l.all.items ≡ map (λ x. x +ℤ l.raise) (take l.number-index l.numbers)

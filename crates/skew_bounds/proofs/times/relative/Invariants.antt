use Rattle.std.proofs.Common.{◌≡◌, map, take}
use Rattle.std.specs.Prelude.{◌-ℤ◌}
use Rattle.skew_bounds.proofs.times.relative.Given as goal

abbrev pub invariant-loop-number : goal.invariant-loop-number
invariant-loop-number l = l.times ≡ map (λ x. x -ℤ l.zero) (take l.number-index l.numbers)

use Rattle.std.proofs.Common.{◌≡◌, length}
use Rattle.happened_before.proofs.progress.empty_clocks.Given as goal

abbrev pub invariant-loop : goal.invariant-loop
invariant-loop l = length l.clocks.items ≡ l.counter

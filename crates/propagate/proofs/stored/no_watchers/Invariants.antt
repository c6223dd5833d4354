use Rattle.std.proofs.Common.{◌≡◌, length}
use Rattle.propagate.proofs.stored.no_watchers.Given as goal

abbrev pub invariant-loop-var : goal.invariant-loop-var
invariant-loop-var l = length l.watchers.items ≡ l._var

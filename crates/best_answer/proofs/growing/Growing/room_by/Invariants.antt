use Rattle.std.proofs.Common.{◌≤◌}
use Rattle.best_answer.proofs.growing.Growing.room_by.Given as goal

abbrev pub invariant-loop-line : goal.invariant-loop-line
invariant-loop-line l = l.room ≤ l.most

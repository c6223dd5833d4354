use Rattle.std.proofs.Common.{◌≡◌, ◌≤◌, ◌*◌, ◌^◌, take}
use Rattle.skew_bounds.specs.Tight.{events_of}
use Rattle.question.specs.Extremes.{extremes_of}
use Rattle.question.specs.Size.{size_by}
use Rattle.question.proofs.size.nodes_size.Given as goal

abbrev pub invariant-loop-k : goal.invariant-loop-k
invariant-loop-k l = (l.size ≡ size_by (extremes_of l.tight) (events_of l.tight) (take l.k l.arena)) × (l.size ≤ l.k * 2 ^ 31)

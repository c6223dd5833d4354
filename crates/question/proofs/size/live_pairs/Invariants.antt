use Rattle.std.proofs.Common.{◌≡◌, ◌≤◌, ◌*◌}
use Rattle.std.specs.Prelude.{count_by, sum_by}
use Rattle.std.specs.List.{range_with_len}
use Rattle.skew_bounds.specs.Tight.{events_of}
use Rattle.question.specs.Extremes.{extremes_of, is_live}
use Rattle.question.proofs.size.live_pairs.Given as goal

abbrev pub invariant-loop-i : goal.invariant-loop-i
invariant-loop-i l =
    (l.count ≡ sum_by (λ i. count_by (is_live (extremes_of l.tight) l.direction l.interval i) (range_with_len 0 (events_of l.tight))) (range_with_len 0 l.i)) × (l.count ≤ l.i * events_of l.tight)

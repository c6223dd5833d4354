use Rattle.std.proofs.Common.{◌≡◌, map}
use Rattle.std.specs.List.{range_with_len}
use Rattle.demo_log.specs.DemoLog.{demo_row, state_after}
use Rattle.demo_log.proofs.generator.demo_rows.Given as goal

abbrev pub invariant-loop-place : goal.invariant-loop-place
invariant-loop-place l = (l.rows ≡ map (demo_row l.seed) (range_with_len 0 l.place)) × (l.state ≡ state_after l.place l.seed)

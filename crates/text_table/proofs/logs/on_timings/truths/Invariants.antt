use Rattle.std.proofs.Common.{◌≡◌}
use Rattle.text_table.proofs.logs.on_timings.truths.Given as goal

abbrev pub invariant-loop-timing : goal.invariant-loop-timing
invariant-loop-timing l = l.replayer.log ≡ l.log

use Rattle.std.proofs.Common.{◌≡◌, ℕ, ◌<◌, length}
use Rattle.std.specs.Prelude.{slice_index}
use Rattle.happened_before.specs.Progress.{number_after}
use Rattle.happened_before.proofs.progress.clock_after.Given as goal

abbrev pub invariant-loop-h : goal.invariant-loop-h
invariant-loop-h l = record {
  count : length l.clock ≡ l.h;
  numbers : (k : ℕ) → k < l.h → slice_index l.clock k ≡ number_after l.clocks l.causes l.host k;
}

use Rattle.std.proofs.Common.{length}
use Rattle.witness_replay.specs.Sweeps.{AreFar, IsSwept, is_hit}
use Rattle.witness_replay.proofs.sweep.Sweep.advanced.Given as goal

abbrev pub invariant-loop-direction : goal.invariant-loop-direction
invariant-loop-direction l = record {
  swept : IsSwept (is_hit l.direction l.timeline.moments.now l.wanted.value l.side) (length l.timeline.times.now) l.sweep;
  far : AreFar l.direction l.timeline.times.now l.timeline.moments.now l.wanted.low l.e l.sweep.place;
}

abbrev pub decreases-loop-direction : goal.decreases-loop-direction
decreases-loop-direction l = l.sweep.place

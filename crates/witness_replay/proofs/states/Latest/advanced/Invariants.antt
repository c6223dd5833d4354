use Rattle.std.proofs.Common.{◌≤◌, ◌-◌, length}
use Rattle.witness_replay.specs.LatestChanges.{AreBy, IsLatest}
use Rattle.witness_replay.specs.Timelines.{moment_at}
use Rattle.witness_replay.proofs.states.Latest.advanced.Given as goal

abbrev pub invariant-loop-proposition : goal.invariant-loop-proposition
invariant-loop-proposition l = record {
  latest : IsLatest l.log l.moments l.proposition.host l.proposition.name.now l.latest;
  within : l.latest.places ≤ length l.moments;
  by : AreBy l.moments (moment_at l.moments l.place).time l.latest.places;
}

abbrev pub decreases-loop-proposition : goal.decreases-loop-proposition
decreases-loop-proposition l = length l.moments - l.latest.places

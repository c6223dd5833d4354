use Rattle.witness_replay.specs.Tables.{ColumnsAreTruths}
use Rattle.witness_replay.proofs.evaluator.evaluate.Given as goal

abbrev pub invariant-loop-k : goal.invariant-loop-k
invariant-loop-k l = ColumnsAreTruths l.log l.timeline.times.now l.arena l.k l.table

use Rattle.std.proofs.Common.{false}
use Rattle.logic_table.proofs.runs.Run.descend.Goals as goal

pub decide-requires-clause-in_range : goal.decide-requires-clause-in_range
decide-requires-clause-in_range c = rw c.loop-lit.invariant.vars (c.requires.in_range c.loop-lit.lit-index (record { var = 0; positive = false }) c.loop-lit-test.true)

pub decide-requires-clause-ready : goal.decide-requires-clause-ready
decide-requires-clause-ready c = rw c.in-Quiet.is at c.loop-lit.invariant.halted.ready

pub decide-requires-clause-closed : goal.decide-requires-clause-closed
decide-requires-clause-closed c = rw c.in-Quiet.is at c.loop-lit.invariant.halted.settled

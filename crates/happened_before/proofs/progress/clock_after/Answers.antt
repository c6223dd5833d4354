use Rattle.std.proofs.Common.{inl, inr}
use Rattle.happened_before.proofs.progress.clock_after.Goals as goal

pub number-previous-requires-clause-within : goal.number-previous-requires-clause-within
number-previous-requires-clause-within c = λ e is. c.requires.within e (inl is)

pub number-send-requires-clause-within : goal.number-send-requires-clause-within
number-send-requires-clause-within c = λ e is. c.requires.within e (inr is)

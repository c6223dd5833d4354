use Rattle.std.proofs.Common.{inl, inr}
use Rattle.happened_before.proofs.causes.Causes.waiting.Goals as goal

pub waiting-requires : goal.waiting-requires
waiting-requires c = λ e is. c.requires e (inl is)

pub waiting-requires-2 : goal.waiting-requires-2
waiting-requires-2 c = λ e is. c.requires e (inr is)

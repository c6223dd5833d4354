use Rattle.happened_before.proofs.causes.ready.Goals as goal

pub waiting-requires : goal.waiting-requires
waiting-requires c = λ e among. rw c.requires.flags (c.requires.whole c.loop-e.e e among)

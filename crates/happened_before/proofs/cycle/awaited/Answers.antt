use Rattle.happened_before.proofs.cycle.awaited.Goals as goal

pub waiting-requires : goal.waiting-requires
waiting-requires c = λ e among. rw c.requires.flags (c.requires.whole c.args.event e among)

pub returns-clause-within : goal.returns-clause-within
returns-clause-within c = c.requires.whole c.args.event c.in-Some.cause c.in-Some.ensures.among

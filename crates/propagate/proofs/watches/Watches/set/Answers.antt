use Rattle.std.proofs.Common.{◌∙◌, sym}
use Rattle.propagate.proofs.UnwatchedLemmas.{unwatched_set}
use Rattle.propagate.proofs.watches.Watches.set.Goals as goal

pub invariant_of-self : goal.invariant_of-self
invariant_of-self c =
    let inside = c.self.inside in
    c.self.invariant ∙ sym (unwatched_set inside.pairs.items c.get-at.result c.args.clause c.args.watch c.get-at.ensures.place (rw (← c.self.view_is) at c.requires.watched))

pub invariant_of-self-else-at-len : goal.invariant_of-self-else-at-len
invariant_of-self-else-at-len c =
    let inside = c.self.inside in
    c.self.invariant ∙ sym (unwatched_set inside.pairs.items c.get-at.result c.args.clause c.args.watch c.get-at.ensures.place (rw (← c.self.view_is) at c.requires.watched))

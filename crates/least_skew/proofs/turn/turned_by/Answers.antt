use Rattle.std.proofs.Common.{◌∙◌}
use Rattle.least_skew.proofs.Widenings.{hosts-at}
use Rattle.least_skew.proofs.turn.turned_by.Goals as goal

pub search_in-requires-clause-hosts : goal.search_in-requires-clause-hosts
search_in-requires-clause-hosts c = rw c.requires.wide (hosts-at c.args.aim.now.log.now _ c.args.aim.now.nodes.now ∙ c.args.aim.now.hosts)

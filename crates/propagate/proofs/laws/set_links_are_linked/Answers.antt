use Rattle.propagate.proofs.LinkLemmas.{set_links}
use Rattle.propagate.proofs.laws.set_links_are_linked.Goals as goal

pub returns : goal.returns
returns c = record { law = set_links }

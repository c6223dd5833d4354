use Rattle.proof_check.proofs.AtomLemmas.{set_more}
use Rattle.proof_check.proofs.atoms.add_recent.Goals as goal

pub returns : goal.returns
returns c = set_more c.args.recent.now _ c.args.atom c.in_ok-insert.ensures.updates

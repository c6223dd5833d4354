use Rattle.proof_log.proofs.FreshLines.{fresh-lines_differ}
use Rattle.proof_log.proofs.laws.fresh_lines_differ.Goals as goal

pub returns : goal.returns
returns c = fresh-lines_differ

use Rattle.proof_check.proofs.AtomLemmas.{not_found}
use Rattle.proof_check.proofs.atoms.is_among.Goals as goal

pub returns-in-Err : goal.returns-in-Err
returns-in-Err c = (λ no. absurd (cc), λ has. absurd (not_found c.args.sorted.now c.args.atom.now c.in-Err.field-0 c.requires c.in-Err.ensures.position has))

use Rattle.std.proofs.Common.{◌∙◌}
use Rattle.proof_log.proofs.AtomsApart.{decided}
use Rattle.proof_log.proofs.atoms.has_atoms_once.Goals as goal

pub returns : goal.returns
returns c = record { once = decided c.deref_mut.result.now c.args.lits.now c.are_apart.result (c.deref_mut.ensures.value ∙ c.in_ok-atoms.ensures) c.are_apart.ensures }

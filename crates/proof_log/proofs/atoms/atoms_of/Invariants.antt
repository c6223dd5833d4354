use Rattle.std.proofs.Common.{◌≡◌, map, take}
use Rattle.proof_log.proofs.AtomsApart.{atom_of}
use Rattle.proof_log.proofs.atoms.atoms_of.Given as goal

abbrev pub invariant-loop-literal : goal.invariant-loop-literal
invariant-loop-literal l = l.atoms.items ≡ map atom_of (take l.literal-index l.lits)

use Rattle.std.proofs.Common.{◌∙◌, ap, map, arith}
use Rattle.std.proofs.lemmas.List.{take_all}
use Rattle.proof_log.proofs.AtomsApart.{atom_of}
use Rattle.proof_log.proofs.atoms.atoms_of.Goals as goal

pub returns : goal.returns
returns c = c.loop-literal.invariant ∙ ap (map atom_of) (take_all c.loop-literal.literal-index c.args.lits.now (omega (arith, c.loop-literal-test.false)))

use Rattle.std.proofs.Common.{take}
use Rattle.axiom_rules.specs.AtomIndex.{AreTaken}
use Rattle.axiom_rules.proofs.atom_table.AtomTable.taken.Given as goal

abbrev pub invariant-loop-var : goal.invariant-loop-var
invariant-loop-var l = AreTaken l.self (take l.var-index l.vars) l.atoms.items

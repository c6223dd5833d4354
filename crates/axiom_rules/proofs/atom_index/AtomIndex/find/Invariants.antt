use Rattle.std.proofs.Common.{length}
use Rattle.axiom_rules.proofs.IndexLemmas.{IsBefore}
use Rattle.axiom_rules.proofs.atom_index.AtomIndex.find.Given as goal

abbrev pub invariant-loop-link : goal.invariant-loop-link
invariant-loop-link l = IsBefore l.atoms (length l.self.heads.items) l.atom l.link

abbrev pub decreases-loop-link : goal.decreases-loop-link
decreases-loop-link l = l.link

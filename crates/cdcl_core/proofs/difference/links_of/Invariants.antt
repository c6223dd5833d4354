use Rattle.std.proofs.Common.{◌≡◌, ℕ, ◌<◌, ◌≤◌, [], length, Some, None}
use Rattle.neg_cycle.specs.declared.system.Edge.{Edge}
use Rattle.propagate.specs.Links.{edges_at}
use Rattle.axiom_rules.specs.declared.literal.Atom.{Atom}
use Rattle.axiom_rules.specs.Atoms.{IsVar}
use Rattle.cdcl_core.specs.Orders.{order_edges}
use Rattle.cdcl_core.proofs.difference.links_of.Given as goal

abbrev pub invariant-loop-v : goal.invariant-loop-v
invariant-loop-v l = record {
  count : length l.links ≡ length l.atoms;
  done : (k : ℕ) (a : Atom) (both : Edge × Edge) → k < l.v → IsVar l.atoms k a → edges_at l.links k ≡ Some both → order_edges a ≡ Some both;
  all : l.assumed ≡ [] → (k : ℕ) (a : Atom) → k < l.v → IsVar l.atoms k a → edges_at l.links k ≡ order_edges a;
  left : (k : ℕ) → l.v ≤ k → edges_at l.links k ≡ None;
}

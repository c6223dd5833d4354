use Rattle.std.proofs.Common.{◌≡◌, ◌<◌, length}
use Rattle.axiom_rules.specs.AtomIndex.{IsIndex}
use Rattle.axiom_rules.proofs.atom_index.AtomIndex.extend_to.Given as goal

abbrev pub invariant-loop-place : goal.invariant-loop-place
invariant-loop-place l = record {
  index : IsIndex l.atoms l.self;
  next : l.place ≡ length l.self.links.items;
  buckets : length l.atoms < length l.self.heads.items;
}

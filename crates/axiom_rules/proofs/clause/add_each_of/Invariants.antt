use Rattle.std.proofs.Common.{◌≡◌, drop, map}
use Rattle.axiom_rules.specs.Adding.{with_parts}
use Rattle.axiom_rules.specs.Each.{part_at}
use Rattle.axiom_rules.proofs.EachLemmas.{AreBeforeRest}
use Rattle.axiom_rules.proofs.clause.add_each_of.Given as goal

abbrev pub invariant-loop-x : goal.invariant-loop-x
invariant-loop-x l = record {
  same : with_parts l.clause.items (map (part_at l.each) (drop l.x-index l.events)) ≡ with_parts l.fn.clause.items (map (part_at l.each) l.events);
  before : AreBeforeRest l.each l.events l.x-index l.clause.items;
}

use Rattle.std.proofs.Common.{◌≡◌, ◌-◌, map}
use Rattle.std.specs.List.{range_with_len}
use Rattle.axiom_rules.specs.Adding.{with_parts}
use Rattle.axiom_rules.specs.Each.{AreBefore, part_at}
use Rattle.axiom_rules.proofs.clause.add_each.Given as goal

abbrev pub invariant-loop-x : goal.invariant-loop-x
invariant-loop-x l = record {
  same : with_parts l.clause.items (map (part_at l.each) (range_with_len l.x (l.events - l.x))) ≡ with_parts l.fn.clause.items (map (part_at l.each) (range_with_len 0 l.events));
  before : AreBefore l.each l.x l.clause.items;
}

use Rattle.std.proofs.Common.{◌≡◌, drop}
use Rattle.axiom_rules.specs.Adding.{with_parts}
use Rattle.axiom_rules.proofs.clause.add_all.Given as goal

abbrev pub invariant-loop-part : goal.invariant-loop-part
invariant-loop-part l = with_parts l.clause.items (drop l.part-index l.parts) ≡ with_parts l.fn.clause.items l.parts

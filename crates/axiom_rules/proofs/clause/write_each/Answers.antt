use Rattle.std.proofs.Common.{map, subst}
use Rattle.std.specs.List.{range_with_len}
use Rattle.axiom_rules.specs.Adding.{Answers}
use Rattle.axiom_rules.specs.Each.{part_at}
use Rattle.axiom_rules.proofs.AddingLemmas.{clause_more}
use Rattle.axiom_rules.proofs.EachLemmas.{others-before}
use Rattle.axiom_rules.proofs.clause.write_each.Goals as goal

pub add_each-requires : goal.add_each-requires
add_each-requires c = others-before c.args.each c.args.parts.now c.clear.new.self.items c.add_all.new.clause.items c.requires c.clear.ensures.items c.in_ok-add_all.ensures

pub returns : goal.returns
returns c = subst (λ r. Answers r c.add_each.result c.add_each.new.clause.items)
    (clause_more c.args.parts.now (map (part_at c.args.each) (range_with_len 0 c.args.events)) c.clear.new.self.items c.add_all.new.clause.items c.clear.ensures.items c.in_ok-add_all.ensures)
    c.add_each.ensures

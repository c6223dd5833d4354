use Rattle.std.proofs.Common.{◌∙◌}
use Rattle.axiom_rules.proofs.EachLemmas.{each-more, part-added, part-new}
use Rattle.axiom_rules.proofs.clause.add_each.Goals as goal

pub add_new-requires : goal.add_new-requires
add_new-requires c = part-new c.args.each c.loop-x.x c.loop-x.clause.items c.at.result c.at.ensures c.loop-x.invariant.before

pub loop-x-preserved : goal.loop-x-preserved
loop-x-preserved c = record {
  same = each-more c.args.each c.loop-x.clause.items c.add_new.new.clause.items c.loop-x.x c.args.events c.at.result c.loop-x-test.true c.at.ensures c.in_ok-add_new.ensures ∙ c.loop-x.invariant.same;
  before =
      part-added c.args.each c.loop-x.x c.loop-x.clause.items c.add_new.new.clause.items c.at.result c.at.ensures
      (part-new c.args.each c.loop-x.x c.loop-x.clause.items c.at.result c.at.ensures c.loop-x.invariant.before) c.in_ok-add_new.ensures c.loop-x.invariant.before;
}

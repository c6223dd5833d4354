use Rattle.std.proofs.Common.{◌≡◌, ◌∙◌, ap, arith}
use Rattle.std.specs.Prelude.{slice_index}
use Rattle.std.proofs.lemmas.List.{get_or_default}
use Rattle.axiom_rules.specs.Each.{part_at}
use Rattle.axiom_rules.proofs.EachLemmas.{each-more-of, part-new, rest-added}
use Rattle.axiom_rules.proofs.clause.add_each_of.Goals as goal

here : (c : goal.After-at) → c.at.result ≡ part_at c.args.each (slice_index c.args.events.now c.loop-x.x-index)
here c = c.at.ensures ∙ ap (part_at c.args.each) (get_or_default c.args.events.now c.loop-x.x-index _ 0 c.loop-x-test.true)

pub add_new-requires : goal.add_new-requires
add_new-requires c =
    part-new c.args.each (slice_index c.args.events.now c.loop-x.x-index) c.loop-x.clause.items c.at.result (here c) (c.loop-x.invariant.before c.loop-x.x-index (omega arith) c.loop-x-test.true)

pub loop-x-preserved : goal.loop-x-preserved
loop-x-preserved c =
    let is : c.at.result ≡ part_at c.args.each (slice_index c.args.events.now c.loop-x.x-index) =
    c.at.ensures ∙ ap (part_at c.args.each) (get_or_default c.args.events.now c.loop-x.x-index _ 0 c.loop-x-test.true) in
    record {
      same =
          each-more-of c.args.each c.loop-x.clause.items c.add_new.new.clause.items c.args.events.now c.loop-x.x-index c.at.result c.loop-x-test.true is c.in_ok-add_new.ensures
          ∙ c.loop-x.invariant.same;
      before =
          rest-added c.args.each c.args.events.now c.loop-x.x-index c.loop-x.clause.items c.add_new.new.clause.items c.at.result c.requires.rising
          c.loop-x-test.true is c.in_ok-add_new.ensures c.loop-x.invariant.before;
    }

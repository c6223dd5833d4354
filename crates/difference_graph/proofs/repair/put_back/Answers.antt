use Rattle.std.proofs.Common.{◌∙◌, ◌-◌, rules, arith, pos, get_or, length-set}
use Rattle.std.specs.Int.{w128}
use Rattle.std.proofs.lemmas.Int.{to_z-of_z}
use mir.Val.{SFits}
use Rattle.difference_graph.proofs.WorkLemmas.{differs_less, all_back}
use Rattle.difference_graph.proofs.repair.put_back.Goals as goal

pub loop-left-preserved : goal.loop-left-preserved
loop-left-preserved c =
    let inv = c.loop-left.invariant in
    let some = c.loop-left-test.true in
    let fits : SFits w128 (get_or c.args.former.now (c.loop-left.left - 1) (pos 0)) = search rules in
    let read = to_z-of_z w128 (get_or c.args.former.now (c.loop-left.left - 1) (pos 0)) fits in
    let within = c.requires.within (c.loop-left.left - 1) 0 (omega (arith, some, inv.within)) in
    let edge = c.requires.edges (get_or c.args.places.now (c.loop-left.left - 1) 0) (record { from = 0; to = 0; bound = pos 0 }) within in
    record {
      within = omega (arith, inv.within);
      count = length-set _ _ _ ∙ inv.count;
      differs =
          λ old former differs. differs_less c.args.edges.now c.args.places.now old c.args.former.now c.loop-left.numbers former
          c.loop-left.left some inv.within (inv.differs old former differs) (omega (arith, edge.from, inv.count)) _ read;
    }

pub returns : goal.returns
returns c = record {
  same =
      λ old former differs. all_back c.args.edges.now c.args.places.now c.loop-left.left old c.loop-left.numbers
      (omega (arith, c.loop-left-test.false)) (c.loop-left.invariant.differs old former differs);
}

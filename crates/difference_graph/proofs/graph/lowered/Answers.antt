use Rattle.std.proofs.Common.{rules, ◌≡◌, ◌∙◌, ◌∷◌, [], ◌++◌, ap, arith}
use Rattle.std.specs.Int.{w128}
use Rattle.std.proofs.lemmas.Int.{to_z-of_z}
use Rattle.std.proofs.lemmas.List.{length_push}
use Rattle.std.proofs.lemmas.List.Elements.{All-push}
use mir.Val.{SFits}
use Rattle.difference_graph.specs.Gaps.{IsNumber}
use Rattle.difference_graph.proofs.graph.lowered.Goals as goal

pub loop-number-preserved : goal.loop-number-preserved
loop-number-preserved c =
    let items = (c.loop-number.list).items in
    let fits : SFits w128 c.within.result = search rules in
    let pushed : (c.push.new.self).items ≡ items ++ c.within.result ∷ [] = c.in_ok-push.ensures.items ∙ ap (λ x. items ++ x ∷ []) (to_z-of_z w128 c.within.result fits) in
    record {
      count = rw pushed (omega (arith, c.loop-number.invariant.count, length_push items c.within.result));
      numbers = rw pushed (All-push IsNumber items c.within.result c.loop-number.invariant.numbers c.within.ensures);
    }

use Rattle.std.proofs.Common.{◌∙◌, sym, ap, ◌++◌, ◌∷◌, [], map, zero-add, rules}
use Rattle.std.specs.Int.{w128}
use Rattle.std.proofs.lemmas.Int.{to_z-of_z}
use mir.Val.{SFits}
use Rattle.std.specs.List.{range_with_len}
use Rattle.std.proofs.lemmas.List.FromFn.{map-range_with_len_more}
use Rattle.mt_model.specs.Clocks.{offset_at}
use Rattle.skew_bounds.proofs.offsets.offsets.Goals as goal

pub loop-k-preserved : goal.loop-k-preserved
loop-k-preserved c =
    let offset = offset_at c.args.log.now c.args.times.now in
    let fits : SFits w128 c.offset.result = search (rules, c.offset.type_inv) in
    let pushed = rw (to_z-of_z w128 c.offset.result fits) at c.in_ok-push.ensures.items in
    pushed ∙ ap (λ xs. xs ++ c.offset.result ∷ []) c.loop-k.invariant
    ∙ ap (λ x. map offset (range_with_len 0 c.loop-k.k) ++ x ∷ []) c.offset.ensures
    ∙ sym (map-range_with_len_more offset 0 c.loop-k.k c.loop-k.k (zero-add c.loop-k.k))

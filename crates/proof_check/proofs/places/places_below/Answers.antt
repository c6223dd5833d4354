use Rattle.std.proofs.Common.{◌≡◌, ◌∙◌, ◌+◌, [], ◌∷◌, ◌++◌, ap, arith, sym}
use Rattle.std.specs.List.{range_with_len}
use Rattle.proof_check.proofs.places.places_below.Goals as goal
use Rattle.mt_list.proofs.Lists.{range_more}

pub loop-place-preserved : goal.loop-place-preserved
loop-place-preserved c =
    let place = c.loop-place.place in
    let next : place ≡ 0 + place = omega arith in
    c.in_ok-push.ensures.items ∙ ap (λ ks. ks ++ place ∷ []) c.loop-place.invariant ∙ ap (λ k. range_with_len 0 place ++ k ∷ []) next ∙ sym (range_more 0 place)

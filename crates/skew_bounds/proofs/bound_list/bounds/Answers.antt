use Rattle.std.proofs.Common.{◌∙◌, sym, ap, ◌++◌, ◌∷◌, [], append_assoc, zero-add, length, map}
use Rattle.std.specs.List.{flat_map, range_with_len}
use Rattle.std.proofs.lemmas.List.FromFn.{map-range_with_len_more}
use Rattle.mt_model.specs.declared.bound.Bound.TheVariants as bound
use Rattle.mt_model.specs.Bounds.{bounds_at}
use Rattle.skew_bounds.proofs.bound_list.bounds.Goals as goal

pub loop-k-preserved : goal.loop-k-preserved
loop-k-preserved c =
    let rows = flat_map (bounds_at c.args.log.now) (range_with_len 0 (length c.args.log.now.rows)) in
    let more = map-range_with_len_more bound.Extra 0 c.loop-k.k c.loop-k.k (zero-add c.loop-k.k) in
    c.in_ok-push.ensures.ok ∙ ap (λ xs. xs ++ bound.Extra c.loop-k.k ∷ []) c.loop-k.invariant
    ∙ append_assoc rows (map bound.Extra (range_with_len 0 c.loop-k.k)) (bound.Extra c.loop-k.k ∷ []) ∙ sym (ap (λ xs. rows ++ xs) more)

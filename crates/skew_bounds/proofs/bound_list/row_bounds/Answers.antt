use Rattle.std.proofs.Common.{◌∙◌, sym, ap, ◌++◌}
use Rattle.mt_model.specs.Bounds.{bounds_at}
use Rattle.skew_bounds.proofs.Ranges.{flat_map-range}
use Rattle.skew_bounds.proofs.bound_list.row_bounds.Goals as goal

pub loop-e-preserved : goal.loop-e-preserved
loop-e-preserved c =
    c.in_ok-add_row.ensures ∙ ap (λ row. c.loop-e.list ++ bounds_at c.args.log.now row) c.new.ensures.number
    ∙ ap (λ xs. xs ++ bounds_at c.args.log.now c.loop-e.e) c.loop-e.invariant ∙ sym (flat_map-range (bounds_at c.args.log.now) c.loop-e.e)

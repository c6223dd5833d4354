use Rattle.std.proofs.Common.{◌≡◌, ◌<◌, true, length, arith}
use Rattle.std.proofs.lemmas.Bool.Decides.{nat_tests}
use Rattle.mt_model.specs.Walks.{is_row}
use Rattle.skew_bounds.proofs.broken.is_over_broken.Goals as goal

pub returns-then-e-rows : goal.returns-then-e-rows
returns-then-e-rows c =
    let within : c.args.e < length c.args.log.now.rows = rw (c.get-e.ensures.number, c.rows.ensures.same) at c.if-e-rows.true in
    let row : is_row c.args.log.now c.args.e ≡ true = grind (arith, nat_tests) in
    rw row (rw c.get-e.ensures.number at c.is_ahead_of_any.ensures)

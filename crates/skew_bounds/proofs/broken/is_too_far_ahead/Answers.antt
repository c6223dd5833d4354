use Rattle.std.proofs.Common.{◌∙◌, sym, rules}
use mir.Val.{SFits}
use Rattle.std.specs.Int.{w128}
use Rattle.std.proofs.lemmas.Int.{to_z-of_z}
use Rattle.skew_bounds.proofs.RowReadings.{ahead-is, error-fits}
use Rattle.skew_bounds.proofs.broken.is_too_far_ahead.Goals as goal

pub returns-in-Some : goal.returns-in-Some
returns-in-Some c =
    let together = rw (c.row_reading-first.ensures.reading, c.row_reading-second.ensures.reading) at (sym c.shared_error.ensures.error ∙ c.in-Some.is) in
    let fits : SFits w128 c.shift.result = search (rules, c.shift.type_inv) in
    let fits-second : SFits w128 c.shift-in-Some.result = search (rules, c.shift-in-Some.type_inv) in
    let first = to_z-of_z w128 c.shift.result fits in
    let second = to_z-of_z w128 c.shift-in-Some.result fits-second in
    let small = c.in-Some.ensures.small in
    let error = to_z-of_z w128 c.in-Some.error (error-fits c.in-Some.error small) in
    ahead-is c.args.log.now c.args.e c.args.f c.args.times.now c.in-Some.error c.exceeds.result together
    (rw (first, second, error, c.shift.ensures.shift, c.shift-in-Some.ensures.shift) at c.exceeds.ensures)

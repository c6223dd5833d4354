use Rattle.std.proofs.Common.{◌∙◌, sym, ap, Some, rules}
use mir.Val.{SFits}
use Rattle.std.specs.Int.{w128}
use Rattle.std.proofs.lemmas.Int.{to_z-of_z}
use Rattle.skew_bounds.proofs.RowReadings.{greatest-next}
use Rattle.skew_bounds.proofs.offsets.greatest_with.Goals as goal

pub returns-then-get-k : goal.returns-then-get-k
returns-then-get-k c =
    let fits : SFits w128 c.greater.result = search (rules, c.greater.type_inv) in
    let fits-least : SFits w128 c.least_at.result = search (rules, c.least_at.type_inv) in
    let read = to_z-of_z w128 c.greater.result fits in
    let least = to_z-of_z w128 c.least_at.result fits-least in
    let found = sym c.row_reading.ensures.reading ∙ c.in-Some.is in
    let greater = rw (least, c.least_at.ensures, c.requires.greatest) at c.greater.ensures in
    rw read (ap Some greater ∙ sym (greatest-next c.args.log.now c.args.times.now c.args.k c.args.e c.in-Some.reading found (sym c.get.ensures.number ∙ c.if-get-k.true)))

use Rattle.std.proofs.Common.{◌≡◌, sym, subst, arith, ℤ, pos, ◌-ℤ◌, neg_ℤ, to_z, of_z}
use Rattle.std.specs.Int.{w128}
use Rattle.std.proofs.lemmas.Int.{ints}
use Rattle.mt_model.specs.Log.{IsLog, with_extra}
use Rattle.verdict_span.proofs.Extras.{spaced-valid}
use Rattle.verdict_span.proofs.spacing.spaced.Goals as goal

pub with_extra-requires : goal.with_extra-requires
with_extra-requires c =
    let s = c.args.span.now in
    let log = s.aim.log.now in
    let low = c.requires.range.low in
    let high = c.requires.range.high in
    let bound : to_z w128 (of_z w128 (pos 0 -ℤ to_z w128 (of_z w128 c.args.c))) ≡ neg_ℤ c.args.c = omega (arith, ints, low, high) in
    rw c.in_ok-copy.ensures.same
    (subst (λ (z : ℤ). IsLog (with_extra log (record { e = s.e; f = s.to; c = z }))) (sym bound) (spaced-valid log s.e s.to c.args.c c.log_is_valid.ensures.valid s.pair c.requires.range))

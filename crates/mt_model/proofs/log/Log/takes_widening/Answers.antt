use Rattle.std.proofs.Common.{arith}
use Rattle.std.proofs.lemmas.Int.{ints, to_z-of_z}
use Rattle.mt_model.proofs.log.Log.takes_widening.Goals as goal

pub returns-then-s-ge0 : goal.returns-then-s-ge0
returns-then-s-ge0 c =
    let each = simp (to_z-of_z, c.ranges.s) at c.may_widen_all.ensures in
    let is = rw (c.as_slice.ensures.items, c.as_slice-then-s-ge0.ensures.items) at each in
    rw (← c.self.view_is) (record { valid = (λ t. let both = is.0 t in (omega (arith, ints, c.if-s-ge0.true), both.0, both.1), λ three. is.1 (three.1, three.2)) })

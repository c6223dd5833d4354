use Rattle.std.proofs.Common.{◌≡◌, ◌∙◌, sym, ◌==◌, ◌&&◌, ◌-◌, nat_le, arith}
use Rattle.std.proofs.lemmas.List.{get_or_default}
use Rattle.mt_model.specs.declared.reading.Reading.{Reading}
use Rattle.mt_model.proofs.LastPassing.{last-from_front, last-here, last-not_here, last-none}
use Rattle.mt_model.proofs.reading.last_reading.Goals as goal

pub loop-k-init : goal.loop-k-init
loop-k-init c = last-from_front (λ r. r.host == c.args.host && nat_le r.place c.args.e) c.args.readings.now

pub returns-then-applies : goal.returns-then-applies
returns-then-applies c =
    let same : c.index-readings-k-then-applies.result ≡ c.index-readings-k.result =
    c.index-readings-k-then-applies.is ∙ get_or_default c.args.readings.now (c.loop-k.k - 1) c.index-readings-k-then-applies.result
    c.index-readings-k.result (omega (arith, c.loop-k-test.true, c.loop-k.auto.k)) ∙ sym c.index-readings-k.is in
    sym (c.loop-k.invariant ∙ last-here (λ (r : Reading). r.host == c.args.host && nat_le r.place c.args.e) c.args.readings.now c.loop-k.k c.index-readings-k-then-applies.result c.loop-k-test.true c.loop-k.auto.k c.index-readings-k-then-applies.is
    (rw (same) (sym c.applies.ensures ∙ c.if-applies.true)))

pub loop-k-preserved : goal.loop-k-preserved
loop-k-preserved c =
    c.loop-k.invariant ∙ last-not_here (λ (r : Reading). r.host == c.args.host && nat_le r.place c.args.e) c.args.readings.now c.loop-k.k
    c.index-readings-k.result c.loop-k-test.true c.loop-k.auto.k c.index-readings-k.is
    (sym c.applies.ensures ∙ c.if-applies.false)

pub returns : goal.returns
returns c = sym (c.loop-k.invariant ∙ last-none (λ (r : Reading). r.host == c.args.host && nat_le r.place c.args.e) c.args.readings.now c.loop-k.k (omega (arith, c.loop-k-test.false)))

use Rattle.std.proofs.Common.{refl, inl, arith}
use Rattle.mt_model.specs.declared.reading.Reading.{Reading}
use Rattle.mt_model.proofs.PlacesInOrder.{in_order-falls, in_order-more}
use Rattle.mt_model.proofs.reading.in_order.Goals as goal

pub loop-reading-init : goal.loop-reading-init
loop-reading-init c = record { pairs = λ i j d first second. absurd (omega arith); most = λ i d first. absurd (omega arith); reached = inl refl }

pub returns-then-reading-least : goal.returns-then-reading-least
returns-then-reading-least c = (
  λ no. absurd (cc),
  λ all. absurd
      (in_order-falls (λ (r : Reading). r.place) c.args.readings.now c.loop-reading.reading-index c.loop-reading.least c.reading-item.result c.loop-reading-test.true
      c.reading-item.is c.loop-reading.invariant c.if-reading-least.true all),
)

pub loop-reading-preserved : goal.loop-reading-preserved
loop-reading-preserved c =
    in_order-more (λ (r : Reading). r.place) c.args.readings.now c.loop-reading.reading-index c.loop-reading.least c.reading-item.result c.loop-reading-test.true
    c.reading-item.is c.loop-reading.invariant c.if-reading-least.false

pub returns : goal.returns
returns c = (
  λ yes i j d first second. c.loop-reading.invariant.pairs i j d first (let most = c.loop-reading-test.false in omega (arith, second, most)),
  λ all. refl,
)

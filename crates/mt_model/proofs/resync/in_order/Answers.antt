use Rattle.std.proofs.Common.{refl, inl, arith}
use Rattle.mt_model.specs.declared.resync.Resync.{Resync}
use Rattle.mt_model.proofs.PlacesInOrder.{in_order-falls, in_order-more}
use Rattle.mt_model.proofs.resync.in_order.Goals as goal

pub loop-resync-init : goal.loop-resync-init
loop-resync-init c = record { pairs = λ i j d first second. absurd (omega arith); most = λ i d first. absurd (omega arith); reached = inl refl }

pub returns-then-resync-least : goal.returns-then-resync-least
returns-then-resync-least c = (
  λ no. absurd (cc),
  λ all. absurd
      (in_order-falls (λ (r : Resync). r.place) c.args.resyncs.now c.loop-resync.resync-index c.loop-resync.least c.resync-item.result c.loop-resync-test.true
      c.resync-item.is c.loop-resync.invariant c.if-resync-least.true all),
)

pub loop-resync-preserved : goal.loop-resync-preserved
loop-resync-preserved c =
    in_order-more (λ (r : Resync). r.place) c.args.resyncs.now c.loop-resync.resync-index c.loop-resync.least c.resync-item.result c.loop-resync-test.true
    c.resync-item.is c.loop-resync.invariant c.if-resync-least.false

pub returns : goal.returns
returns c = (
  λ yes i j d first second. c.loop-resync.invariant.pairs i j d first (let most = c.loop-resync-test.false in omega (arith, second, most)),
  λ all. refl,
)

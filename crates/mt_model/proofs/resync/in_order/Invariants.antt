use Rattle.mt_model.proofs.PlacesInOrder.{IsInOrder}
use Rattle.mt_model.proofs.resync.in_order.Given as goal

abbrev pub invariant-loop-resync : goal.invariant-loop-resync
invariant-loop-resync l = IsInOrder (λ r. r.place) l.resyncs l.resync-index l.least

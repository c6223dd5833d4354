use Rattle.mt_model.proofs.PlacesInOrder.{IsInOrder}
use Rattle.mt_model.proofs.reading.in_order.Given as goal

abbrev pub invariant-loop-reading : goal.invariant-loop-reading
invariant-loop-reading l = IsInOrder (λ r. r.place) l.readings l.reading-index l.least

use Rattle.std.proofs.Common.{◌≡◌, ◌++◌, map, take}
use Rattle.mtl_encode.proofs.variables.push_orders.Given as goal

abbrev pub invariant-loop-order : goal.invariant-loop-order
invariant-loop-order l = l.vars.items ≡ l.fn.vars.items ++ map (λ r. r.var) (take l.order-index l.orders)

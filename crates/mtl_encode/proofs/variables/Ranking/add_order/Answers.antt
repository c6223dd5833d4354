use Rattle.std.proofs.Common.{map}
use Rattle.mtl_encode.proofs.Rankings.{first-more}
use Rattle.mtl_encode.proofs.variables.Ranking.add_order.Goals as goal

pub returns : goal.returns
returns c = rw c.in_ok-push.ensures.items (first-more (λ r. r.var) c.args.self.now.orders.items (map (λ r. r.var) c.args.self.now.others.items) (record { apart = c.args.apart; var = c.args.var }))

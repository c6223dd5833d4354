use Rattle.std.proofs.Common.{map}
use Rattle.mtl_encode.proofs.Rankings.{second-more}
use Rattle.mtl_encode.proofs.variables.Ranking.add_other.Goals as goal

pub returns : goal.returns
returns c =
    rw c.in_ok-push.ensures.items
    (second-more (λ r. r.var) (map (λ r. r.var) c.args.self.now.orders.items) c.args.self.now.others.items (record { subject = c.args.subject; part = c.args.part; var = c.args.var }))

use Rattle.std.proofs.Common.{◌≡◌, take}
use Rattle.propagate.specs.Trails.{literals}
use Rattle.cdcl_core.specs.Orders.{linked}
use Rattle.cdcl_core.proofs.linked.LinkedLits.extend_to.Given as goal

abbrev pub invariant-loop-place : goal.invariant-loop-place
invariant-loop-place l = l.self.lits.items ≡ linked l.links (literals (take l.place l.trail.entries))

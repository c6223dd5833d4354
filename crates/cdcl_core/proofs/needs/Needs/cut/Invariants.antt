use Rattle.std.proofs.Common.{length}
use Rattle.cdcl_core.proofs.needs.Needs.cut.Given as goal

abbrev pub decreases-places : goal.decreases-places
decreases-places l = length l.self.places.items

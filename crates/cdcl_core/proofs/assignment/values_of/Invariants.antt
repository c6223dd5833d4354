use Rattle.std.proofs.Common.{◌≡◌, ◌<◌, length, All}
use Rattle.mtl_encode.specs.Models.{value_at}
use Rattle.cdcl_core.proofs.assignment.values_of.Given as goal

abbrev pub invariant-loop-v : goal.invariant-loop-v
invariant-loop-v l = record {
  count : length l.values ≡ l.v;
  sense : All (λ e. e.lit.var < l.v → value_at l.values e.lit.var ≡ e.lit.positive) l.trail.entries;
}

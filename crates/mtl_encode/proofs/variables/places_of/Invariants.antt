use Rattle.std.proofs.Common.{◌≡◌, ◌<◌, ℕ, length}
use Rattle.std.specs.Prelude.{slice_index}
use Rattle.mtl_encode.proofs.variables.places_of.Given as goal

abbrev pub invariant-loop-n : goal.invariant-loop-n
invariant-loop-n l = record {
  count : length l.places.items ≡ length l.order;
  each : (m : ℕ) → m < l.n → slice_index l.places.items (slice_index l.order m) ≡ m;
}

use Rattle.std.proofs.Common.{◌≡◌, map, take}
use Rattle.mt_model.specs.Bounds.{step_of}
use Rattle.skew_bounds.specs.Edges.{bound_at}
use Rattle.skew_bounds.proofs.consistency.steps_of.Given as goal

abbrev pub invariant-loop-place : goal.invariant-loop-place
invariant-loop-place l = l.steps ≡ map (λ p. step_of (bound_at l.bounds p)) (take l.place-index l.places)

-- Closed walks of three edges.
use Rattle.std.specs.Prelude.{◌≡◌, ◌≢◌, pos, ◌+ℤ◌, ◌<ℤ◌}
use Rattle.neg_cycle.specs.declared.system.Edge.{Edge}

-- each edge begins where the one before ends, the first where the last ends, no two at one node, and their bounds are below 0 together
pub record AreClosed (a b c : Edge) : Type 0 where
  pub first : a.to ≡ b.from
  pub second : b.to ≡ c.from
  pub third : c.to ≡ a.from
  pub apart_first : a.from ≢ b.from
  pub apart_second : b.from ≢ c.from
  pub apart_third : a.from ≢ c.from
  pub negative : (a.bound +ℤ b.bound +ℤ c.bound) <ℤ pos 0

-- The two ways in which an operator looks.
use Rattle.std.specs.Prelude.{Bool}
use Rattle.mt_model.specs.declared.tree.Interval.{Interval}
use Rattle.mt_model.specs.Frame.{Frame, turned, is_ahead, is_behind}
use Rattle.formula_arena.specs.declared.direction.Direction.{Direction}
use Rattle.formula_arena.specs.declared.direction.Direction.TheVariants.{Ahead, Behind}

-- the points in the order in which they are met
abbrev pub met : {X : Type 0} → Direction → Frame X → Frame X
met Ahead F = F
met Behind F = turned F

-- how far the second point is from the first one, that way, is in the interval
abbrev pub is_near : {X : Type 0} → Direction → Frame X → Interval → X → X → Bool
is_near Ahead F I = is_ahead F I
is_near Behind F I = is_behind F I

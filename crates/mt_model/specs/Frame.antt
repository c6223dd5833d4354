-- Points in time, and what until and since ask of them.
use Rattle.std.specs.Prelude.{List, Bool, true, not, ◌&&◌, ◌||◌, ℤ, pos, ◌-ℤ◌, int_le}
use Rattle.std.specs.List.{list_any, list_all}
use Rattle.std.specs.Option.{option_map_or}
use Rattle.mt_model.specs.declared.tree.Interval.{Interval}

-- a list of points, which of two is not after the other, and the instant of each
pub record Frame (X : Type 0) : Type 0 where
  pub points : List X
  pub not_after : X → X → Bool
  pub instant : X → ℤ

-- the same points with time turned round, so that what comes before is what comes after
abbrev pub turned : {X : Type 0} → Frame X → Frame X
turned F = record { points = F.points; not_after = λ x y. F.not_after y x; instant = F.instant }

-- where the first holds, the second does
abbrev pub implies : Bool → Bool → Bool
implies a b = not a || b

-- a distance is in an interval, both of whose ends are in it
abbrev pub is_in : Interval → ℤ → Bool
is_in I distance = int_le (pos I.low) distance && option_map_or (λ b. int_le distance (pos b)) I.high true

-- how far y is after x, and how far it is before x, is in the interval
abbrev pub is_ahead : {X : Type 0} → Frame X → Interval → X → X → Bool
is_ahead F I x y = is_in I (F.instant y -ℤ F.instant x)

abbrev pub is_behind : {X : Type 0} → Frame X → Interval → X → X → Bool
is_behind F I x y = is_in I (F.instant x -ℤ F.instant y)

-- f holds at each point from x on that is before y
abbrev pub span : {X : Type 0} → Frame X → (X → Bool) → X → X → Bool
span F f x y = list_all (λ z. implies (F.not_after x z && not (F.not_after y z)) (f z)) F.points

-- y is near x, g holds there, and f from x on up to there
abbrev pub witness : {X : Type 0} → Frame X → (X → X → Bool) → (X → Bool) → (X → Bool) → X → X → Bool
witness F near f g x y = near x y && g y && span F f x y

-- some point from x on is a witness
abbrev pub reaches : {X : Type 0} → Frame X → (X → X → Bool) → (X → Bool) → (X → Bool) → X → Bool
reaches F near f g x = list_any (λ y. F.not_after x y && witness F near f g x y) F.points

-- f holds at some point from x on that is near x
abbrev pub sometimes : {X : Type 0} → Frame X → (X → X → Bool) → (X → Bool) → X → Bool
sometimes F near f x = list_any (λ y. F.not_after x y && near x y && f y) F.points

-- f holds at each point from x on that is near x
abbrev pub always : {X : Type 0} → Frame X → (X → X → Bool) → (X → Bool) → X → Bool
always F near f x = list_all (λ y. implies (F.not_after x y && near x y) (f y)) F.points

-- A walk as far as it has come.
use Rattle.std.specs.Prelude.{◌≡◌, ◌≢◌, ◌+◌, ◌-◌, ◌*◌, ◌^◌, ◌≤◌, ℕ, List, [], ◌∷◌, ◌++◌, length, map, take, Option, Some, slice_get, ℤ, pos, ◌+ℤ◌, ◌≤ℤ◌, ◌<ℤ◌}
use Rattle.std.specs.Prelude.{option_and_then, IfSome}
use Rattle.mt_model.specs.declared.step.Step.{Step}
use Rattle.mt_model.specs.Log.{Logged}
use Rattle.mt_model.specs.Walks.{Edge, IsClosedWalk, LeadsTo, sum_of_bounds}
use Rattle.proof_check.specs.declared.walk.Walk.{Walk}
use Rattle.proof_check.specs.declared.cycle_walk.Course.{Course}
use Rattle.proof_check.specs.declared.cycle_walk.Course.TheVariants as course
use Rattle.proof_check.specs.declared.cycle_walk.CycleWalk.{CycleWalk}
use Rattle.proof_check.specs.Cycles.{FollowOneAnother, bound_edge_of}

-- from -n to n
pub record IsNear (n : ℕ) (x : ℤ) : Type 0 where
  pub low : pos 0 ≤ℤ (x +ℤ pos n)
  pub high : x ≤ℤ pos n

-- the walk is that of the steps, whose edges lead from its start to its end
pub record Covers (edge : Step → Option Edge) (steps : List Step) (walk : Walk) : Type 0 where
  pub edges : List Edge
  pub found : map edge steps ≡ map Some edges
  pub leads : LeadsTo walk.start edges walk.«end»
  pub sum : walk.sum ≡ sum_of_bounds edges
  pub near : IsNear (length steps * 2 ^ 90) walk.sum

-- the first step's edge begins at node a
abbrev pub BeginsAt : (Step → Option Edge) → List Step → ℕ → Type 0
BeginsAt edge steps a = (x : Edge) × (option_and_then edge (slice_get steps 0) ≡ Some x) × (x.from ≡ a)

-- the walk with an edge more
abbrev pub with_edge : Walk → Edge → Walk
with_edge walk x = record { start = walk.start; «end» = x.to; sum = walk.sum +ℤ x.bound }

-- there is an edge, it begins where the walk ends, and the other walk has it too
pub record Goes (walk : Walk) (edge : Option Edge) (further : Walk) : Type 0 where
  pub x : Edge
  pub there : edge ≡ Some x
  pub joined : x.from ≡ walk.«end»
  pub is : further ≡ with_edge walk x

-- there is no edge, or it doesn't begin where the walk ends
abbrev pub Stops : Walk → Option Edge → Type 0
Stops walk edge = IfSome edge (λ x. x.from ≢ walk.«end»)

module _ (edge : Step → Option Edge) where
  -- there are steps, and the walk is theirs
  pub record Follows (steps : List Step) (walk : Walk) : Type 0 where
    pub begins : BeginsAt edge steps walk.start
    pub covers : Covers edge steps walk

  -- the steps have edges, each of which begins where the one before ends
  pub record IsJoined (steps : List Step) : Type 0 where
    pub edges : List Edge
    pub found : map edge steps ≡ map Some edges
    pub joined : FollowOneAnother edges

  -- the edges of the steps form a closed walk of negative sum
  pub record IsCyclic (steps : List Step) : Type 0 where
    pub edges : List Edge
    pub found : map edge steps ≡ map Some edges
    pub closed : IsClosedWalk edges
    pub negative : sum_of_bounds edges <ℤ pos 0

  -- step n is the first one that has no edge or doesn't begin where the one before ends
  pub record StopsAt (steps : List Step) (n : ℕ) : Type 0 where
    pub some : 1 ≤ n
    pub within : n ≤ length steps
    pub before : IsJoined (take (n - 1) steps)
    pub loose : IsJoined (take n steps) → ⊥

  -- how far steps lead: there are none, they form a walk, or they stop at one
  abbrev pub LeadsUpTo : List Step → Course → Type 0
  LeadsUpTo steps course.Start = steps ≡ []
  LeadsUpTo steps (course.Along walk) = Follows steps walk
  LeadsUpTo steps (course.Stopped n) = StopsAt steps n

  -- these steps were given, and lead so far
  pub record HasCome (steps : List Step) (walk : CycleWalk) : Type 0 where
    pub count : walk.count ≡ length steps
    pub course : LeadsUpTo steps walk.course

-- the same of the bounds of a log
abbrev pub HasWalked : Logged → List Step → CycleWalk → Type 0
HasWalked log = HasCome (bound_edge_of log)

-- the sum of n bounds is near
abbrev pub IsRoomy : ℕ → Course → Type 0
IsRoomy n course.Start = Unit {0}
IsRoomy n (course.Along walk) = IsNear (n * 2 ^ 90) walk.sum
IsRoomy n (course.Stopped place) = Unit {0}

-- the sum of a walk's bounds is near
abbrev pub HasRoom : CycleWalk → Type 0
HasRoom walk = IsRoomy walk.count walk.course

-- P holds of steps and of these with one more that has this edge, whichever edges steps have
abbrev pub OfStep : Option Edge → ((Step → Option Edge) → List Step → List Step → Type 0) → Type 0
OfStep edge P = (edges : Step → Option Edge) (steps : List Step) (step : Step) → edge ≡ edges step → P edges steps (steps ++ step ∷ [])

-- the same where the one more has this number
abbrev pub OfNumberedStep : ℕ → Option Edge → ((Step → Option Edge) → List Step → List Step → Type 0) → Type 0
OfNumberedStep number edge P =
    (edges : Step → Option Edge) (steps : List Step) (step : Step) → edge ≡ edges step → length steps + 1 ≡ number → P edges steps (steps ++ step ∷ [])

-- where the walk is that of the steps, and these with one more begin where it does, they lead so far
abbrev pub LeadsOn : Walk → Course → (Step → Option Edge) → List Step → List Step → Type 0
LeadsOn walk course edges steps more = Covers edges steps walk → BeginsAt edges more walk.start → LeadsUpTo edges more course

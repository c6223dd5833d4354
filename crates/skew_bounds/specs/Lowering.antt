-- Numbers of nodes that are lowered until they meet edges, while each node that was lowered waits.
use Rattle.std.specs.Prelude.{◌≡◌, ◌⊎◌, ℕ, ◌+◌, ◌-◌, ◌*◌, ◌^◌, ◌<◌, ◌≤◌, List, length, All, Contains, sum_by, ℤ, pos, negsuc, ◌+ℤ◌, ◌-ℤ◌, ◌≤ℤ◌, [], ◌∷◌}
use Rattle.mt_model.specs.Log.{IsWithin}
use Rattle.mt_model.specs.declared.limits.TheConstants.{MAX_TIME}
use Rattle.neg_cycle.specs.declared.system.Edge.{Edge}
use Rattle.neg_cycle.specs.Systems.{Meets, number_of}
use Rattle.skew_bounds.specs.declared.latest.TheConstants.{UNREACHED}
use Rattle.skew_bounds.specs.declared.lowering.Waiting.{Waiting}
use Rattle.skew_bounds.specs.declared.column.TheConstants.{FAR}

-- how far the number of a node is below that in a potential
abbrev pub ahead_of : List ℤ → List ℤ → ℕ → ℤ
ahead_of potential numbers v = number_of potential v -ℤ number_of numbers v

-- a node that waits with a number
abbrev pub entry_of : List ℤ → ℕ → ℤ → Waiting
entry_of potential v number = record { ahead = number_of potential v -ℤ number; node = v }

-- a node waits with the number that it has
abbrev pub Waits : List ℤ → List ℤ → List Waiting → ℕ → Type 0
Waits potential numbers waiting v = Contains waiting (entry_of potential v (number_of numbers v))

-- the nodes that wait are among so many
abbrev pub AreNodes : ℕ → List Waiting → Type 0
AreNodes count waiting = All (λ w. w.node < count) waiting

-- no number is below the node's number in y, less a
abbrev pub IsFloor : List ℤ → ℤ → List ℤ → Type 0
IsFloor y a numbers = (v : ℕ) → v < length numbers → (number_of y v -ℤ a) ≤ℤ number_of numbers v

-- as many numbers as a potential has, whose own are as near to 0 as times; none is far below the potential's, nor above
-- where it was unreached
pub record IsSearch (potential numbers : List ℤ) : Type 0 where
  pub count : length numbers ≡ length potential
  pub near : All (IsWithin MAX_TIME) potential
  pub least : ℤ
  pub least_near : IsWithin MAX_TIME least
  pub floor : IsFloor potential least numbers
  pub high : (v : ℕ) → v < length numbers → number_of numbers v ≤ℤ (UNREACHED +ℤ FAR)

-- how far a number is above -2 ^ 70
abbrev pub height : ℤ → ℕ
height (pos n) = 2 ^ 70 + n
height (negsuc n) = 2 ^ 70 - (n + 1)

-- how often numbers can still fall, with how many nodes wait
abbrev pub work : List ℤ → List Waiting → ℕ
work numbers waiting = 2 * sum_by height numbers + length waiting

-- the numbers meet these edges, and the node keeps its number; none rose, or fell below a solution of the edges; each
-- node that fell waits, and those that waited still do; there is no more to do than before
pub record IsLowered (potential : List ℤ) (node : ℕ) (edges : List Edge) (old : List ℤ) (before : List Waiting) (new : List ℤ) (after : List Waiting) : Type 0 where
  pub count : length new ≡ length old
  pub met : All (Meets new) edges
  pub own : number_of new node ≡ number_of old node
  pub lower : (v : ℕ) → number_of new v ≤ℤ number_of old v
  pub above : (y : List ℤ) (a : ℤ) → All (Meets y) edges → IsFloor y a old → IsFloor y a new
  pub waits : (v : ℕ) → (number_of new v ≡ number_of old v) ⊎ Waits potential new after v
  pub kept : (w : Waiting) → Contains before w → Contains after w
  pub nodes : AreNodes (length potential) before → AreNodes (length potential) after
  pub less : work new after ≤ work old before

-- the same for one edge and the node where it ends
abbrev pub IsRelaxed : List ℤ → Edge → List ℤ → List Waiting → List ℤ → List Waiting → Type 0
IsRelaxed potential edge old before new after = IsLowered potential edge.to (edge ∷ []) old before new after

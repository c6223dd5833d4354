-- The numbers with which a search for the greatest begins.
use Rattle.std.specs.Prelude.{◌≡◌, ◌≢◌, ℕ, ◌<◌, List, length, All, Contains, ℤ, pos, ◌+ℤ◌, ◌-ℤ◌, ◌≤ℤ◌}
use Rattle.mt_model.specs.Log.{IsWithin}
use Rattle.neg_cycle.specs.declared.system.Edge.{Edge}
use Rattle.neg_cycle.specs.Systems.{Meets, number_of}
use Rattle.skew_bounds.specs.Incoming.{IsLatest, IsNear, ending_at}
use Rattle.skew_bounds.specs.declared.latest.TheConstants.{UNREACHED}
use Rattle.skew_bounds.specs.declared.column.TheConstants.{FAR}

-- no near solution has one node further above another one than this
abbrev pub IsMost : List (List Edge) → ℕ → ℕ → ℤ → Type 0
IsMost incoming above below most = (y : List ℤ) → IsNear incoming y → (number_of y above -ℤ number_of y below) ≤ℤ most

-- the greatest numbers from the zero moment, which are no further from 0 than two times can be apart
pub record IsNearLatest (incoming : List (List Edge)) (zero : List ℤ) : Type 0 where
  pub latest : IsLatest incoming 0 zero
  pub near : All (IsWithin FAR) zero

-- one of these edges begins at a node and has this bound
pub record IsBoundFrom (from : ℕ) (edges : List Edge) (bound : ℤ) : Type 0 where
  pub edge : Edge
  pub there : Contains edges edge
  pub begins : edge.from ≡ from
  pub bounds : edge.bound ≡ bound

-- a node has 0, and each other one its number in a solution, moved up so far
pub record IsMoved (solution : List ℤ) (raise : ℤ) (node : ℕ) (numbers : List ℤ) : Type 0 where
  pub count : length numbers ≡ length solution
  pub own : number_of numbers node ≡ pos 0
  pub others : (v : ℕ) → v < length solution → v ≢ node → number_of numbers v ≡ number_of solution v +ℤ raise

-- a node has 0, and no near solution is further above it anywhere; only edges that end there may not be met
pub record IsBeginning (incoming : List (List Edge)) (node : ℕ) (numbers : List ℤ) : Type 0 where
  pub count : length numbers ≡ length incoming
  pub own : number_of numbers node ≡ pos 0
  pub most : (v : ℕ) → v < length incoming → IsMost incoming v node (number_of numbers v)
  pub high : (v : ℕ) → v < length incoming → number_of numbers v ≤ℤ (UNREACHED +ℤ FAR)
  pub met : (v : ℕ) → v < length incoming → v ≢ node → All (Meets numbers) (ending_at incoming v)

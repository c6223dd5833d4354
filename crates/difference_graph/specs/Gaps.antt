-- Numbers of nodes, all at most 0, and the gaps between them.
use Rattle.std.specs.Prelude.{◌≡◌, ℕ, ◌^◌, ◌<◌, List, length, All, count_by, ℤ, pos, ◌+ℤ◌, ◌-ℤ◌, ◌≤ℤ◌, ◌<ℤ◌, int_lt, Option, None, Some}
use Rattle.neg_cycle.specs.declared.system.Edge.{Edge}
use Rattle.neg_cycle.specs.Systems.{IsEdge, Meets, number_of}

-- from -n to 0
pub record IsFromMinus (n : ℕ) (x : ℤ) : Type 0 where
  pub low : pos 0 ≤ℤ (x +ℤ pos n)
  pub high : x ≤ℤ pos 0

-- a number that a node can have between two calls
abbrev pub IsNumber : ℤ → Type 0
IsNumber x = IsFromMinus (2 ^ 115) x

-- a number that a node can have where an edge is to be met
abbrev pub IsNearNumber : ℤ → Type 0
IsNearNumber x = IsFromMinus (2 ^ 113) x

-- the new numbers meet each edge over the nodes that the old ones meet
abbrev pub KeepsMet : List ℤ → List ℤ → Type 0
KeepsMet old new = (e : Edge) → IsEdge (length old) e → Meets old e → Meets new e

-- no number is above another by more than 2^113
abbrev pub IsNarrow : List ℤ → Type 0
IsNarrow numbers = (v w : ℕ) → v < length numbers → w < length numbers → number_of numbers v ≤ℤ (number_of numbers w +ℤ pos (2 ^ 113))

-- each number is as far above the first as before
abbrev pub HasSameDifferences : List ℤ → List ℤ → Type 0
HasSameDifferences old new = (v : ℕ) → v < length old → number_of new v -ℤ number_of new 0 ≡ number_of old v -ℤ number_of old 0

-- all numbers are raised by as much, and the greatest of them is 0
pub record IsLifted (old new : List ℤ) : Type 0 where
  pub count : length new ≡ length old
  pub by : ℤ
  pub rises : pos 0 ≤ℤ by
  pub each : (v : ℕ) → v < length old → number_of new v ≡ number_of old v +ℤ by
  pub high : (v : ℕ) → v < length old → number_of new v ≤ℤ pos 0
  pub place : ℕ
  pub within : place < length old
  pub top : number_of new place ≡ pos 0

-- how many numbers are below a level
abbrev pub count_below : ℤ → List ℤ → ℕ
count_below level numbers = count_by (λ x. int_lt x level) numbers

-- the greatest of the numbers below a level
pub record IsNextBelow (numbers : List ℤ) (level x : ℤ) : Type 0 where
  pub below : x <ℤ level
  pub greatest : All (λ y. y <ℤ level → y ≤ℤ x) numbers
  pub place : ℕ
  pub within : place < length numbers
  pub held : number_of numbers place ≡ x

-- the greatest of the numbers below a level, if there is one
abbrev pub IsFound : List ℤ → ℤ → Option ℤ → Type 0
IsFound numbers level None = All (λ y. level ≤ℤ y) numbers
IsFound numbers level (Some x) = IsNextBelow numbers level x

-- the numbers below a level are raised by so much
pub record IsRaisedBelow (level by : ℤ) (old new : List ℤ) : Type 0 where
  pub count : length new ≡ length old
  pub low : (v : ℕ) → v < length old → number_of old v <ℤ level → number_of new v ≡ number_of old v +ℤ by
  pub high : (v : ℕ) → v < length old → level ≤ℤ number_of old v → number_of new v ≡ number_of old v

-- What a shelf and a sink tell, and what their calls do to it.
use Rattle.std.specs.Prelude.{◌≡◌, ℕ, ◌+◌, ◌^◌, ◌-◌, ◌<◌, ◌≤◌, min, List, [], ◌∷◌, ◌++◌, take, Option, Result, OnErr, OnOk, bytes_eq, find, option_map}

-- a count rose, or stands at its end
abbrev pub Rose : ℕ → ℕ → Type 0
Rose before now = min (before + 1) (2 ^ 64 - 1) ≤ now

-- a count of faults didn't fall in a call, rose where the call failed, and stayed where it didn't
pub record HasCause {T E : Type 0} (before now : ℕ) (result : Result T E) : Type 0 where
  pub later : before ≤ now
  pub failed : OnErr result (Rose before now)
  pub quiet : OnOk result (now ≡ before)

-- what is told of the openings so far: that they were of just these names, the last one first
abbrev pub Openings : Type 1
Openings = List (List ℕ) → Type 0

-- names, the last one first, with these behind them
abbrev pub and_then : List (List ℕ) → List (List ℕ) → List (List ℕ)
and_then past [] = past
and_then past (name ∷ names) = and_then (name ∷ past) names

-- just these names are opened, in this order
abbrev pub Opens : List (List ℕ) → Openings → Openings → Type 0
Opens names before now = (past : List (List ℕ)) → before past → now (and_then past names)

-- named files
abbrev pub Files : Type 0
Files = List (List ℕ × List ℕ)

-- the file of a name
abbrev pub file_of : Files → List ℕ → Option (List ℕ)
file_of files name = option_map (λ f. f.1) (find (λ f. bytes_eq f.0 name) files)

-- n bytes of those that are left went to the front of a buffer of this size, none only at the end or with no room
pub record Gives (left rest : List ℕ) (size : ℕ) (filled : List ℕ) (n : ℕ) : Type 0 where
  pub split : left ≡ take n filled ++ rest
  pub end : n ≡ 0 → 0 < size → left ≡ []

-- Pieces of one list, with the place after the last element of each.
use Rattle.std.specs.Prelude.{◌≤◌, ℕ, List, [], ◌∷◌, slice_range}

-- each piece goes from the end of the one before it to its own end, the first from a start
abbrev pub pieces_from : {X : Type 0} → ℕ → List X → List ℕ → List (List X)
pieces_from start xs [] = []
pieces_from start xs (end ∷ ends) = slice_range xs start end ∷ pieces_from end xs ends

-- no end is before the one before it, and none is past the whole length
abbrev pub Rise : ℕ → List ℕ → ℕ → Type 0
Rise start [] whole = start ≤ whole
Rise start (end ∷ ends) whole = (start ≤ end) × Rise end ends whole

-- the last end, or the start where there is none
abbrev pub last_end : ℕ → List ℕ → ℕ
last_end start [] = start
last_end start (end ∷ ends) = last_end end ends

-- The positions of a timing: all rows that share an instant are at one position.
use Rattle.std.specs.Prelude.{ℕ, zero, suc, List, [], ◌∷◌, if◌then◌else◌, ℤ, int_lt}
use Rattle.mt_model.specs.Timing.{time_of}

-- a number put in its place among rising ones, unless it stands there
abbrev pub put : ℤ → List ℤ → List ℤ
put x [] = x ∷ []
put x (p ∷ ps) = if int_lt x p then x ∷ p ∷ ps else if int_lt p x then p ∷ put x ps else p ∷ ps

-- the distinct times, rising
abbrev pub positions_of : List ℤ → List ℤ
positions_of [] = []
positions_of (x ∷ t) = put x (positions_of t)

-- how many of rising numbers are less than a given number
abbrev pub index_of : List ℤ → ℤ → ℕ
index_of [] x = zero
index_of (p ∷ ps) x = if int_lt p x then suc (index_of ps x) else zero

-- the place of row e: the index of its time among the positions
abbrev pub place_of : List ℤ → ℕ → ℕ
place_of t e = index_of (positions_of t) (time_of t e)

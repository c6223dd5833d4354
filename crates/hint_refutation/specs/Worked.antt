-- Small cases, worked by hand. Literals are whole numbers other than 0: a positive one is a variable, and its negation is the
-- number less than 0.
use Rattle.std.specs.Prelude.{List, [], ◌∷◌, ℤ, pos, negsuc, neg_ℤ}
use Rattle.hint_refutation.specs.Hints.{Refutes, RefutesGiving, Used}
use Rattle.hint_refutation.specs.Propagation.{Misses}

-- the variables 1 and 2, and their negations
abbrev pub one : ℤ
one = pos 1

abbrev pub two : ℤ
two = pos 2

abbrev pub not_one : ℤ
not_one = negsuc 0

abbrev pub not_two : ℤ
not_two = negsuc 1

-- "1 or 2", and "not 2"
abbrev pub either : List ℤ
either = one ∷ two ∷ []

abbrev pub second_fails : List ℤ
second_fails = not_two ∷ []

-- what refutes and what doesn't
pub record WorkedCases : Type 0 where
  -- under "not 1" the first hint gives 2, and the second is false; so 1 is their resolvent
  pub giving : RefutesGiving neg_ℤ (not_one ∷ []) (either ∷ second_fails ∷ []) (two ∷ [])
  pub used : Used neg_ℤ (one ∷ []) (either ∷ second_fails ∷ [])
  -- no hint is false
  pub unfinished : Refutes neg_ℤ (not_one ∷ []) (either ∷ []) → ⊥
  -- a hint follows one that is false
  pub past_the_end : Refutes neg_ℤ (not_one ∷ []) ((one ∷ []) ∷ (one ∷ []) ∷ []) → ⊥
  -- the first hint has a literal that is assumed, and so gives none
  pub needless : Refutes neg_ℤ (two ∷ not_one ∷ []) (either ∷ second_fails ∷ []) → ⊥
  -- two literals of the first hint aren't false; in another order the hints refute
  pub too_early : Refutes neg_ℤ [] (either ∷ second_fails ∷ (not_one ∷ []) ∷ []) → ⊥
  pub in_order : Refutes neg_ℤ [] (second_fails ∷ either ∷ (not_one ∷ []) ∷ [])
  -- unit propagation over "1 or 2" reaches 2 from "not 1", and not from nothing
  pub reached : Misses neg_ℤ (either ∷ []) (not_one ∷ []) two → ⊥
  pub missed : Misses neg_ℤ (either ∷ []) [] two

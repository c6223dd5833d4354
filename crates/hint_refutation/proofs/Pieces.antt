-- Pieces of one list: more of them, and where each lies.
use Rattle.std.proofs.Common.{◌≡◌, ◌∙◌, ap, sym, refl, ℕ, zero, suc, ◌+◌, ◌-◌, ◌<◌, ◌≤◌, List, [], ◌∷◌, ◌++◌, length, get_or, take, drop, arith}
use Rattle.std.specs.Prelude.{slice_range}
use Rattle.std.proofs.lemmas.List.{get_or_read, take_all, take-append-le, drop-append-le, length-drop}
use Rattle.hint_refutation.specs.Pieces.{Rise, last_end, pieces_from}

-- Ends.

rise_below : (start : ℕ) (ends : List ℕ) (whole : ℕ) → Rise start ends whole → start ≤ whole
rise_below start [] whole rise = rise
rise_below start (end ∷ ends) whole (first, rest) = let below = rise_below end ends whole rest in omega (arith, first, below)

pub rise_more : (start : ℕ) (ends : List ℕ) (whole more : ℕ) → Rise start ends whole → whole ≤ more → Rise start ends more
rise_more start [] whole more rise le = omega (arith, rise, le)
rise_more start (end ∷ ends) whole more (first, rest) le = (first, rise_more end ends whole more rest le)

pub rise_last : (start : ℕ) (ends : List ℕ) (whole : ℕ) → Rise start ends whole → Rise start ends (last_end start ends)
rise_last start [] whole rise = omega arith
rise_last start (end ∷ ends) whole (first, rest) = (first, rise_last end ends whole rest)

pub last_within : (start : ℕ) (ends : List ℕ) (whole : ℕ) → Rise start ends whole → last_end start ends ≤ whole
last_within start [] whole rise = rise
last_within start (end ∷ ends) whole (first, rest) = last_within end ends whole rest

pub rise_push : (start : ℕ) (ends : List ℕ) (whole : ℕ) → Rise start ends whole → Rise start (ends ++ whole ∷ []) whole
rise_push start [] whole rise = (rise, omega arith)
rise_push start (end ∷ ends) whole (first, rest) = (first, rise_push end ends whole rest)

pub last_push : (start : ℕ) (ends : List ℕ) (whole : ℕ) → last_end start (ends ++ whole ∷ []) ≡ whole
last_push start [] whole = refl
last_push start (end ∷ ends) whole = last_push end ends whole

-- More behind the pieces.

-- a part of a list is the same part of a longer one
part_of_longer : {X : Type 0} (xs ys : List X) (a b : ℕ) → a ≤ b → b ≤ length xs → slice_range (xs ++ ys) a b ≡ slice_range xs a b
part_of_longer xs ys a b rising within =
    let fits : b - a ≤ length (drop a xs) = omega (arith, length-drop a xs) in
    ap (λ zs. take (b - a) zs) (drop-append-le a xs ys (omega arith)) ∙ take-append-le (b - a) (drop a xs) ys fits

-- pieces don't change by what is added behind them
pub pieces_more : {X : Type 0} (start : ℕ) (xs ys : List X) (ends : List ℕ) → Rise start ends (length xs) → pieces_from start (xs ++ ys) ends ≡ pieces_from start xs ends
pieces_more start xs ys [] rise = refl
pieces_more start xs ys (end ∷ ends) (first, rest) =
    ap (λ c. c ∷ pieces_from end (xs ++ ys) ends) (part_of_longer xs ys start end first (rise_below end ends (length xs) rest))
    ∙ ap (λ cs. slice_range xs start end ∷ cs) (pieces_more end xs ys ends rest)

-- what stands behind the last end is one piece more
pub pieces_push : {X : Type 0} (start : ℕ) (xs : List X) (ends : List ℕ) → pieces_from start xs (ends ++ length xs ∷ []) ≡ pieces_from start xs ends ++ drop (last_end start ends) xs ∷ []
pieces_push start xs [] = ap (λ c. c ∷ []) (take_all (length xs - start) (drop start xs) (omega (arith, length-drop start xs)))
pieces_push start xs (end ∷ ends) = ap (λ cs. slice_range xs start end ∷ cs) (pieces_push end xs ends)

pub pieces_count : {X : Type 0} (start : ℕ) (xs : List X) (ends : List ℕ) → length (pieces_from start xs ends) ≡ length ends
pieces_count start xs [] = refl
pieces_count start xs (end ∷ ends) = ap suc (pieces_count end xs ends)

-- Where a piece lies.

-- where a piece begins
record IsStart (start : ℕ) (ends : List ℕ) (k a : ℕ) : Type 0 where
  first : k ≡ 0 → a ≡ start
  later : 0 < k → a ≡ get_or ends (k - 1) 0

start_next : (start end : ℕ) (ends : List ℕ) (k a : ℕ) → IsStart start (end ∷ ends) (suc k) a → IsStart end ends k a
start_next start end ends zero a is = record { first = λ _. is.later (omega arith); later = λ none. absurd (omega (arith, none)) }
start_next start end ends (suc k) a is =
    let one : suc (suc k) - 1 ≡ suc k = omega arith in
    let less : suc k - 1 ≡ k = omega arith in
    record { first = λ none. absurd (omega (arith, none)); later = λ _. rw less (rw one at (is.later (omega arith))) }

piece_from : {X : Type 0} (start : ℕ) (xs : List X) (ends : List ℕ) (k a : ℕ) → IsStart start ends k a → k < length ends → get_or (pieces_from start xs ends) k [] ≡ slice_range xs a (get_or ends k 0)
piece_from start xs [] k a is below = absurd (omega (arith, below))
piece_from start xs (end ∷ ends) zero a is below = ap (λ s. slice_range xs s end) (sym (is.first refl))
piece_from start xs (end ∷ ends) (suc k) a is below = piece_from end xs ends k a (start_next start end ends k a is) (omega (arith, below))

-- a piece lies within the list
piece_within : (start : ℕ) (ends : List ℕ) (whole k a : ℕ) → Rise start ends whole → IsStart start ends k a → k < length ends → (a ≤ get_or ends k 0) × (get_or ends k 0 ≤ whole)
piece_within start [] whole k a rise is below = absurd (omega (arith, below))
piece_within start (end ∷ ends) whole zero a (first, rest) is below = (omega (arith, first, is.first refl), rise_below end ends whole rest)
piece_within start (end ∷ ends) whole (suc k) a (first, rest) is below = piece_within end ends whole k a rest (start_next start end ends k a is) (omega (arith, below))

-- the piece at a place goes from a to b
pub record IsSpan {X : Type 0} (xs : List X) (pieces : List (List X)) (place a b : ℕ) : Type 0 where
  pub rising : a ≤ b
  pub within : b ≤ length xs
  pub is : slice_range xs a b ≡ get_or pieces place []

pub held_end : {X : Type 0} (xs : List X) (ends : List ℕ) (pieces : List (List X)) (place : ℕ) → pieces_from 0 xs ends ≡ pieces → place < length pieces → place < length ends
held_end xs ends pieces place is below = omega (arith, pieces_count 0 xs ends, ap length is, below)

pub span : {X : Type 0} (xs : List X) (ends read : List ℕ) (pieces : List (List X)) (k a b : ℕ) → pieces_from 0 xs ends ≡ pieces → Rise 0 ends (length xs) → k < length pieces → read ≡ ends
    → (k ≡ 0 → a ≡ 0) → (0 < k → a ≡ get_or read (k - 1) 0) → b ≡ get_or ends k b → IsSpan xs pieces k a b
span xs ends read pieces k a b view rise below same first later end = record {
  rising = rw at_end (piece_within 0 ends (length xs) k a rise start held).0;
  within = rw at_end (piece_within 0 ends (length xs) k a rise start held).1;
  is = ap (λ (e : ℕ). slice_range xs a e) at_end ∙ sym (piece_from 0 xs ends k a start held) ∙ ap (λ ps. get_or ps k []) view;
} where
  held : k < length ends
  held = held_end xs ends pieces k view below

  start : IsStart 0 ends k a
  start = record { first = first; later = λ some. later some ∙ ap (λ (es : List ℕ). get_or es (k - 1) 0) same }

  at_end : b ≡ get_or ends k 0
  at_end = get_or_read ends k b held end 0

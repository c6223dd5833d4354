-- Readings of clocks, one by one, and the reading of a row.
use Rattle.std.proofs.Common.{◌≡◌, ◌∙◌, sym, refl, ap, arith, ℕ, suc, ◌+◌, ◌<◌, ◌≤◌, inl, inr, subst, List, [], ◌∷◌, ◌++◌, length, get_or, take, Option, Some, None}
use Rattle.std.specs.Prelude.{IfSome}
use Rattle.std.proofs.Math.Seq.{get_or-append_seam, take-append_seam, take-suc}
use Rattle.std.proofs.lemmas.Bool.{cases_eq}
use Rattle.std.proofs.lemmas.List.{get_or_append_left, length-append, length-take-le, take-append-le, take_all}
use Rattle.std.proofs.lemmas.List.Elements.{All-push}
use Rattle.mt_model.specs.declared.reading.Reading.{Reading}
use Rattle.mt_model.specs.Log.{AreInTurn, IsLog, IsRead, IsReading, Logged}
use Rattle.mt_model.specs.Readings.{AreReadUpTo}
use Rattle.mt_model.specs.Timing.{reading_of}
use Rattle.mt_model.proofs.Offsets.{reading-valid}

-- the reading of a row is one of the log
pub valid-reading : (log : Logged) (valid : IsLog log) (e : ℕ) (found : Option Reading) → found ≡ reading_of log e → IfSome found (IsReading (length log.hosts) (length log.rows) (length log.clocks))
valid-reading log valid e None is = tt
valid-reading log valid e (Some r) is = reading-valid log valid e r (sym is)

-- a clock that some are read of is read of more
read-more : (k : ℕ) (xs : List Reading) (x : Reading) → IsRead k xs → IsRead k (xs ++ x ∷ [])
read-more k xs x (i, y, within, at, is) = (i, y, simp length-append (omega (arith, within)), get_or_append_left xs (x ∷ []) y i within ∙ at, is)

-- the last one reads its clock
read-last : (xs : List Reading) (x : Reading) → IsRead x.clock (xs ++ x ∷ [])
read-last xs x = (length xs, x, simp length-append (omega arith), get_or-append_seam xs x [] x, refl)

module _ (xs : List Reading) (i : ℕ) (x : Reading) (within : i < length xs) (is : x ≡ get_or xs i x) where
  front : take (i + 1) xs ≡ take i xs ++ x ∷ []
  front = ap (λ n. take n xs) (let next : i + 1 ≡ suc i = omega arith in next) ∙ take-suc xs i x within ∙ ap (λ y. take i xs ++ (y ∷ [])) (sym is)

  size : length (take i xs) ≡ i
  size = length-take-le i xs (omega (arith, within))

-- a reading after others, of a clock that they are of, or of the next one
module _ (xs : List Reading) (x : Reading) (next : ℕ) (before : AreReadUpTo xs next) where
  in-turn : x.clock ≤ next → AreInTurn (xs ++ x ∷ [])
  in-turn most i k d low less = elim (cases_eq i (length xs)) [
    | inl same ↦
        let at : get_or (xs ++ x ∷ []) i d ≡ x = ap (λ n. get_or (xs ++ x ∷ []) n d) same ∙ get_or-append_seam xs x [] d in
        let all : take i (xs ++ x ∷ []) ≡ xs = ap (λ n. take n (xs ++ x ∷ [])) same ∙ take-append_seam xs (x ∷ []) in
        rw all (before.read k (let below = rw at at less in omega (arith, below, most)))
    | inr other ↦
        let within : i < length xs = let n = rw (length-append xs (x ∷ [])) at low in omega (arith, n, other) in
        let at : get_or (xs ++ x ∷ []) i d ≡ get_or xs i d = get_or_append_left xs (x ∷ []) d i within in
        let some : take i (xs ++ x ∷ []) ≡ take i xs = take-append-le i xs (x ∷ []) (omega (arith, within)) in
        rw some (before.in_turn i k d within (rw at at less))
  ]

  pub read-again : x.clock < next → AreReadUpTo (xs ++ x ∷ []) next
  read-again low = record {
    in_turn = in-turn (omega (arith, low));
    read = λ k less. read-more k xs x (before.read k less);
    below = All-push (λ r. r.clock < next) xs x before.below low;
  }

  pub read-next : x.clock ≡ next → AreReadUpTo (xs ++ x ∷ []) (next + 1)
  read-next same = record {
    in_turn = in-turn (omega (arith, same));
    read = λ k less. elim (cases_eq k next) [
      | inl last ↦ rw (last, ← same) (read-last xs x)
      | inr other ↦ read-more k xs x (before.read k (omega (arith, less, other)))
    ];
    below = All-push (λ r. r.clock < next + 1) xs x (λ i d within. let low = before.below i d within in omega (arith, low)) (omega (arith, same));
  }

  -- one of a later clock is out of turn
  read-late : next < x.clock → IsRead next xs → ⊥
  read-late less (i, y, within, at, is) = let low = rw at at (before.below i y within) in omega (arith, low, is)

pub read-none : AreReadUpTo [] 0
read-none = record {
  in_turn = λ i k d low less. absurd (omega arith);
  read = λ k less. absurd (omega arith);
  below = λ i d low. absurd (omega arith);
}

module _ (xs : List Reading) (i : ℕ) (x : Reading) (within : i < length xs) (is : x ≡ get_or xs i x) (next : ℕ) (before : AreReadUpTo (take i xs) next) where
  pub turn-again : x.clock < next → AreReadUpTo (take (i + 1) xs) next
  turn-again low = rw (front xs i x within is) (read-again (take i xs) x next before low)

  pub turn-next : x.clock ≡ next → AreReadUpTo (take (i + 1) xs) (next + 1)
  turn-next same = rw (front xs i x within is) (read-next (take i xs) x next before same)

  pub turn-late : next < x.clock → AreInTurn xs → ⊥
  turn-late less turn = read-late (take i xs) x next before less (turn i next x within (rw (← is) less))

pub turn-all : (xs : List Reading) (i next : ℕ) → length xs ≤ i → AreReadUpTo (take i xs) next → AreReadUpTo xs next
turn-all xs i next end before = subst (λ ys. AreReadUpTo ys next) (take_all i xs end) before

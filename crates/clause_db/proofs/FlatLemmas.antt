-- Clauses in one list of literals.
use Rattle.std.proofs.Common.{◌≡◌, ◌∙◌, ap, sym, ℕ, ◌+◌, ◌-◌, ◌<◌, ◌≤◌, List, [], ◌∷◌, ◌++◌, length, get_or, drop, arith, ◌^◌, length-append}
use Rattle.std.specs.Prelude.{slice_range}
use Rattle.std.proofs.lemmas.List.{drop_at, length-drop, length-take-le, length_push}
use Rattle.std.proofs.lemmas.List.Elements.{All-push}
use Rattle.hint_refutation.specs.Pieces.{last_end, pieces_from}
use Rattle.hint_refutation.proofs.Pieces.{IsSpan as IsPiece, held_end, last_push, pieces_count, pieces_more, pieces_push, rise_more, rise_push, span as piece}
use Rattle.clause_db.specs.declared.lit.Lit.{Lit}
use Rattle.clause_db.specs.Literals.{HasVarsOnce}
use Rattle.clause_db.specs.Clauses.{clause_at}
use Rattle.clause_db.specs.Flat.{IsFlat}

-- the clause at c goes from a to b
pub record IsSpan (xs : List Lit) (clauses : List (List Lit)) (c a b : ℕ) : Type 0 where
  pub rising : a ≤ b
  pub within : b ≤ length xs
  pub is : slice_range xs a b ≡ clause_at clauses c
  pub once : HasVarsOnce (slice_range xs a b)

pub span : (xs : List Lit) (ends read : List ℕ) (clauses : List (List Lit)) (c k a b : ℕ) → pieces_from 0 xs ends ≡ clauses → IsFlat xs ends → c < length clauses → k ≡ c → read ≡ ends
    → (k ≡ 0 → a ≡ 0) → (0 < k → a ≡ get_or read (k - 1) 0) → b ≡ get_or ends k b → IsSpan xs clauses c a b
span xs ends read clauses c k a b view flat below place same first later end = record {
  rising = p.rising;
  within = p.within;
  is = p.is ∙ ap (λ (i : ℕ). get_or clauses i []) place;
  once = rw (p.is ∙ ap (λ (cs : List (List Lit)). get_or cs k []) (sym view)) (flat.once k [] (rw (pieces_count 0 xs ends) (held_end xs ends clauses k view held)));
} where
  held : k < length clauses
  held = rw place below

  p : IsPiece xs clauses k a b
  p = piece xs ends read clauses k a b view flat.rising held same first later end

-- the number of its literals
pub span_length : (xs : List Lit) (clauses : List (List Lit)) (c a b : ℕ) → IsSpan xs clauses c a b → b - a ≡ length (clause_at clauses c)
span_length xs clauses c a b s =
    let count = length-take-le (b - a) (drop a xs) (omega (arith, length-drop a xs, s.within)) in
    omega (arith, ap length s.is, count)

-- one clause more
pub clauses_push : (xs ys : List Lit) (ends : List ℕ) (more : ℕ) → IsFlat xs ends → more ≡ length xs + length ys → pieces_from 0 (xs ++ ys) (ends ++ more ∷ []) ≡ pieces_from 0 xs ends ++ ys ∷ []
clauses_push xs ys ends more flat is =
    ap (λ m. pieces_from 0 (xs ++ ys) (ends ++ m ∷ [])) (is ∙ sym (length-append xs ys))
    ∙ pieces_push 0 (xs ++ ys) ends
    ∙ ap (λ cs. cs ++ drop (last_end 0 ends) (xs ++ ys) ∷ []) (pieces_more 0 xs ys ends flat.rising)
    ∙ ap (λ c. pieces_from 0 xs ends ++ c ∷ []) (drop_at xs ys (last_end 0 ends) (sym flat.whole))

pub flat_push : (xs ys : List Lit) (ends : List ℕ) (more : ℕ) → IsFlat xs ends → HasVarsOnce ys → length ends < 2 ^ 32 - 1 → more ≡ length xs + length ys → IsFlat (xs ++ ys) (ends ++ more ∷ [])
flat_push xs ys ends more flat once room is = record {
  rising = rw (length-append xs ys, ← is) (rise_push 0 ends more (rise_more 0 ends (length xs) more flat.rising (omega (arith, is))));
  whole = last_push 0 ends more ∙ is ∙ sym (length-append xs ys);
  few = omega (arith, room, length_push ends more);
  once = rw (clauses_push xs ys ends more flat is) (All-push HasVarsOnce (pieces_from 0 xs ends) ys flat.once once);
}

-- Clauses over other variables, in one list of literals.
use Rattle.std.proofs.Common.{◌≡◌, ◌∙◌, sym, ap, subst, refl, ℕ, ◌+◌, ◌-◌, ◌<◌, List, [], ◌∷◌, ◌++◌, length, map, take, drop, true, arith}
use Rattle.std.specs.Prelude.{All, slice_index, slice_index_or, slice_range}
use Rattle.std.proofs.lemmas.List.{drop_all, drop-drop, drop-map, get_or-map, length-map, take-append-drop, take-map}
use Rattle.std.proofs.lemmas.List.Elements.{All-append, All-head, All-map, All-nil, All-tail}
use Rattle.hint_refutation.specs.Pieces.{Rise, last_end, pieces_from}
use Rattle.clause_db.specs.declared.lit.Lit.{Lit}
use Rattle.clause_db.specs.Literals.{HasVarsOnce}
use Rattle.clause_db.specs.Flat.{IsFlat}
use Rattle.clause_db.specs.Renaming.{AreApart, AreBelow, moved}

-- no variable stands twice where none did
vars_moved : (places : List ℕ) (lits : List Lit) → HasVarsOnce lits → All (λ l. l.var < length places) lits → AreApart places → HasVarsOnce (map (moved places) lits)
vars_moved places lits once below apart i j d less low same =
    let e : Lit = record { var = 0; positive = true } in
    let count = length-map lits (moved places) in
    let at_i = get_or-map (moved places) lits i e d (omega (arith, less, low, count)) in
    let at_j = get_or-map (moved places) lits j e d (omega (arith, low, count)) in
    let moved_same : slice_index places (slice_index_or lits i e).var ≡ slice_index places (slice_index_or lits j e).var = sym (ap (λ (l : Lit). l.var) at_i) ∙ same ∙ ap (λ (l : Lit). l.var) at_j in
    once i j e less (omega (arith, low, count)) (apart _ _ (below i e (omega (arith, less, low, count))) (below j e (omega (arith, low, count))) moved_same)

-- a part of changed literals is that part, changed
part_changed : (f : Lit → Lit) (xs : List Lit) (a b : ℕ) → slice_range (map f xs) a b ≡ map f (slice_range xs a b)
part_changed f xs a b = ap (λ zs. take (b - a) zs) (drop-map f a xs) ∙ take-map f (b - a) (drop a xs)

-- where each literal is changed, each clause is
pub clauses_changed : (f : Lit → Lit) (start : ℕ) (xs : List Lit) (ends : List ℕ) → pieces_from start (map f xs) ends ≡ map (map f) (pieces_from start xs ends)
clauses_changed f start xs [] = refl
clauses_changed f start xs (end ∷ ends) =
    ap (λ (c : List Lit). c ∷ pieces_from end (map f xs) ends) (part_changed f xs start end)
    ∙ ap (λ (cs : List (List Lit)). map f (slice_range xs start end) ∷ cs) (clauses_changed f end xs ends)

-- what holds of the literals of each clause holds of all from the start of the first
lits_have : (P : Lit → Type 0) (start : ℕ) (xs : List Lit) (ends : List ℕ) → Rise start ends (length xs) → last_end start ends ≡ length xs
    → All (All P) (pieces_from start xs ends) → All P (drop start xs)
lits_have P start xs [] rise whole all = rw (drop_all start xs (omega (arith, whole))) (All-nil P)
lits_have P start xs (end ∷ ends) (first, rest) whole all =
    let end_is : start + (end - start) ≡ end = omega (arith, first) in
    let behind : drop (end - start) (drop start xs) ≡ drop end xs = drop-drop (end - start) start xs ∙ ap (λ n. drop n xs) end_is in
    let parts : slice_range xs start end ++ drop end xs ≡ drop start xs = ap (λ zs. slice_range xs start end ++ zs) (sym behind) ∙ take-append-drop (end - start) (drop start xs) in
    subst (All P) parts (All-append P (slice_range xs start end) (drop end xs)
    (All-head (All P) (slice_range xs start end) (pieces_from end xs ends) all)
    (lits_have P end xs ends rest whole (All-tail (All P) (slice_range xs start end) (pieces_from end xs ends) all)))

-- each literal has a variable below n where those of the clauses have
pub lits_below : (n : ℕ) (xs : List Lit) (ends : List ℕ) → IsFlat xs ends → AreBelow n (pieces_from 0 xs ends) → All (λ l. l.var < n) xs
lits_below n xs ends flat below = lits_have (λ l. l.var < n) 0 xs ends flat.rising flat.whole below

-- the same ends part the literals over other variables
pub flat_moved : (places : List ℕ) (xs : List Lit) (ends : List ℕ) → IsFlat xs ends → AreBelow (length places) (pieces_from 0 xs ends) → AreApart places → IsFlat (map (moved places) xs) ends
flat_moved places xs ends flat below apart = record {
  rising = rw (length-map xs (moved places)) flat.rising;
  whole = rw (length-map xs (moved places)) flat.whole;
  few = flat.few;
  once = rw (clauses_changed (moved places) 0 xs ends) (All-map HasVarsOnce (map (moved places)) (pieces_from 0 xs ends)
      (λ k d low. vars_moved places (slice_index_or (pieces_from 0 xs ends) k d) (flat.once k d low) (below k d low) apart));
}

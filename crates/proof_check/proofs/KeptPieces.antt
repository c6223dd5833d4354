-- Clauses that are kept in one list of literals, and the one that is pending behind them.
use Rattle.std.proofs.Common.{◌≡◌, ◌∙◌, ap, sym, refl, subst, ℕ, suc, ◌-◌, ◌<◌, List, [], ◌∷◌, ◌++◌, length, length-append, get_or, take, drop, take-append-drop, arith}
use Rattle.std.proofs.lemmas.List.{drop-append-le, drop_all, drop_at, length-take-le}
use Rattle.hint_refutation.specs.Pieces.{Rise, last_end, pieces_from}
use Rattle.hint_refutation.proofs.Pieces.{last_push, last_within, pieces_more, pieces_push, rise_last, rise_more}
use Rattle.axiom_rules.specs.declared.literal.Literal.{Literal}
use Rattle.proof_check.specs.Keeping.{Kept, closed_only, kept_in}

pub both : (clauses others : List (List Literal)) (lits some : List Literal) → clauses ≡ others → lits ≡ some
    → (let k : Kept = record { closed = clauses; pending = lits } in k) ≡ record { closed = others; pending = some }
both clauses others lits some same alike = ap (λ cs. let k : Kept = record { closed = cs; pending = lits } in k) same ∙ ap (λ ls. let k : Kept = record { closed = others; pending = ls } in k) alike

-- a literal more that is pending
pub kept_push : (lits : List Literal) (ends : List ℕ) (l : Literal) → Rise 0 ends (length lits)
    → kept_in (lits ++ l ∷ []) ends ≡ record { closed = pieces_from 0 lits ends; pending = drop (last_end 0 ends) lits ++ l ∷ [] }
kept_push lits ends l rise = both _ _ _ _ (pieces_more 0 lits (l ∷ []) ends rise) (drop-append-le (last_end 0 ends) lits (l ∷ []) (last_within 0 ends (length lits) rise))

-- what is pending is closed
pub kept_close : (lits : List Literal) (ends : List ℕ) → kept_in lits (ends ++ length lits ∷ []) ≡ closed_only (pieces_from 0 lits ends ++ drop (last_end 0 ends) lits ∷ [])
kept_close lits ends = both _ _ _ _ (pieces_push 0 lits ends) (drop_all (last_end 0 (ends ++ length lits ∷ [])) lits (omega (arith, last_push 0 ends (length lits))))

-- other literals are pending
pub kept_else : (lits others : List Literal) (ends : List ℕ) → Rise 0 ends (length lits)
    → kept_in (take (last_end 0 ends) lits ++ others) ends ≡ record { closed = pieces_from 0 lits ends; pending = others }
kept_else lits others ends rise =
    let last = last_end 0 ends in
    let size : length (take last lits) ≡ last = length-take-le last lits (last_within 0 ends (length lits) rise) in
    let front : Rise 0 ends (length (take last lits)) = subst (Rise 0 ends) (sym size) (rise_last 0 ends (length lits) rise) in
    both _ _ _ _ (pieces_more 0 (take last lits) others ends front ∙ sym (pieces_more 0 (take last lits) (drop last lits) ends front) ∙ ap (λ ls. pieces_from 0 ls ends) (take-append-drop last lits))
    (drop_at (take last lits) others last size)

pub rise_else : (lits others : List Literal) (ends : List ℕ) → Rise 0 ends (length lits) → Rise 0 ends (length (take (last_end 0 ends) lits ++ others))
rise_else lits others ends rise =
    let last = last_end 0 ends in
    let size : length (take last lits) ≡ last = length-take-le last lits (last_within 0 ends (length lits) rise) in
    rise_more 0 ends last (length (take last lits ++ others)) (rise_last 0 ends (length lits) rise) (omega (arith, size, length-append (take last lits) others))

-- where the pending clause starts
pub last_read : (start : ℕ) (ends read : List ℕ) (a : ℕ) → read ≡ ends → (length ends ≡ 0 → a ≡ start) → (0 < length ends → a ≡ get_or read (length ends - 1) 0) → a ≡ last_end start ends
last_read start ends read a same first later = go start ends a first (λ some. later some ∙ ap (λ es. get_or es (length ends - 1) 0) same)
  where
    go : (start : ℕ) (ends : List ℕ) (a : ℕ) → (length ends ≡ 0 → a ≡ start) → (0 < length ends → a ≡ get_or ends (length ends - 1) 0) → a ≡ last_end start ends
    go start [] a first later = first refl
    go start (end ∷ []) a first later = later (omega arith)
    go start (end ∷ other ∷ ends) a first later =
        let less : suc (suc (length ends)) - 1 ≡ suc (length ends) = omega arith in
        let last : suc (length ends) - 1 ≡ length ends = omega arith in
        go end (other ∷ ends) a (λ none. absurd (omega (arith, none))) (λ _. rw last (rw less at (later (omega arith))))

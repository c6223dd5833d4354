-- The clauses of lines that are kept, and those that are cited.
use Rattle.std.proofs.Common.{◌≡◌, ◌∙◌, sym, ap, refl, subst, ℕ, zero, suc, ◌+◌, ◌-◌, ◌<◌, ◌≤◌, ◌↔◌, ◌==◌, inl, inr, Bool, true, List, [], ◌∷◌, ◌++◌, length, get_or, map, take, Option, Some, None, arith, eqb-true}
use Rattle.std.specs.Prelude.{nat_lt, option_map, slice_get}
use Rattle.std.proofs.lemmas.Bool.{cases_lt, false_from_ne_true, lt-ltb, ltb-true}
use Rattle.std.proofs.lemmas.List.{length-map, length-take-le, map_more}
use Rattle.std.proofs.lemmas.Option.{slice_get-map, slice_get_past}
use Rattle.axiom_rules.specs.declared.literal.Literal.{Literal}
use Rattle.axiom_rules.specs.Sought.{Sought}
use Rattle.proof_log.specs.declared.line.Hint.{Hint}
use Rattle.proof_log.specs.declared.line.Hint.TheVariants as hint
use Rattle.proof_log.specs.declared.line.Line.{Line}
use Rattle.proof_log.specs.declared.line.Line.TheVariants as line
use Rattle.proof_log.specs.Derivations.{IsEmptyAt, IsShown, clause_of_hint, clause_of_line, line_at}
use Rattle.proof_check.specs.Judging.{IsNext, IsRight}
use Rattle.proof_check.specs.Keeping.{line_with, lines_with}

-- the test of a clause for being empty
pub empty_tested : (clause : List Literal) (r : Bool) → r ≡ (length clause == 0) → (r ≡ true) ↔ (Some clause ≡ Some [])
empty_tested [] r is = (λ _. refl, λ _. is)
empty_tested (l ∷ ls) r is = (λ yes. absurd (omega (arith, eqb-true (length (l ∷ ls)) 0 (sym is ∙ yes))), λ none. absurd (cc))

undone : (o : Option (List Literal)) → option_map clause_of_line (option_map line_with o) ≡ o
undone None = refl
undone (Some c) = refl

module _ (kept : List (List Literal)) where
  -- the clauses of lines with these clauses
  pub clause_there : (place : ℕ) → option_map clause_of_line (slice_get (lines_with kept) place) ≡ slice_get kept place
  clause_there place = ap (option_map clause_of_line) (slice_get-map line_with kept place) ∙ undone (slice_get kept place)

  -- the clause of a line that a hint cites
  pub cites : (s : Sought) (place : ℕ) → clause_of_hint s (lines_with kept) (length kept + 1) (hint.Line (suc place)) ≡ slice_get kept place
  cites s place = elim (cases_lt place (length kept)) [
    | inl below ↦ rw (lt-ltb (suc place) (length kept + 1) (omega (arith, below))) (clause_there place)
    | inr past ↦ rw (false_from_ne_true (nat_lt (suc place) (length kept + 1)) (λ yes. absurd (omega (arith, past, ltb-true (suc place) (length kept + 1) yes)))) (sym (slice_get_past kept place past))
  ]

-- the clause of the last line
pub last_clause : (kept : List (List Literal)) → option_map clause_of_line (line_at (lines_with kept) (length kept)) ≡ slice_get kept (length kept - 1)
last_clause [] = refl
last_clause (c ∷ cs) = let e : suc (length cs) - 1 ≡ length cs = omega arith in rw e (clause_there (c ∷ cs) (length cs))

-- what is found at the end tells whether the last line has an empty clause
pub empty_where_found : (kept : List (List Literal)) (found : Option (List Literal)) → found ≡ slice_get kept (length kept - 1) → (found ≡ Some []) ↔ IsEmptyAt (lines_with kept) (length kept)
empty_where_found kept found is = (λ empty. last_clause kept ∙ sym is ∙ empty, λ empty. is ∙ sym (last_clause kept) ∙ empty)

pub slice_get_taken : {X : Type 0} (xs : List X) (n k : ℕ) → k < n → slice_get (take n xs) k ≡ slice_get xs k
slice_get_taken xs zero k below = absurd (omega (arith, below))
slice_get_taken [] (suc n) k below = refl
slice_get_taken (x ∷ xs) (suc n) zero below = refl
slice_get_taken (x ∷ xs) (suc n) (suc k) below = slice_get_taken xs n k (omega (arith, below))

map_alike : {X Y : Type 0} (f g : X → Y) → ((x : X) → f x ≡ g x) → (xs : List X) → map f xs ≡ map g xs
map_alike f g alike [] = refl
map_alike f g alike (x ∷ xs) = ap (λ y. y ∷ map f xs) (alike x) ∙ ap (λ ys. g x ∷ ys) (map_alike f g alike xs)

-- lines, and lines with the clauses of the first n of them, which are kept
module _ (lines : List Line) (n : ℕ) (kept : List (List Literal)) (low : n ≤ length lines) (same : kept ≡ map clause_of_line (take n lines)) where
  -- as much is kept as there are lines
  pub kept_count : length kept ≡ n
  kept_count = ap length same ∙ length-map (take n lines) clause_of_line ∙ length-take-le n lines low

  clause_same : (m : ℕ) → m ≤ n → option_map clause_of_line (line_at (lines_with kept) m) ≡ option_map clause_of_line (line_at lines m)
  clause_same zero within = refl
  clause_same (suc m) within =
      clause_there kept m ∙ ap (λ ks. slice_get ks m) same ∙ slice_get-map clause_of_line (take n lines) m
      ∙ ap (option_map clause_of_line) (slice_get_taken lines n m (omega (arith, within)))

  pub empty_same : IsEmptyAt (lines_with kept) (length kept) ↔ IsEmptyAt lines n
  empty_same =
      let is = ap (λ k. option_map clause_of_line (line_at (lines_with kept) k)) kept_count ∙ clause_same n (omega arith) in
      (λ empty. sym is ∙ empty, λ empty. is ∙ empty)

  module _ (s : Sought) where
    hint_same : (h : Hint) → clause_of_hint s (lines_with kept) (n + 1) h ≡ clause_of_hint s lines (n + 1) h
    hint_same (hint.Line m) = elim (cases_lt m (n + 1)) [
      | inl earlier ↦ rw (lt-ltb m (n + 1) earlier) (clause_same m (omega (arith, earlier)))
      | inr later ↦ rw (false_from_ne_true (nat_lt m (n + 1)) (λ yes. absurd (omega (arith, later, ltb-true m (n + 1) yes)))) refl
    ]
    hint_same (hint.Rule r) = refl

    cited_same : (hints : List Hint) → map (clause_of_hint s (lines_with kept) (n + 1)) hints ≡ map (clause_of_hint s lines (n + 1)) hints
    cited_same hints = map_alike (clause_of_hint s (lines_with kept) (n + 1)) (clause_of_hint s lines (n + 1)) hint_same hints

    shown_to : (l : Line) → IsShown s (lines_with kept) (n + 1) l → IsShown s lines (n + 1) l
    shown_to (line.Cycle steps) shown = shown
    shown_to (line.Learn lits hints) shown = record { in_range = shown.in_range; clauses = shown.clauses; cited = sym (cited_same hints) ∙ shown.cited; refuted = shown.refuted }

    shown_back : (l : Line) → IsShown s lines (n + 1) l → IsShown s (lines_with kept) (n + 1) l
    shown_back (line.Cycle steps) shown = shown
    shown_back (line.Learn lits hints) shown = record { in_range = shown.in_range; clauses = shown.clauses; cited = cited_same hints ∙ shown.cited; refuted = shown.refuted }

    pub right_to : (l : Line) → IsRight s (lines_with kept) (n + 1) l → IsRight s lines (n + 1) l
    right_to l is = record { spelled = is.spelled; shown = shown_to l is.shown }

    pub right_back : (l : Line) → IsRight s lines (n + 1) l → IsRight s (lines_with kept) (n + 1) l
    right_back l is = record { spelled = is.spelled; shown = shown_back l is.shown }

    next : length kept + 1 ≡ n + 1
    next = omega (arith, kept_count)

    -- a line is good after these lines exactly where it is good after those
    pub next_right : (l : Line) → IsNext s kept l → IsRight s lines (n + 1) l
    next_right l is = right_to l (subst (λ k. IsRight s (lines_with kept) k l) next is.right)

    pub next_open : (l : Line) → IsNext s kept l → IsEmptyAt lines n → ⊥
    next_open l is empty = is.open_before (empty_same.1 empty)

    pub right_next : (l : Line) → IsRight s lines (n + 1) l → (IsEmptyAt lines n → ⊥) → IsNext s kept l
    right_next l right unended = record {
      right = subst (λ k. IsRight s (lines_with kept) k l) (sym next) (right_back l right);
      open_before = λ empty. unended (empty_same.0 empty);
    }

-- the clause of one line more
pub kept_more : (lines : List Line) (kept : List (List Literal)) (i : ℕ) (line : Line) → i < length lines → line ≡ get_or lines i line → kept ≡ map clause_of_line (take i lines)
    → kept ++ clause_of_line line ∷ [] ≡ map clause_of_line (take (i + 1) lines)
kept_more lines kept i line low at same = sym (map_more clause_of_line lines i line low ∙ (rw (← at, ← same) refl))

-- What lines show is shown by those that are left of them.
use Rattle.std.proofs.Common.{◌≡◌, ◌∙◌, sym, subst, ap, ap₂, refl, inl, inr, ℕ, zero, suc, ◌-◌, ◌<◌, ◌≤◌, Bool, true, false, List, [], ◌∷◌, length, map, take, Option, Some, None, arith}
use Rattle.std.specs.Prelude.{◌⊎◌, All, Contains, nat_lt, option_map, slice_get}
use Rattle.std.proofs.lemmas.Bool.{ltb-true}
use Rattle.std.proofs.lemmas.Bool.Decides.{nat_tests}
use Rattle.std.proofs.lemmas.List.{get_or-map, length-map}
use Rattle.std.proofs.lemmas.List.Elements.{All-cons, All-nil}
use Rattle.std.proofs.lemmas.Option.{slice_get-map, slice_get_within}
use Rattle.std.proofs.Math.Seq.{take-length}
use Rattle.mt_model.specs.Form.{Form}
use Rattle.mt_model.specs.Log.{Logged}
use Rattle.axiom_rules.specs.declared.literal.Literal.{Literal}
use Rattle.axiom_rules.specs.Sought.{Sought, sought_of}
use Rattle.proof_log.specs.declared.line.Hint.{Hint}
use Rattle.proof_log.specs.declared.line.Hint.TheVariants as hint
use Rattle.proof_log.specs.declared.line.Line.{Line}
use Rattle.proof_log.specs.declared.line.Line.TheVariants as line
use Rattle.proof_log.specs.Derivations.{HasClauses, IsEmptyAt, IsShown, NoneWrong, Refutes, RightLine, clause_of_hint, clause_of_line, line_at}
use Rattle.proof_log.specs.Spelled.{IsSpelled, IsSpelledHint}
use Rattle.proof_trim.specs.Needed.{IsNeeded, Last, LineNames, Named, Names, NoneForward}
use Rattle.proof_log.specs.Marks.{marked}
use Rattle.proof_trim.specs.Trimmed.{EachIsNamed, IsMarked, IsTrimOf, KeepsRefuting, hint_renumbered, place_of, renumbered}
use Rattle.proof_trim.proofs.Looks.{names-earlier}
use Rattle.proof_trim.proofs.Marks.{before, before-grows, before-le, before-next, marked-at, marked-from}
use Rattle.mt_model.proofs.Conflicts.{guarded_some}

-- ---- lines and hints with other numbers

same-clause : (place : ℕ → ℕ) (l : Line) → clause_of_line (renumbered place l) ≡ clause_of_line l
same-clause place (line.Cycle steps) = refl
same-clause place (line.Learn lits hints) = refl

same-clauses : (place : ℕ → ℕ) (o : Option Line) → option_map clause_of_line (option_map (renumbered place) o) ≡ option_map clause_of_line o
same-clauses place None = refl
same-clauses place (Some l) = ap Some (same-clause place l)

module _ (place : ℕ → ℕ) (low : (n : ℕ) → place n ≤ n) where
  spelled-hint : (h : Hint) → IsSpelledHint h → IsSpelledHint (hint_renumbered place h)
  spelled-hint (hint.Line n) is = let less = low n in omega (arith, less)
  spelled-hint (hint.Rule r) is = is

  spelled-hints : (hints : List Hint) → All IsSpelledHint hints → All IsSpelledHint (map (hint_renumbered place) hints)
  spelled-hints [] each = All-nil IsSpelledHint
  spelled-hints (h ∷ hs) each =
      All-cons IsSpelledHint (hint_renumbered place h) (map (hint_renumbered place) hs) (spelled-hint h (each 0 h (omega arith))) (spelled-hints hs (λ k d within. each (suc k) d (omega arith)))

  spelled-line : (l : Line) → IsSpelled l → IsSpelled (renumbered place l)
  spelled-line (line.Cycle steps) is = is
  spelled-line (line.Learn lits hints) is = record {
    lit_count = is.lit_count;
    hint_count = let same = length-map hints (hint_renumbered place) in rw same is.hint_count;
    each_lit = is.each_lit;
    each_hint = spelled-hints hints is.each_hint;
    once = is.once;
  }

contains-map : {X Y : Type 0} (f : X → Y) (xs : List X) (x : X) → Contains xs x → Contains (map f xs) (f x)
contains-map f xs x h =
    let same = length-map xs f in
    (h.0, (let less = h.1 in omega (arith, less, same)), get_or-map f xs h.0 x (f x) h.1 ∙ ap f h.2)

names-place : (place : ℕ → ℕ) (l : Line) (n : ℕ) → LineNames l n → LineNames (renumbered place l) (place n)
names-place place (line.Cycle steps) n names = names
names-place place (line.Learn lits hints) n names = contains-map (hint_renumbered place) hints (hint.Line n) names

-- ---- a needed line is the last, or a hint of a needed one names it

needed-why : (lines : List Line) (n : ℕ) → IsNeeded lines n → (n ≡ length lines) ⊎ ((m : ℕ) × IsNeeded lines m × Names lines m n)
needed-why lines _ Last = inl refl
needed-why lines _ (Named m n needed names) = inr (m, needed, names)

-- ---- the lines that are left

module _ (lines trimmed : List Line) (t : IsTrimOf lines trimmed) where
  abbrev place : ℕ → ℕ
  place = place_of t.marks lines

  place-low : (n : ℕ) → place n ≤ n
  place-low = before-le t.marks lines

  spelled-left : (marks : List Bool) (ls : List Line) → All IsSpelled ls → All IsSpelled (map (renumbered place) (marked marks ls))
  spelled-left [] ls each = All-nil IsSpelled
  spelled-left (mark ∷ marks) [] each = All-nil IsSpelled
  spelled-left (true ∷ marks) (l ∷ ls) each =
      All-cons IsSpelled (renumbered place l) (map (renumbered place) (marked marks ls)) (spelled-line place place-low l (each 0 l (omega arith)))
      (spelled-left marks ls (λ k d within. each (suc k) d (omega arith)))
  spelled-left (false ∷ marks) (l ∷ ls) each = spelled-left marks ls (λ k d within. each (suc k) d (omega arith))

  pub keeps-spelling : All IsSpelled lines → All IsSpelled trimmed
  keeps-spelling each = subst (All IsSpelled) (sym t.left) (spelled-left t.marks lines each)

  -- a line that is left stands at its place
  stands-at : (i : ℕ) → IsMarked t.marks (suc i) → i < length lines → line_at trimmed (place (suc i)) ≡ option_map (renumbered place) (line_at lines (suc i))
  stands-at i is within =
      ap (line_at trimmed) (before-next t.marks lines i is within) ∙ ap (λ ls. slice_get ls (before t.marks lines i)) t.left
      ∙ slice_get-map (renumbered place) (marked t.marks lines) (before t.marks lines i) ∙ ap (option_map (renumbered place)) (marked-at t.marks lines i is)

  clause-at : (i : ℕ) → IsMarked t.marks (suc i) → i < length lines → option_map clause_of_line (line_at trimmed (place (suc i))) ≡ option_map clause_of_line (line_at lines (suc i))
  clause-at i is within = ap (option_map clause_of_line) (stands-at i is within) ∙ same-clauses place (line_at lines (suc i))

  -- an earlier line has an earlier place
  earlier-place : (i j : ℕ) → IsMarked t.marks (suc i) → i < length lines → j < i → place (suc j) < place (suc i)
  earlier-place i j is within less =
      let next = before-next t.marks lines i is within in
      let grows = before-grows t.marks lines (suc j) i (omega arith) in
      omega (arith, next, grows)

  -- each line that is left is a marked one, at its place
  line-from : (k : ℕ) → suc k ≤ length trimmed → (i : ℕ) × IsMarked t.marks (suc i) × (i < length lines) × (place (suc i) ≡ suc k)
  line-from k within =
      let long : length trimmed ≡ length (marked t.marks lines) = ap length t.left ∙ length-map (marked t.marks lines) (renumbered place) in
      let (i, is, at) = marked-from t.marks lines k (omega (arith, long)) in
      let in_marks = slice_get_within t.marks i true is in
      let inside : i < length lines = omega (arith, in_marks, t.needed.count) in
      (i, is, inside, before-next t.marks lines i is inside ∙ ap suc at)

  -- the last line has the last place
  place-last : place (length lines) ≡ length trimmed
  place-last =
      let all : take (length lines) t.marks ≡ t.marks = ap (λ n. take n t.marks) (sym t.needed.count) ∙ take-length t.marks in
      ap (λ ms. length (marked ms lines)) all ∙ sym (ap length t.left ∙ length-map (marked t.marks lines) (renumbered place))

  -- the lines that a needed line names are needed
  names-marked : (i m : ℕ) → IsMarked t.marks (suc i) → Names lines (suc i) m → 1 ≤ m → IsMarked t.marks m
  names-marked i m is names some = (t.needed.needed m some).1 (Named (suc i) m ((t.needed.needed (suc i) (omega arith)).0 is) names)

  module _ (s : Sought) (i : ℕ) (is : IsMarked t.marks (suc i)) (within : i < length lines) where
    hint-same : (h : Hint) (c : List Literal) → ((m : ℕ) → h ≡ hint.Line m → 1 ≤ m → IsMarked t.marks m) → clause_of_hint s lines (suc i) h ≡ Some c
        → clause_of_hint s trimmed (place (suc i)) (hint_renumbered place h) ≡ Some c
    hint-same (hint.Rule r) c named shown = shown
    hint-same (hint.Line zero) c named shown =
        let none = (guarded_some (nat_lt 0 (suc i)) (option_map clause_of_line (line_at lines 0)) c shown).1 in
        let never : ⊥ = cc in absurd never
    hint-same (hint.Line (suc j)) c named shown =
        let g = guarded_some (nat_lt (suc j) (suc i)) (option_map clause_of_line (line_at lines (suc j))) c shown in
        let less = ltb-true (suc j) (suc i) g.0 in
        let earlier = earlier-place i j is within (omega (arith, less)) in
        let test : nat_lt (place (suc j)) (place (suc i)) ≡ true = grind (arith, nat_tests, earlier) in
        rw test (clause-at j (named (suc j) refl (omega arith)) (omega (arith, less)) ∙ g.1)

    hints-same : (hints : List Hint) (clauses : List (List Literal)) → ((m : ℕ) → Contains hints (hint.Line m) → 1 ≤ m → IsMarked t.marks m) → HasClauses s lines (suc i) hints clauses
        → HasClauses s trimmed (place (suc i)) (map (hint_renumbered place) hints) clauses
    hints-same [] [] named has = refl
    hints-same [] (c ∷ cs) named has = let never : ⊥ = cc in absurd never
    hints-same (h ∷ hs) [] named has = let never : ⊥ = cc in absurd never
    hints-same (h ∷ hs) (c ∷ cs) named has =
        let first = hint-same h c (λ m e some. named m (0, omega arith, e) some) cc in
        let others = hints-same hs cs (λ m in_hs some. named m (suc in_hs.0, (let less = in_hs.1 in omega (arith, less)), in_hs.2) some) cc in
        ap₂ (λ x xs. x ∷ xs) first others

    shown-same : (l : Line) → line_at lines (suc i) ≡ Some l → IsShown s lines (suc i) l → IsShown s trimmed (place (suc i)) (renumbered place l)
    shown-same (line.Cycle steps) stands shown = shown
    shown-same (line.Learn lits hints) stands shown = record {
      in_range = shown.in_range;
      clauses = shown.clauses;
      cited = hints-same hints shown.clauses (λ m contains some. names-marked i m is (record { line = line.Learn lits hints; stands = stands; named = contains }) some) shown.cited;
      refuted = shown.refuted;
    }

  module _ (log : Logged) (f : Form) (v : Bool) (r : Refutes log f v lines) where
    right-at : (i : ℕ) → IsMarked t.marks (suc i) → i < length lines → RightLine log f v trimmed (place (suc i))
    right-at i is within =
        let good = r.none_wrong (suc i) (omega arith) (omega arith) in
        let right = good.right in
        record {
          line = renumbered place right.line;
          stands = stands-at i is within ∙ ap (option_map (renumbered place)) right.stands;
          spelled = spelled-line place place-low right.line right.spelled;
          shown = shown-same (sought_of log f v) i is within right.line right.stands right.shown;
        }

    -- no clause before a line that is left is empty
    open-at : (k : ℕ) → suc k ≤ length trimmed → IsEmptyAt trimmed k → ⊥
    open-at zero within empty = let never : ⊥ = cc in absurd never
    open-at (suc j) within empty =
        let (i, is, inside, at) = line-from (suc j) within in
        let (h, marked_h, inside_h, at_h) = line-from j (omega arith) in
        let empty_h : IsEmptyAt lines (suc h) = sym (clause-at h marked_h inside_h) ∙ rw at_h empty in
        let later : suc h < suc i = earlier i h at at_h in
        let good = r.none_wrong (suc (suc h)) (omega arith) (omega (arith, later, inside)) in
        let back : suc (suc h) - 1 ≡ suc h = omega arith in
        good.open_before (rw back empty_h)
      where
        earlier : (i h : ℕ) → place (suc i) ≡ suc (suc j) → place (suc h) ≡ suc j → suc h < suc i
        earlier i h at at_h = go (nat_lt h i) refl
          where
            go : (b : Bool) → nat_lt h i ≡ b → suc h < suc i
            go true e = let less = ltb-true h i e in omega (arith, less)
            go false e =
                let not_less : i ≤ h = grind (arith, nat_tests, e) in
                let grows = before-grows t.marks lines (suc i) (suc h) (omega (arith, not_less)) in
                let never : ⊥ = omega (arith, grows, at, at_h) in absurd never

    none-wrong : NoneWrong log f v trimmed
    none-wrong zero some within = let never : ⊥ = omega arith in absurd never
    none-wrong (suc k) some within =
        let (i, is, inside, at) = line-from k within in
        let back : suc k - 1 ≡ k = omega arith in
        record { right = subst (RightLine log f v trimmed) at (right-at i is inside); open_before = rw back (open-at k within) }

    empty-last : (n : ℕ) → n ≡ length lines → IsEmptyAt lines n → IsEmptyAt trimmed (place n)
    empty-last zero e empty = let never : ⊥ = cc in absurd never
    empty-last (suc i) e empty =
        let is = (t.needed.needed (suc i) (omega arith)).1 (subst (IsNeeded lines) (sym e) Last) in
        clause-at i is (omega (arith, e)) ∙ empty

    refuting : Refutes log f v trimmed
    refuting = record { none_wrong = none-wrong; last = subst (IsEmptyAt trimmed) place-last (empty-last (length lines) refl r.last) }

  pub shorter : length trimmed ≤ length lines
  shorter = let last = place-last in let low = place-low (length lines) in omega (arith, last, low)

  pub keeps-refuting : KeepsRefuting lines trimmed
  keeps-refuting = refuting

  -- each line that is left, but the last, has a later one that names it
  module _ (back : NoneForward lines) where
    named-later : (i m : ℕ) → IsMarked t.marks (suc i) → i < length lines → IsNeeded lines m → Names lines m (suc i) → (k : ℕ) × (place (suc i) < k) × Names trimmed k (place (suc i))
    named-later i zero is within needed names = let stands = names.stands in let never : ⊥ = cc in absurd never
    named-later i (suc j) is within needed names =
        let marked_j = (t.needed.needed (suc j) (omega arith)).1 needed in
        let inside = slice_get_within lines j names.line names.stands in
        let looks = back (suc j) names.line (omega (arith, inside)) names.stands in
        let earlier = names-earlier (suc j) names.line (suc i) looks names.named in
        let less = earlier-place j i marked_j inside (omega (arith, earlier)) in (
          place (suc j),
          less,
          record {
            line = renumbered place names.line;
            stands = stands-at j marked_j inside ∙ ap (option_map (renumbered place)) names.stands;
            named = names-place place names.line (suc i) names.named;
          },
        )

    pub each-named : EachIsNamed trimmed
    each-named zero some less = let never : ⊥ = omega arith in absurd never
    each-named (suc k) some less =
        let (i, is, within, at) = line-from k (omega arith) in
        elim (needed-why lines (suc i) ((t.needed.needed (suc i) (omega arith)).0 is)) [
          | inl last ↦ (let full : place (suc i) ≡ length trimmed = ap place last ∙ place-last in let never : ⊥ = omega (arith, full, at, less) in absurd never)
          | inr why ↦ subst (λ n. (m : ℕ) × (n < m) × Names trimmed m n) at (named-later i why.0 is within why.1 why.2)
        ]

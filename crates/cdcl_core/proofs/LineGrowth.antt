-- One more line leaves what the earlier lines say.
use Rattle.std.proofs.Common.{◌≡◌, ◌∙◌, sym, ap, refl, subst, ℕ, zero, suc, ◌+◌, ◌-◌, ◌<◌, ◌≤◌, Bool, true, false, inl, inr, List, [], ◌∷◌, ◌++◌, length, map, Option, Some, None, arith}
use Rattle.std.specs.Prelude.{if◌then◌else◌, nat_lt, option_map, slice_get}
use Rattle.std.proofs.lemmas.Bool.{cases_lt, lt-ltb, ltb-true}
use Rattle.std.proofs.lemmas.List.{length_push}
use Rattle.std.proofs.lemmas.List.Sums.{sum_by_push}
use Rattle.std.proofs.lemmas.Option.{slice_get_past}
use Rattle.mt_model.specs.Form.{Form}
use Rattle.mt_model.specs.Log.{Logged}
use Rattle.axiom_rules.specs.declared.literal.Literal.{Literal}
use Rattle.axiom_rules.specs.Sought.{Sought, sought_of}
use Rattle.proof_log.specs.declared.line.Hint.{Hint}
use Rattle.proof_log.specs.declared.line.Hint.TheVariants as hint
use Rattle.proof_log.specs.declared.line.Line.{Line}
use Rattle.proof_log.specs.declared.line.Line.TheVariants as line
use Rattle.proof_log.specs.Derivations.{Derives, HasClauses, IsEmptyAt, IsShown, NoneWrong, Refutes, RightLine, clause_of_hint, clause_of_line, line_at}
use Rattle.proof_log.specs.Spelled.{IsSpelled}
use Rattle.cdcl_core.specs.Founds.{is_lesson, lessons}
use Rattle.mt_list.proofs.Lists.{got_last, got_kept, parts_same}

got_same : {X : Type 0} (xs ys : List X) (n : ℕ) → n < length xs → slice_get (xs ++ ys) n ≡ slice_get xs n
got_same [] ys n low = absurd (omega arith)
got_same (y ∷ xs) ys zero low = refl
got_same (y ∷ xs) ys (suc n) low = got_same xs ys n (omega arith)

-- a line stays where it is
pub line_kept : (lines more : List Line) (n : ℕ) (d : Line) → line_at lines n ≡ Some d → line_at (lines ++ more) n ≡ Some d
line_kept lines more zero d at = absurd (cc)
line_kept lines more (suc n) d at = got_kept lines more n d at

pub line_same : (lines more : List Line) (n : ℕ) → n ≤ length lines → line_at (lines ++ more) n ≡ line_at lines n
line_same lines more zero low = refl
line_same lines more (suc n) low = got_same lines more n (omega arith)

pub line_last : (lines : List Line) (d : Line) → line_at (lines ++ d ∷ []) (length lines + 1) ≡ Some d
line_last lines d =
    let e : length lines + 1 ≡ suc (length lines) = omega arith in
    subst (λ k. line_at (lines ++ d ∷ []) k ≡ Some d) (sym e) (got_last lines d)

-- what a hint cites it cites with more lines, and in a later line
some_line : (o : Option Line) (c : List Literal) → option_map clause_of_line o ≡ Some c → (d : Line) × (o ≡ Some d) × (clause_of_line d ≡ c)
some_line None c is = absurd (cc)
some_line (Some d) c is = (d, refl, cc)

cited_line : (b : Bool) (lines : List Line) (k : ℕ) (c : List Literal) → (if b then option_map clause_of_line (line_at lines k) else None) ≡ Some c
    → (b ≡ true) × ((d : Line) × (line_at lines k ≡ Some d) × (clause_of_line d ≡ c))
cited_line true lines k c is = (refl, some_line (line_at lines k) c is)
cited_line false lines k c is = absurd (cc)

pub hint_kept : (s : Sought) (lines more : List Line) (n m : ℕ) (h : Hint) (c : List Literal) → n ≤ m → clause_of_hint s lines n h ≡ Some c
    → clause_of_hint s (lines ++ more) m h ≡ Some c
hint_kept s lines more n m (hint.Rule r) c le is = is
hint_kept s lines more n m (hint.Line k) c le is =
    let (before, there) = cited_line (nat_lt k n) lines k c is in
    rw (lt-ltb k m (omega (arith, ltb-true k n before, le)), line_kept lines more k there.0 there.1) (ap Some there.2)

pub hints_kept : (s : Sought) (lines more : List Line) (n : ℕ) (hints : List Hint) (clauses : List (List Literal)) → HasClauses s lines n hints clauses
    → HasClauses s (lines ++ more) n hints clauses
hints_kept s lines more n [] clauses has = has
hints_kept s lines more n (h ∷ hs) [] has = absurd (cc)
hints_kept s lines more n (h ∷ hs) (c ∷ cs) has =
    let both = parts_same (clause_of_hint s lines n h) (Some c) (map (clause_of_hint s lines n) hs) (map Some cs) has in
    rw (hint_kept s lines more n n h c (omega arith) both.0, hints_kept s lines more n hs cs both.1) refl

pub shown_kept : (s : Sought) (lines more : List Line) (n : ℕ) (d : Line) → IsShown s lines n d → IsShown s (lines ++ more) n d
shown_kept s lines more n (line.Cycle steps) shown = shown
shown_kept s lines more n (line.Learn lits hints) shown = record {
  in_range = shown.in_range;
  clauses = shown.clauses;
  cited = hints_kept s lines more n hints shown.clauses shown.cited;
  refuted = shown.refuted;
}

no_line : (lines : List Line) (n : ℕ) → length lines < n → IsEmptyAt lines n → ⊥
no_line lines zero past empty = absurd (omega arith)
no_line lines (suc n) past empty =
    let none : slice_get lines n ≡ None = slice_get_past lines n (omega arith) in
    let both : None ≡ Some [] = sym (ap (option_map clause_of_line) none) ∙ empty in absurd (cc)

module _ (log : Logged) (f : Form) (v : Bool) (lines : List Line) (d : Line) where
  abbrev more : List Line
  more = lines ++ d ∷ []

  empty_before : (n : ℕ) → n ≤ length lines → IsEmptyAt more n → IsEmptyAt lines n
  empty_before n low empty = subst (λ o. option_map clause_of_line o ≡ Some []) (line_same lines (d ∷ []) n low) empty

  empty_last : IsEmptyAt more (length lines + 1) → clause_of_line d ≡ []
  empty_last empty = let both : Some (clause_of_line d) ≡ Some [] = sym (ap (option_map clause_of_line) (line_last lines d)) ∙ empty in cc

  last_empty : clause_of_line d ≡ [] → IsEmptyAt more (length lines + 1)
  last_empty empty = ap (option_map clause_of_line) (line_last lines d) ∙ ap Some empty

  right_kept : (n : ℕ) → RightLine log f v lines n → RightLine log f v more n
  right_kept n right = record {
    line = right.line;
    stands = line_kept lines (d ∷ []) n right.line right.stands;
    spelled = right.spelled;
    shown = shown_kept (sought_of log f v) lines (d ∷ []) n right.line right.shown;
  }

  none_wrong_more : Derives log f v lines → IsSpelled d → IsShown (sought_of log f v) lines (length lines + 1) d → NoneWrong log f v more
  none_wrong_more old spelled shown n least most = elim (cases_lt n (length lines + 1)) [
    | inl earlier ↦
        let good = old.none_wrong n least (omega (arith, earlier)) in
        record { right = right_kept n good.right; open_before = λ empty. good.open_before (empty_before (n - 1) (omega (arith, earlier)) empty) }
    | inr last ↦
        let e : length lines + 1 ≡ n = omega (arith, last, most, length_push lines d) in
        record {
          right = subst (RightLine log f v more) e (record {
            line = d;
            stands = line_last lines d;
            spelled = spelled;
            shown = shown_kept (sought_of log f v) lines (d ∷ []) (length lines + 1) d shown;
          });
          open_before = λ empty. old.none_empty (n - 1) (empty_before (n - 1) (omega (arith, e)) empty);
        }
  ]

  -- lines that derive do so with one more that is right and has a literal
  pub derives_more : Derives log f v lines → IsSpelled d → IsShown (sought_of log f v) lines (length lines + 1) d → (clause_of_line d ≡ [] → ⊥) → Derives log f v more
  derives_more old spelled shown some = record {
    none_wrong = none_wrong_more old spelled shown;
    none_empty = λ n empty. elim (cases_lt n (length lines + 1)) [
      | inl earlier ↦ old.none_empty n (empty_before n (omega (arith, earlier)) empty)
      | inr late ↦ elim (cases_lt n (length lines + 2)) [
        | inl last ↦ let e : n ≡ length lines + 1 = omega (arith, late, last) in some (empty_last (rw e at empty))
        | inr past ↦ none_past n (omega (arith, past)) empty
      ]
    ];
  } where
    none_past : (n : ℕ) → length lines + 1 < n → IsEmptyAt more n → ⊥
    none_past n past empty = no_line more n (omega (arith, past, length_push lines d)) empty

  -- and they refute with one that is right and has none
  pub refutes_more : Derives log f v lines → IsSpelled d → IsShown (sought_of log f v) lines (length lines + 1) d → clause_of_line d ≡ [] → Refutes log f v more
  refutes_more old spelled shown empty = record {
    none_wrong = none_wrong_more old spelled shown;
    last = subst (IsEmptyAt more) (sym (length_push lines d)) (last_empty empty);
  }

-- no line derives nothing
pub derives_none : (log : Logged) (f : Form) (v : Bool) → Derives log f v []
derives_none log f v = record {
  none_wrong = λ n least most. absurd (omega (arith, least, most));
  none_empty = λ n empty. no_line_of_none n empty;
} where
  no_line_of_none : (n : ℕ) → IsEmptyAt [] n → ⊥
  no_line_of_none zero empty = absurd (cc)
  no_line_of_none (suc n) empty = absurd (cc)

-- how many lessons there are with one more line
pub lessons_more : (lines : List Line) (d : Line) → lessons (lines ++ d ∷ []) ≡ lessons lines + (if is_lesson d then 1 else 0)
lessons_more lines d = sum_by_push (λ c. if is_lesson c then 1 else 0) lines d

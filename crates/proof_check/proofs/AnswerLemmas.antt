-- What is answered for lines that are judged one after another.
use Rattle.std.proofs.Common.{◌≡◌, ◌∙◌, sym, ap, refl, subst, ℕ, zero, suc, ◌+◌, ◌-◌, ◌<◌, Bool, ◌⊎◌, inl, inr, List, [], ◌∷◌, ◌++◌, ◌≤◌, length, get_or, Option, Some, None, Ok, Err, arith}
use Rattle.std.specs.Prelude.{IfOk, Result, option_map}
use Rattle.std.proofs.lemmas.Bool.{cases_lt}
use Rattle.std.proofs.lemmas.Option.{slice_get_past, slice_get_read}
use Rattle.mt_model.specs.Form.{Form}
use Rattle.mt_model.specs.Log.{Logged}
use Rattle.axiom_rules.specs.declared.literal.Literal.{Literal}
use Rattle.axiom_rules.specs.Sought.{Sought, sought_of}
use Rattle.proof_log.specs.declared.line.Line.{Line}
use Rattle.proof_log.specs.Derivations.{FirstWrong, IsEmptyAt, IsGood, IsShown, NoneWrong, RightLine, clause_of_line, line_at}
use Rattle.proof_log.specs.LinesOf.{IsTextOf}
use Rattle.proof_log.specs.Spelled.{IsSpelled}
use Rattle.proof_check.specs.declared.check.Check.{Check}
use Rattle.proof_check.specs.declared.check.TextCheck.{TextCheck}
use Rattle.proof_check.specs.declared.check.Check.TheVariants as check
use Rattle.proof_check.specs.Answering.{AreGood, AreJudged, IsAnswer, OfSought}
use Rattle.proof_check.specs.Judging.{IsNext, IsRight}
use Rattle.proof_check.specs.Keeping.{lines_with}
use Rattle.proof_check.proofs.KeptLemmas.{empty_same, kept_more, next_open, next_right, right_next}

-- line i + 1 of a list
pub line_there : (lines : List Line) (i : ℕ) (line : Line) → i < length lines → line ≡ get_or lines i line → line_at lines (i + 1) ≡ Some line
line_there lines i line low at =
    let e : i + 1 ≡ suc i = omega arith in
    subst (λ k. line_at lines k ≡ Some line) (sym e) (slice_get_read lines (length lines) i line refl low at)

pub no_line : (lines : List Line) (n : ℕ) → length lines < n → line_at lines n ≡ None
no_line lines zero past = refl
no_line lines (suc n) past = slice_get_past lines n (omega (arith, past))

no_empty : (lines : List Line) (n : ℕ) → line_at lines n ≡ None → IsEmptyAt lines n → ⊥
no_empty lines n none empty = let both : None ≡ Some [] = sym (ap (option_map clause_of_line) none) ∙ empty in absurd (cc)

module _ (log : Logged) (f : Form) (v : Bool) (lines : List Line) where
  pub right_there : (n : ℕ) (line : Line) → line_at lines n ≡ Some line → IsRight (sought_of log f v) lines n line → RightLine log f v lines n
  right_there n line at is = record { line = line; stands = at; spelled = is.spelled; shown = is.shown }

  pub there_right : (n : ℕ) (line : Line) → line_at lines n ≡ Some line → RightLine log f v lines n → IsRight (sought_of log f v) lines n line
  there_right n line at right =
      let same : right.line ≡ line = let both : Some right.line ≡ Some line = sym right.stands ∙ at in cc in
      record {
        spelled = subst IsSpelled same right.spelled;
        shown = subst (λ (l : Line). IsShown (sought_of log f v) lines n l) same right.shown;
      }

  pub good_more : (n : ℕ) → AreGood log f v lines n → RightLine log f v lines (n + 1) → (IsEmptyAt lines n → ⊥) → AreGood log f v lines (n + 1)
  good_more n good right unended m least most = elim (cases_lt m (n + 1)) [
    | inl earlier ↦ good m least (omega (arith, earlier))
    | inr last ↦
        let e : n + 1 ≡ m = omega (arith, last, most) in
        let before : m - 1 ≡ n = omega (arith, e) in
        record { right = subst (RightLine log f v lines) e right; open_before = subst (λ k. IsEmptyAt lines k → ⊥) (sym before) unended }
  ]

  pub first_wrong : (n : ℕ) → n < length lines → AreGood log f v lines n → (RightLine log f v lines (n + 1) → ⊥) ⊎ IsEmptyAt lines n → FirstWrong log f v lines (n + 1)
  first_wrong n low good wrong =
      let before : n ≡ n + 1 - 1 = omega arith in
      record {
        some = omega arith;
        within = omega (arith, low);
        wrong = elim wrong [ inl bad ↦ inl bad | inr empty ↦ inr (subst (IsEmptyAt lines) before empty) ];
        first = λ m least below. good m least (omega (arith, below));
      }

  pub not_good : (n : ℕ) → FirstWrong log f v lines n → IsGood log f v lines n → ⊥
  not_good n first good = elim first.wrong [ inl bad ↦ bad good.right | inr empty ↦ good.open_before empty ]

  pub no_first : NoneWrong log f v lines → (n : ℕ) → FirstWrong log f v lines n → ⊥
  no_first none n first = not_good n first (none n first.some first.within)

  pub same_first : (m n : ℕ) → FirstWrong log f v lines m → FirstWrong log f v lines n → m ≡ n
  same_first m n one other = elim (cases_lt m n) [
    | inl before ↦ absurd (not_good m one (other.first m one.some before))
    | inr from ↦ elim (cases_lt n m) [
      | inl after ↦ absurd (not_good n other (one.first n other.some after))
      | inr to ↦ omega (arith, from, to)
    ]
  ]

  pub answer_wrong : (n : ℕ) → FirstWrong log f v lines n → IsAnswer log f v lines (check.Wrong n)
  answer_wrong n first = record {
    refutes = (λ no. absurd (cc), λ refutes. absurd (no_first refutes.none_wrong n first));
    derives = (λ no. absurd (cc), λ derives. absurd (no_first derives.none_wrong n first));
    wrong = λ m. (
      λ is. let same : n ≡ m = cc in subst (FirstWrong log f v lines) same first,
      λ other. ap check.Wrong (same_first n m first other),
    );
  }

  pub answer_refutes : AreGood log f v lines (length lines) → IsEmptyAt lines (length lines) → IsAnswer log f v lines check.Refutes
  answer_refutes good last = record {
    refutes = (λ _. record { none_wrong = good; last = last }, λ _. refl);
    derives = (λ no. absurd (cc), λ derives. absurd (derives.none_empty (length lines) last));
    wrong = λ n. (λ no. absurd (cc), λ first. absurd (no_first good n first));
  }

  none_empty : AreGood log f v lines (length lines) → (IsEmptyAt lines (length lines) → ⊥) → (n : ℕ) → IsEmptyAt lines n → ⊥
  none_empty good unended n empty = elim (cases_lt n (length lines)) [
    | inl before ↦
        let e : n ≡ n + 1 - 1 = omega arith in
        (good (n + 1) (omega arith) (omega (arith, before))).open_before (subst (IsEmptyAt lines) e empty)
    | inr from ↦ elim (cases_lt (length lines) n) [
      | inl past ↦ no_empty lines n (no_line lines n past) empty
      | inr to ↦ let e : n ≡ length lines = omega (arith, from, to) in unended (subst (IsEmptyAt lines) e empty)
    ]
  ]

  pub answer_derives : AreGood log f v lines (length lines) → (IsEmptyAt lines (length lines) → ⊥) → IsAnswer log f v lines check.Derives
  answer_derives good unended = record {
    refutes = (λ no. absurd (cc), λ refutes. absurd (unended refutes.last));
    derives = (λ _. record { none_wrong = good; none_empty = none_empty good unended }, λ _. refl);
    wrong = λ n. (λ no. absurd (cc), λ first. absurd (no_first good n first));
  }

-- what a clause is, whether it is empty
empty_or : (o : Option (List Literal)) → (o ≡ Some []) ⊎ (o ≡ Some [] → ⊥)
empty_or None = inr (λ no. absurd (cc (no)))
empty_or (Some []) = inl refl
empty_or (Some (l ∷ ls)) = inr (λ no. absurd (cc (no)))

module _ (s : Sought) (lines : List Line) where
  module _ (i : ℕ) (kept : List (List Literal)) (line : Line) (low : i < length lines) (at : line ≡ get_or lines i line) (judged : AreJudged s lines i kept) where
    there : line_at lines (i + 1) ≡ Some line
    there = line_there lines i line low at

    within : i ≤ length lines
    within = omega (arith, low)

    pub judged_more : IsNext s kept line → (more : List (List Literal)) → more ≡ kept ++ clause_of_line line ∷ [] → AreJudged s lines (i + 1) more
    judged_more is more grown = record {
      good = λ log f v sought.
          good_more log f v lines i (judged.good log f v sought)
          (right_there log f v lines (i + 1) line there (subst (λ (x : Sought). IsRight x lines (i + 1) line) sought (next_right lines i kept within judged.same s line is)))
          (next_open lines i kept within judged.same s line is);
      same = grown ∙ kept_more lines kept i line low at judged.same;
    }

    -- a line that isn't good is the first wrong one
    pub judged_wrong : (IsNext s kept line → ⊥) → OfSought s (λ log f v. IsAnswer log f v lines (check.Wrong (i + 1)))
    judged_wrong wrong log f v sought =
        answer_wrong log f v lines (i + 1) (first_wrong log f v lines i low (judged.good log f v sought) (elim (empty_or (option_map clause_of_line (line_at lines i))) [
          | inl empty ↦ inr empty
          | inr unended ↦ inl (λ right.
              wrong (right_next lines i kept within judged.same s line (subst (λ (x : Sought). IsRight x lines (i + 1) line) (sym sought) (there_right log f v lines (i + 1) line there right)) unended))
        ]))

  -- where all were judged
  pub judged_all : (n : ℕ) (kept : List (List Literal)) (c : Check) → n ≡ length lines → AreJudged s lines n kept
      → (IsEmptyAt (lines_with kept) (length kept) → c ≡ check.Refutes) → ((IsEmptyAt (lines_with kept) (length kept) → ⊥) → c ≡ check.Derives)
      → OfSought s (λ log f v. IsAnswer log f v lines c)
  judged_all n kept c all judged refutes derives log f v sought =
      let good = subst (AreGood log f v lines) all (judged.good log f v sought) in
      let empty_same = empty_same lines n kept (omega (arith, all)) judged.same in
      elim (empty_or (option_map clause_of_line (line_at lines n))) [
        | inl empty ↦ subst (IsAnswer log f v lines) (sym (refutes (empty_same.1 empty))) (answer_refutes log f v lines good (subst (IsEmptyAt lines) all empty))
        | inr unended ↦ subst (IsAnswer log f v lines) (sym (derives (λ empty. unended (empty_same.0 empty))))
            (answer_derives log f v lines good (λ empty. unended (subst (IsEmptyAt lines) (sym all) empty)))
      ]

-- what follows from the answer, for the one who sought it
pub answered : {E : Type 0} (s t : Sought) → s ≡ t → (lines : List Line) (r : Result Check E) → IfOk r (λ c. OfSought s (λ log f v. IsAnswer log f v lines c))
    → (Q : Logged → Form → Bool → Check → Type 0) → ((log : Logged) (f : Form) (v : Bool) (c : Check) → t ≡ sought_of log f v → IsAnswer log f v lines c → Q log f v c)
    → IfOk r (λ c. OfSought t (λ log f v. Q log f v c))
answered s t same lines (Ok c) is Q each = λ log f v sought. each log f v c sought (is log f v (same ∙ sought))
answered s t same lines (Err e) is Q each = tt

-- the same of lines whose text was checked
pub answered_text : {E : Type 0} (s t : Sought) → s ≡ t → (text : List ℕ) (r : Result TextCheck E)
    → IfOk r (λ c. (lines : List Line) → IsTextOf text lines → OfSought s (λ log f v. IsAnswer log f v lines c.check))
    → (Q : List Line → Logged → Form → Bool → Check → Type 0)
    → ((lines : List Line) (log : Logged) (f : Form) (v : Bool) (c : Check) → t ≡ sought_of log f v → IsAnswer log f v lines c → Q lines log f v c)
    → IfOk r (λ c. (lines : List Line) → IsTextOf text lines → OfSought t (λ log f v. Q lines log f v c.check))
answered_text s t same text (Ok c) is Q each = λ lines of log f v sought. each lines log f v c.check sought (is lines of log f v (same ∙ sought))
answered_text s t same text (Err e) is Q each = tt

-- What the first lines are, and what it tells of all lines where the next one has no spelling.
use Rattle.std.proofs.Common.{◌≡◌, ◌∙◌, sym, ap, refl, subst, inl, inr, ℕ, zero, suc, ◌+◌, ◌-◌, ◌<◌, ◌≤◌, Bool, List, length, map, take, Some, arith}
use Rattle.std.specs.Prelude.{option_map}
use Rattle.std.proofs.lemmas.List.{length-take-le, take-take, take_all}
use Rattle.mt_model.specs.Form.{Form}
use Rattle.mt_model.specs.Log.{Logged}
use Rattle.axiom_rules.specs.Sought.{Sought, sought_of}
use Rattle.proof_log.specs.declared.line.Line.{Line}
use Rattle.proof_log.specs.Derivations.{FirstWrong, IsGood, NoneWrong, RightLine, clause_of_line, line_at}
use Rattle.proof_log.specs.LinesOf.{IsTextOf}
use Rattle.proof_log.specs.LinesText.{lines_text}
use Rattle.proof_log.specs.Spelled.{IsSpelled}
use Rattle.proof_check.specs.declared.check.Check.{Check}
use Rattle.proof_check.specs.declared.check.Check.TheVariants as check
use Rattle.proof_check.specs.Answering.{IsAnswer, IsSpelledFront, OfSought, with_unspelled}
use Rattle.proof_check.proofs.AnswerLemmas.{answer_wrong, first_wrong, right_there, there_right}
use Rattle.proof_check.proofs.KeptLemmas.{right_back, right_to, slice_get_taken}

-- a line before which two lists have the same lines is right in one where it is right in the other
right_along : (log : Logged) (f : Form) (v : Bool) (xs ys : List Line) (i : ℕ) → i ≤ length xs → i ≤ length ys → take i xs ≡ take i ys
    → line_at xs (i + 1) ≡ line_at ys (i + 1) → RightLine log f v xs (i + 1) → RightLine log f v ys (i + 1)
right_along log f v xs ys i in_xs in_ys same at right =
    let s : Sought = sought_of log f v in
    let is = there_right log f v xs (i + 1) right.line right.stands right in
    let shown = right_back xs i (map clause_of_line (take i ys)) in_xs (ap (map clause_of_line) (sym same)) s right.line is in
    right_there log f v ys (i + 1) right.line (sym at ∙ right.stands) (right_to ys i (map clause_of_line (take i ys)) in_ys refl s right.line shown)

module _ (log : Logged) (f : Form) (v : Bool) (lines : List Line) (n : ℕ) (within : n ≤ length lines) where
  full : length (take n lines) ≡ n
  full = length-take-le n lines within

  same_line : (m : ℕ) → m ≤ n → line_at (take n lines) m ≡ line_at lines m
  same_line zero most = refl
  same_line (suc m) most = slice_get_taken lines n m (omega (arith, most))

  right_whole : (m : ℕ) → 1 ≤ m → m ≤ n → RightLine log f v (take n lines) m → RightLine log f v lines m
  right_whole m some most right =
      let e : m - 1 + 1 ≡ m = omega (arith, some) in
      subst (RightLine log f v lines) e
      (right_along log f v (take n lines) lines (m - 1) (omega (arith, most, full)) (omega (arith, most, within)) (take-take (m - 1) n lines (omega (arith, most)))
      (same_line (m - 1 + 1) (omega (arith, e, most))) (subst (RightLine log f v (take n lines)) (sym e) right))

  right_front : (m : ℕ) → 1 ≤ m → m ≤ n → RightLine log f v lines m → RightLine log f v (take n lines) m
  right_front m some most right =
      let e : m - 1 + 1 ≡ m = omega (arith, some) in
      subst (RightLine log f v (take n lines)) e
      (right_along log f v lines (take n lines) (m - 1) (omega (arith, most, within)) (omega (arith, most, full)) (sym (take-take (m - 1) n lines (omega (arith, most))))
      (sym (same_line (m - 1 + 1) (omega (arith, e, most)))) (subst (RightLine log f v lines) (sym e) right))

  good_whole : (m : ℕ) → 1 ≤ m → m ≤ n → IsGood log f v (take n lines) m → IsGood log f v lines m
  good_whole m some most good = record {
    right = right_whole m some most good.right;
    open_before = λ empty. good.open_before (ap (option_map clause_of_line) (same_line (m - 1) (omega (arith, most))) ∙ empty);
  }

  wrong_whole : (m : ℕ) → FirstWrong log f v (take n lines) m → FirstWrong log f v lines m
  wrong_whole m first =
      let most : m ≤ n = omega (arith, first.within, full) in
      record {
        some = first.some;
        within = omega (arith, most, within);
        wrong = elim first.wrong [
          | inl bad ↦ inl (λ right. bad (right_front m first.some most right))
          | inr empty ↦ inr (sym (ap (option_map clause_of_line) (same_line (m - 1) (omega (arith, most)))) ∙ empty)
        ];
        first = λ k least below. good_whole k least (omega (arith, below, most)) (first.first k least below);
      }

  module _ (low : n < length lines) (unspelled : (line : Line) → line_at lines (n + 1) ≡ Some line → IsSpelled line → ⊥) where
    next_wrong : NoneWrong log f v (take n lines) → FirstWrong log f v lines (n + 1)
    next_wrong none =
        first_wrong log f v lines n low (λ m least most. good_whole m least most (none m least (omega (arith, most, full))))
        (inl (λ right. unspelled right.line right.stands right.spelled))

    unspelled_answer : (found : Check) → IsAnswer log f v (take n lines) found → IsAnswer log f v lines (with_unspelled n found)
    unspelled_answer check.Refutes answer = answer_wrong log f v lines (n + 1) (next_wrong (answer.refutes.0 refl).none_wrong)
    unspelled_answer check.Derives answer = answer_wrong log f v lines (n + 1) (next_wrong (answer.derives.0 refl).none_wrong)
    unspelled_answer (check.Wrong k) answer = answer_wrong log f v lines k (wrong_whole k ((answer.wrong k).0 refl))

-- what was answered for the text of the first lines
module _ (s : Sought) (lines : List Line) (n : ℕ) (front : IsSpelledFront lines n) (text : List ℕ) (is : text ≡ lines_text (take n lines)) (found : Check)
    (answer : (ls : List Line) → IsTextOf text ls → OfSought s (λ log f v. IsAnswer log f v ls found)) where
  of_front : OfSought s (λ log f v. IsAnswer log f v (take n lines) found)
  of_front = answer (take n lines) (record { spelled = front.spelled; text = is })

  -- where all have a spelling
  pub all_answered : n ≡ length lines → OfSought s (λ log f v. IsAnswer log f v lines found)
  all_answered all log f v sought = subst (λ ls. IsAnswer log f v ls found) (take_all n lines (omega (arith, all))) (of_front log f v sought)

  -- where the next one has none
  pub front_answered : n < length lines → (c : Check) → c ≡ with_unspelled n found → OfSought s (λ log f v. IsAnswer log f v lines c)
  front_answered low c same log f v sought =
      subst (IsAnswer log f v lines) (sym same) (unspelled_answer log f v lines n front.within low front.next found (of_front log f v sought))

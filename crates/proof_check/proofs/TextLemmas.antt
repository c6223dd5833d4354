-- Lines that are judged as they are read from their text.
use Rattle.std.proofs.Common.{◌≡◌, ◌∙◌, sym, ap, subst, cond, ℕ, ◌+◌, ◌-◌, ◌<◌, ◌≤◌, List, [], ◌∷◌, ◌++◌, length, length-drop, get_or, take, drop, arith}
use Rattle.std.proofs.lemmas.List.{drop_more, take_all, take_more}
use Rattle.std.proofs.lemmas.List.Sums.{sum_by-append}
use Rattle.axiom_rules.specs.declared.literal.Literal.{Literal}
use Rattle.axiom_rules.specs.Sought.{Sought}
use Rattle.proof_log.specs.declared.line.Line.{Line}
use Rattle.proof_log.specs.Derivations.{IsEmptyAt, clause_of_line}
use Rattle.proof_log.specs.Freshness.{is_learn, learn_lines}
use Rattle.proof_log.specs.declared.parts.LineWords.{LineWords}
use Rattle.proof_log.specs.LinesOf.{IsTextOf}
use Rattle.proof_log.specs.Parts.{AreWordsOf, IsHeadWords}
use Rattle.proof_log.specs.Spelled.{IsSpelled}
use Rattle.proof_check.specs.declared.check.Check.{Check}
use Rattle.proof_check.specs.declared.check.Check.TheVariants as check
use Rattle.proof_check.specs.Answering.{AreJudged, IsAnswer, OfSought, right_lines}
use Rattle.proof_check.specs.Judging.{IsNext}
use Rattle.proof_check.specs.Keeping.{lines_with}
use Rattle.proof_check.proofs.AnswerLemmas.{judged_all, judged_more, judged_wrong}
use Rattle.mt_list.proofs.Lists.{parts_same}

-- the element that comes next in a list, and what follows it
record IsNextOf {X : Type 0} (xs : List X) (n : ℕ) (x : X) (ys : List X) : Type 0 where
  low : n < length xs
  at : x ≡ get_or xs n x
  later : ys ≡ drop (n + 1) xs

next_of : {X : Type 0} (xs : List X) (n : ℕ) (x : X) (ys : List X) → drop n xs ≡ x ∷ ys → IsNextOf xs n x ys
next_of xs n x ys is =
    let low : n < length xs = omega (arith, ap length is, length-drop n xs) in
    let parts = parts_same x (get_or xs n x) ys (drop (n + 1) xs) (sym is ∙ drop_more xs n x low) in
    record { low = low; at = parts.0; later = parts.1 }

none_left : {X : Type 0} (xs : List X) (n : ℕ) → n ≤ length xs → drop n xs ≡ [] → n ≡ length xs
none_left xs n within none = omega (arith, within, ap length none, length-drop n xs)

-- of these lines those whose clauses are kept were judged, so many of them are Learn lines, and the rest is the text of the others
pub record AreJudgedTo (s : Sought) (kept : List (List Literal)) (rest : List ℕ) (count : ℕ) (lines : List Line) : Type 0 where
  pub within : length kept ≤ length lines
  pub judged : AreJudged s lines (length kept) kept
  pub text : IsTextOf rest (drop (length kept) lines)
  pub learnt : count ≡ learn_lines (take (length kept) lines)

-- what is known of a text of which a rest is left
pub record AreTaken (s : Sought) (text : List ℕ) (kept : List (List Literal)) (rest : List ℕ) (count : ℕ) : Type 0 where
  pub each : (lines : List Line) → IsTextOf text lines → AreJudgedTo s kept rest count lines
  pub room : length kept + length rest ≤ length text
  pub few : count ≤ length kept

module _ (s : Sought) (text : List ℕ) (kept : List (List Literal)) (rest : List ℕ) (count : ℕ) (before : AreTaken s text kept rest count) (ws : LineWords) (after : List ℕ)
    (head : (lines : List Line) → IsTextOf rest lines → IsHeadWords lines ws after) where
  next_line : (lines : List Line) (is : IsTextOf text lines) → (let h = head (drop (length kept) lines) (before.each lines is).text in IsNextOf lines (length kept) h.line h.others)
  next_line lines is =
      let h = head (drop (length kept) lines) (before.each lines is).text in
      next_of lines (length kept) h.line h.others h.split

  pub taken_wrong : ((line : Line) → IsSpelled line → AreWordsOf ws line → IsNext s kept line → ⊥) → (n : ℕ) → n ≡ length kept + 1 → (lines : List Line)
      → IsTextOf text lines → OfSought s (λ log f v. IsAnswer log f v lines (check.Wrong n))
  taken_wrong wrong n number lines is =
      let h = head (drop (length kept) lines) (before.each lines is).text in
      let next = next_line lines is in
      subst (λ k. OfSought s (λ log f v. IsAnswer log f v lines (check.Wrong k))) (sym number)
      (judged_wrong s lines (length kept) kept h.line next.low next.at (before.each lines is).judged (wrong h.line h.spelled h.words))

  pub taken_more : ((line : Line) → IsSpelled line → AreWordsOf ws line → IsNext s kept line) → length after < length rest → (more : List (List Literal)) → length more ≡ length kept + 1
      → ((line : Line) → IsSpelled line → AreWordsOf ws line → more ≡ kept ++ clause_of_line line ∷ []) → (counted : ℕ)
      → ((line : Line) → AreWordsOf ws line → counted ≡ count + learn_lines (line ∷ [])) → counted ≤ count + 1
      → AreTaken s text more after counted
  taken_more good shorter more size grown counted is_counted one = record {
    each = λ lines is.
        let so_far = before.each lines is in
        let h = head (drop (length kept) lines) so_far.text in
        let next = next_line lines is in
        record {
          within = omega (arith, size, next.low);
          judged =
              subst (λ k. AreJudged s lines k more) (sym size)
              (judged_more s lines (length kept) kept h.line next.low next.at so_far.judged (good h.line h.spelled h.words) more (grown h.line h.spelled h.words));
          text = subst (IsTextOf after) (next.later ∙ ap (λ k. drop k lines) (sym size)) h.text;
          learnt =
              is_counted h.line h.words ∙ ap (λ k. k + learn_lines (h.line ∷ [])) so_far.learnt ∙ sym (sum_by-append (λ (l : Line). cond (is_learn l) 1 0) (take (length kept) lines) (h.line ∷ []))
              ∙ ap learn_lines (ap (λ l. take (length kept) lines ++ l ∷ []) next.at ∙ sym (take_more lines (length kept) h.line next.low)) ∙ ap (λ k. learn_lines (take k lines)) (sym size);
        };
    room = omega (arith, before.room, size, shorter);
    few = omega (arith, before.few, size, one);
  }

-- the Learn lines before a line that is wrong
pub counted_wrong : (s : Sought) (text : List ℕ) (kept : List (List Literal)) (rest : List ℕ) (count : ℕ) → AreTaken s text kept rest count → (n : ℕ) → n ≡ length kept + 1
    → (lines : List Line) → IsTextOf text lines → count ≡ learn_lines (right_lines (check.Wrong n) lines)
counted_wrong s text kept rest count before n number lines is =
    let less : n - 1 ≡ length kept = omega (arith, number) in
    (before.each lines is).learnt ∙ ap (λ k. learn_lines (take k lines)) (sym less)

-- where nothing is left
module _ (s : Sought) (text : List ℕ) (kept : List (List Literal)) (rest : List ℕ) (count : ℕ) (before : AreTaken s text kept rest count)
    (none : (lines : List Line) → IsTextOf rest lines → lines ≡ []) where
  whole : (lines : List Line) (is : IsTextOf text lines) → length kept ≡ length lines
  whole lines is =
      let so_far = before.each lines is in
      none_left lines (length kept) so_far.within (none (drop (length kept) lines) so_far.text)

  pub taken_all : (c : Check) → (IsEmptyAt (lines_with kept) (length kept) → c ≡ check.Refutes) → ((IsEmptyAt (lines_with kept) (length kept) → ⊥) → c ≡ check.Derives)
      → (lines : List Line) → IsTextOf text lines → OfSought s (λ log f v. IsAnswer log f v lines c)
  taken_all c refutes derives lines is = judged_all s lines (length kept) kept c (whole lines is) (before.each lines is).judged refutes derives

  counted_all : (lines : List Line) → IsTextOf text lines → count ≡ learn_lines lines
  counted_all lines is = (before.each lines is).learnt ∙ ap learn_lines (ap (λ k. take k lines) (whole lines is) ∙ take_all (length lines) lines (omega arith))

  pub counted_right : (c : Check) → (IsEmptyAt (lines_with kept) (length kept) → c ≡ check.Refutes) → ((IsEmptyAt (lines_with kept) (length kept) → ⊥) → c ≡ check.Derives)
      → (lines : List Line) → IsTextOf text lines → count ≡ learn_lines (right_lines c lines)
  counted_right check.Refutes refutes derives lines is = counted_all lines is
  counted_right check.Derives refutes derives lines is = counted_all lines is
  counted_right (check.Wrong n) refutes derives lines is = absurd (cc (derives (λ empty. absurd (cc (refutes empty)))))

-- Texts of reports that end too early.
use Rattle.std.proofs.Common.{◌≡◌, ◌∙◌, sym, ap, refl, arith, ℕ, ◌+◌, Bool, cond, true, false, List, [], ◌∷◌, ◌++◌, append_assoc, length, inl, inr, Result, Ok, Err}
use Rattle.std.proofs.lemmas.Bool.Decides.{nat_tests}
use Rattle.std.proofs.lemmas.List.{append-nil}
use Rattle.std.proofs.lemmas.List.Elements.{All-cons, All-nil}
use Rattle.std.proofs.lemmas.List.Sums.{sum_by-cons}
use Rattle.memchr.specs.Find.{is_byte}
use Rattle.proof_log.specs.LinesText.{newline}
use Rattle.report_text.specs.declared.fault.ReportFault.{ReportFault}
use Rattle.report_text.specs.declared.fault.ReportFault.TheVariants as fault
use Rattle.report_text.specs.declared.report.Report.{Report}
use Rattle.report_text.specs.Laws.{CutTextsAreFaulty}
use Rattle.report_text.specs.ReportOf.{Answers, AreLines, IsCutShort, IsFaultyAtEnd, IsReport, LacksNewline, lines_in}
use Rattle.report_text.specs.ReportText.{report_text}
use Rattle.report_text.proofs.Cutting.{lines-append, no-line}
use Rattle.report_text.proofs.Reports.{report-apart}
use Rattle.report_text.proofs.Unambiguous.{one-reading}

-- the lines of bytes, and what stands after their last newline
record Parted (bytes : List ℕ) : Type 0 where
  lines : List ℕ
  rest : List ℕ
  are : AreLines lines
  lacks : LacksNewline rest
  split : bytes ≡ lines ++ rest
  count : lines_in bytes ≡ lines_in lines

abbrev weight : ℕ → ℕ
weight b = cond (is_byte newline b) 1 0

-- one more byte, a newline or not, before as many lines
counted : (b : ℕ) (xs ys : List ℕ) → lines_in xs ≡ lines_in ys → lines_in (b ∷ xs) ≡ lines_in (b ∷ ys)
counted b xs ys same = sum_by-cons weight b xs ∙ ap (λ n. weight b + n) same ∙ sym (sum_by-cons weight b ys)

uncounted : (b : ℕ) (xs : List ℕ) → is_byte newline b ≡ false → lines_in (b ∷ xs) ≡ lines_in xs
uncounted b xs other = rw other refl

parted : (bytes : List ℕ) → Parted bytes
parted [] = record { lines = []; rest = []; are = inl refl; lacks = All-nil (λ b. is_byte newline b ≡ false); split = refl; count = refl }
parted (b ∷ bytes) = by (is_byte newline b) refl (parted bytes)
  where
    by : (t : Bool) → is_byte newline b ≡ t → Parted bytes → Parted (b ∷ bytes)
    by true test p =
        let here : b ≡ newline = grind (arith, nat_tests) in
        record {
          lines = b ∷ p.lines;
          rest = p.rest;
          are = lines-append (b ∷ []) p.lines (inr ([], ap (λ c. c ∷ []) here)) p.are;
          lacks = p.lacks;
          split = ap (λ l. b ∷ l) p.split;
          count = counted b bytes p.lines p.count;
        }
    by false test p = elim p.are [
      | inl none ↦ record {
        lines = [];
        rest = b ∷ p.rest;
        are = inl refl;
        lacks = All-cons (λ c. is_byte newline c ≡ false) b p.rest test p.lacks;
        split = ap (λ l. b ∷ l) (p.split ∙ ap (λ l. l ++ p.rest) none);
        count = uncounted b bytes test ∙ p.count ∙ ap lines_in none;
      }
      | inr (front, is) ↦ record {
        lines = b ∷ p.lines;
        rest = p.rest;
        are = inr (b ∷ front, ap (λ l. b ∷ l) is);
        lacks = p.lacks;
        split = ap (λ l. b ∷ l) p.split;
        count = counted b bytes p.lines p.count;
      }
    ]

-- a text that ends too early is no report's
no-report : (bytes : List ℕ) → IsCutShort bytes → IsReport bytes → ⊥
no-report bytes cut is =
    let x = is.0 in
    let texts : report_text x ++ cut.lost ≡ report_text cut.report ++ [] = ap (λ t. t ++ cut.lost) is.1.text ∙ sym cut.text ∙ sym (append-nil (report_text cut.report)) in
    let apart = report-apart x cut.report cut.lost [] is.1.spelled cut.spelled texts in
    absurd (omega (arith, cut.some, ap length apart.1))

pub cut-faulty : CutTextsAreFaulty
cut-faulty bytes cut =
    let p = parted bytes in
    record {
      before = p.lines;
      rest = p.rest;
      split = p.split;
      lines = p.are;
      place = ap (λ n. n + 1) p.count;
      begun = record {
        text = report_text cut.report;
        is = (cut.report, record { spelled = cut.spelled; text = refl });
        after = p.rest ++ cut.lost;
        begins = cut.text ∙ ap (λ t. t ++ cut.lost) p.split ∙ append_assoc p.lines p.rest cut.lost;
      };
      faulty = λ line after lacks is begun. no-line p.rest line after p.lacks lacks is;
      no_report = no-report bytes cut;
    }

abbrev failed : ReportFault → Result Report ReportFault
failed f = Err f

same-fault : (f g : ReportFault) → failed f ≡ failed g → f ≡ g
same-fault f g same = cc

-- what a call answers of a text that ends too early
pub answers-cut : (bytes : List ℕ) (result : Result Report ReportFault) → Answers bytes result → IsCutShort bytes → IsFaultyAtEnd bytes result
answers-cut bytes (Ok r) answer cut = no-report bytes cut (r, answer)
answers-cut bytes (Err f) (inl memory) cut = inl memory
answers-cut bytes (Err f) (inr is) cut = inr (same-fault f (fault.Syntax (lines_in bytes + 1)) (one-reading bytes (Err f) (Err (fault.Syntax (lines_in bytes + 1))) is (cut-faulty bytes cut)))

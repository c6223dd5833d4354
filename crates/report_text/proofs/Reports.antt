-- Whole reports, and where reading them stops.
use Rattle.std.proofs.Common.{◌≡◌, ◌∙◌, sym, ap, subst, refl, arith, ℕ, Bool, true, false, List, [], ◌++◌, append_assoc, length, inr, codes}
use Rattle.std.specs.Fmt.{decimal}
use Rattle.std.specs.List.{flat_map}
use Rattle.std.proofs.lemmas.List.{append_cancel_left}
use Rattle.std.proofs.lemmas.List.Elements.{All-nil}
use Rattle.mt_model.specs.declared.step.Step.{Step}
use Rattle.mt_model.specs.Texts.{step_text}
use Rattle.proof_log.specs.Spelled.{IsNumber}
use Rattle.report_text.specs.declared.part.Opening.TheVariants as opening
use Rattle.report_text.specs.declared.report.Section.{Section}
use Rattle.report_text.specs.declared.report.Report.{Report}
use Rattle.report_text.specs.declared.report.Report.TheVariants as report
use Rattle.report_text.specs.Parts.{IsOpening, opening_line}
use Rattle.report_text.specs.ReportOf.{AreLines, IsReport, LacksNewline}
use Rattle.report_text.specs.ReportText.{body_text, bound_text, ended, entries_text, events_line, events_of, kind_line, kind_of, last_line, mark, marked_text, report_text, section_line, section_text}
use Rattle.report_text.specs.Spelled.{AreSpelledVerdicts, IsSpelled, IsSpelledBound, IsSpelledInconsistent, IsSpelledSection}
use Rattle.report_text.specs.Stops.{IsBody, IsMarked, IsOn}
use Rattle.report_text.proofs.Cutting.{lines-append}
use Rattle.report_text.proofs.ItemLists.{items-apart, items-lines}
use Rattle.report_text.proofs.LineTexts.{bounds-spelled, events-spelled, last-lacks, mark-lacks, openings-spelled}
use Rattle.report_text.proofs.Lined.{AreLined, AreSpellings, same-front}
use Rattle.report_text.proofs.Sections.{entries-lines, kind-in_range, section-apart, text-is}
use Rattle.report_text.proofs.Stopping.{GoesOn, IsFrontOf}

walk-count : (m n : ℕ) → opening.Inconsistent m ≡ opening.Inconsistent n → m ≡ n
walk-count m n same = cc

section-lines : (v : Bool) (a : Section) → AreLines (section_text v a)
section-lines v a = lines-append (ended (section_line v a)) (entries_text a) (inr (section_line v a, refl)) (entries-lines 0 a)

crossed : (m n : ℕ) (xs : List Step) (c d : Section) (s t : List ℕ) → IsSpelledInconsistent m xs → AreSpelledVerdicts n c d
    → body_text (report.Inconsistent m xs) ++ s ≡ body_text (report.Verdicts n c d) ++ t → ⊥
crossed m n xs c d s t p q same =
    let line_x = ended (codes "inconsistent " ++ decimal (length xs)) in
    let line_c = ended (kind_line true (kind_of c)) in
    let more = section_text false d ++ t in
    let texts =
    sym (append_assoc line_x (flat_map bound_text xs) s) ∙ same ∙ append_assoc (section_text true c) (section_text false d) t
    ∙ ap (λ u. u ++ more) (text-is n true (kind_of c) c refl) ∙ append_assoc line_c (entries_text c) more in
    let first =
    same-front IsOpening opening_line openings-spelled (opening.Inconsistent (length xs)) (opening.OnTrue (kind_of c)) (flat_map bound_text xs ++ s)
    (entries_text c ++ more) p.walk.count (kind-in_range n c q.true_spelled) texts in
    let k = first.0 in
    absurd (cc k)

-- reports on as many events are equal where what stands between this number and the last line begins the same bytes
pub body-apart : (events : ℕ) (x y : Report) (s t : List ℕ) → IsOn events x → IsOn events y → body_text x ++ s ≡ body_text y ++ t → (x ≡ y) × (s ≡ t)
body-apart events x y s t is_x is_y same = by x y is_x.spelled is_y.spelled (is_x.count ∙ sym is_y.count) same
  where
    walk : (m n : ℕ) (xs ys : List Step) → m ≡ n → xs ≡ ys → report.Inconsistent m xs ≡ report.Inconsistent n ys
    walk m n xs ys p q = cc

    verdicts : (m n : ℕ) (a b c d : Section) → m ≡ n → a ≡ c → b ≡ d → report.Verdicts m a b ≡ report.Verdicts n c d
    verdicts m n a b c d p q r = cc

    by : (x y : Report) → IsSpelled x → IsSpelled y → events_of x ≡ events_of y → body_text x ++ s ≡ body_text y ++ t → (x ≡ y) × (s ≡ t)
    by (report.Inconsistent m xs) (report.Inconsistent n ys) p q events same =
        let line_x = ended (codes "inconsistent " ++ decimal (length xs)) in
        let line_y = ended (codes "inconsistent " ++ decimal (length ys)) in
        let texts = sym (append_assoc line_x (flat_map bound_text xs) s) ∙ same ∙ append_assoc line_y (flat_map bound_text ys) t in
        let first =
        same-front IsOpening opening_line openings-spelled (opening.Inconsistent (length xs)) (opening.Inconsistent (length ys))
        (flat_map bound_text xs ++ s) (flat_map bound_text ys ++ t) p.walk.count q.walk.count texts in
        let rest = items-apart IsSpelledBound step_text bounds-spelled xs ys s t (walk-count (length xs) (length ys) first.0) p.walk.each q.walk.each first.1 in
        (walk m n xs ys events rest.0, rest.1)
    by (report.Inconsistent m xs) (report.Verdicts n c d) p q events same = absurd (crossed m n xs c d s t p q same)
    by (report.Verdicts m a b) (report.Inconsistent n ys) p q events same = absurd (crossed n m ys a b t s q p (sym same))
    by (report.Verdicts m a b) (report.Verdicts n c d) p q events same =
        let texts = sym (append_assoc (section_text true a) (section_text false b) s) ∙ same ∙ append_assoc (section_text true c) (section_text false d) t in
        let q_true = subst (λ k. IsSpelledSection k c) (sym events) q.true_spelled in
        let q_false = subst (λ k. IsSpelledSection k d) (sym events) q.false_spelled in
        let first = section-apart m true a c (section_text false b ++ s) (section_text false d ++ t) p.true_spelled q_true texts in
        let rest = section-apart m false b d s t p.false_spelled q_false first.1 in
        (verdicts m n a b c d events first.0 rest.0, rest.1)

pub body-lines : (r : Report) → AreLines (body_text r)
body-lines (report.Inconsistent n steps) = lines-append (ended (codes "inconsistent " ++ decimal (length steps))) (flat_map bound_text steps) (inr (codes "inconsistent " ++ decimal (length steps), refl)) (items-lines IsSpelledBound step_text bounds-spelled steps)
body-lines (report.Verdicts n a b) = lines-append (section_text true a) (section_text false b) (section-lines true a) (section-lines false b)

-- what follows the number of events
pub record AfterEvents (events : ℕ) (bytes : List ℕ) : Type 0 where
  pub report : Report
  pub is : IsOn events report
  pub text : body_text report ++ ended last_line ≡ bytes

pub on-itself : (r : Report) → IsSpelled r → IsOn (events_of r) r
on-itself r is = record { spelled = is; count = refl }

pub events-in_range : (r : Report) → IsSpelled r → IsNumber (events_of r)
events-in_range (report.Inconsistent n steps) is = is.few
events-in_range (report.Verdicts n a b) is = is.few

no-walk : IsSpelled (report.Inconsistent 0 [])
no-walk = record { few = omega arith; walk = record { count = omega arith; each = All-nil IsSpelledBound } }

pub body-first : (events : ℕ) → IsFrontOf (IsBody events) (AfterEvents events)
body-first events = record {
  more = λ t b. record {
    text = body_text b.report ++ ended last_line;
    is = record { report = b.report; is = b.is; text = refl };
    after = ended last_line;
    begins = ap (λ u. u ++ ended last_line) b.text;
  };
  first = λ t a. (body_text a.report, ended last_line, record { report = a.report; is = a.is; text = refl }, sym a.text);
}

-- the last line alone
abbrev pub IsLast : List ℕ → Type 0
IsLast t = t ≡ ended last_line

pub body-on : (events : ℕ) (r : Report) → IsOn events r → GoesOn (body_text r) IsLast (AfterEvents events)
body-on events r is = record {
  lines = body-lines r;
  forth = λ t last. record { report = r; is = is; text = ap (λ u. body_text r ++ u) (sym last) };
  back = λ m s u a same.
      let texts = sym (append_assoc (body_text a.report) (ended last_line) s) ∙ ap (λ t. t ++ s) a.text ∙ same in
      let apart = body-apart events a.report r (ended last_line ++ s) u a.is is texts in
      (ended last_line, refl, sym a.text ∙ ap (λ x. body_text x ++ ended last_line) apart.0);
}

pub events-lined : AreLined IsNumber events_line AfterEvents IsMarked
events-lined = record {
  spellings = events-spelled;
  forth = λ n t few a. record {
    report = a.report;
    spelled = a.is.spelled;
    text = ap (λ k. ended (events_line k) ++ (body_text a.report ++ ended last_line)) a.is.count ∙ ap (λ u. ended (events_line n) ++ u) a.text;
  };
  back = λ m a. (
    events_of a.report,
    body_text a.report ++ ended last_line,
    events-in_range a.report a.spelled,
    record { report = a.report; is = on-itself a.report a.spelled; text = refl },
    sym a.text,
  );
  some = (marked_text (report.Inconsistent 0 []), record { report = report.Inconsistent 0 []; spelled = no-walk; text = refl });
}

-- lines of given words

abbrev pub Always : Unit {0} → Type 0
Always u = Unit {0}

pub words-spelled : (words : List ℕ) → LacksNewline words → AreSpellings Always (λ u. words)
words-spelled words lacks = record { lacks = λ u is. lacks; one = λ u v p q same. refl }

pub last-lined : AreLined Always (λ u. last_line) (λ u t. t ≡ []) IsLast
last-lined = record {
  spellings = words-spelled last_line last-lacks;
  forth = λ u t is none. ap (λ w. ended last_line ++ w) none;
  back = λ m is. (tt, [], tt, refl, is);
  some = (ended last_line, refl);
}

pub mark-lined : AreLined Always (λ u. mark) (λ u. IsMarked) IsReport
mark-lined = record {
  spellings = words-spelled mark mark-lacks;
  forth = λ u t is m. (m.report, record { spelled = m.spelled; text = ap (λ w. ended mark ++ w) m.text });
  back = λ m is. (tt, marked_text is.0, tt, record { report = is.0; spelled = is.1.spelled; text = refl }, sym is.1.text);
  some = (report_text (report.Inconsistent 0 []), (report.Inconsistent 0 [], record { spelled = no-walk; text = refl }));
}

-- reports are equal where their texts begin the same bytes
pub report-apart : (x y : Report) (s t : List ℕ) → IsSpelled x → IsSpelled y → report_text x ++ s ≡ report_text y ++ t → (x ≡ y) × (s ≡ t)
report-apart x y s t is_x is_y same =
    let begun : marked_text x ++ s ≡ marked_text y ++ t =
    append_cancel_left (ended mark) (marked_text x ++ s) (marked_text y ++ t) (sym (append_assoc (ended mark) (marked_text x) s) ∙ same ∙ append_assoc (ended mark) (marked_text y) t) in
    let body_x = body_text x ++ ended last_line in
    let body_y = body_text y ++ ended last_line in
    let texts = sym (append_assoc (ended (events_line (events_of x))) body_x s) ∙ begun ∙ append_assoc (ended (events_line (events_of y))) body_y t in
    let first = same-front IsNumber events_line events-spelled (events_of x) (events_of y) (body_x ++ s) (body_y ++ t) (events-in_range x is_x) (events-in_range y is_y) texts in
    let bodies = sym (append_assoc (body_text x) (ended last_line) s) ∙ first.1 ∙ append_assoc (body_text y) (ended last_line) t in
    let on_x : IsOn (events_of y) x = record { spelled = is_x; count = first.0 } in
    let last = body-apart (events_of y) x y (ended last_line ++ s) (ended last_line ++ t) on_x (on-itself y is_y) bodies in
    (last.0, append_cancel_left (ended last_line) s t last.1)

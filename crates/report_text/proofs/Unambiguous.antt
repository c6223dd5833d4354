-- Bytes are a report in at most one way, or have one first faulty line.
use Rattle.std.proofs.Common.{◌≡◌, ◌∙◌, sym, ap, refl, arith, ℕ, ◌+◌, ◌-◌, ◌≤◌, Bool, true, false, List, [], ◌∷◌, ◌++◌, append_assoc, length, length-append, take, inl, inr, Ok, Err}
use Rattle.std.proofs.Math.Seq.{take-append_seam}
use Rattle.std.proofs.lemmas.Bool.Decides.{nat_tests}
use Rattle.std.proofs.lemmas.List.{append-nil, append_cancel_left, nil_from_length}
use Rattle.std.proofs.lemmas.List.Elements.{All-cons, All-nil}
use Rattle.memchr.specs.Find.{is_byte}
use Rattle.proof_log.specs.LinesText.{newline}
use Rattle.report_text.specs.declared.fault.ReportFault.TheVariants as fault
use Rattle.report_text.specs.declared.report.Report.{Report}
use Rattle.report_text.specs.Laws.{BytesAreUnambiguous, TextsReadBack, TextsTellApart}
use Rattle.report_text.specs.Parts.{IsFront}
use Rattle.report_text.specs.ReportOf.{AreLines, Begins, IsFaultyAt, IsReport, IsTextOf, LacksNewline, lines_in}
use Rattle.report_text.specs.ReportText.{body_text, ended, events_line, events_of, last_line, mark, report_text}
use Rattle.report_text.specs.Spelled.{IsSpelled}
use Rattle.report_text.specs.Stops.{IsStoppedAt}
use Rattle.report_text.proofs.Cutting.{comparable, lines-append}
use Rattle.report_text.proofs.Reports.{body-lines, report-apart}

report-lines : (r : Report) → AreLines (report_text r)
report-lines r =
    let last = lines-append (body_text r) (ended last_line) (body-lines r) (inr (last_line, refl)) in
    let events = lines-append (ended (events_line (events_of r))) (body_text r ++ ended last_line) (inr (events_line (events_of r), refl)) last in
    lines-append (ended mark) (ended (events_line (events_of r)) ++ (body_text r ++ ended last_line)) (inr (mark, refl)) events

-- the bytes before those left
pub front-is : (bytes before rest : List ℕ) (left : ℕ) → bytes ≡ before ++ rest → length rest ≡ left → take (length bytes - left) bytes ≡ before
front-is bytes before rest left split size =
    let count : length bytes - left ≡ length before = omega (arith, ap length split, length-append before rest, size) in
    ap (λ n. take n bytes) count ∙ ap (take (length before)) split ∙ take-append_seam before rest

-- where reading stopped
pub faulty-stopped : (bytes : List ℕ) (left : ℕ) → IsStoppedAt IsReport bytes left → IsFaultyAt bytes (lines_in (take (length bytes - left) bytes) + 1)
faulty-stopped bytes left p = record {
  before = p.before;
  rest = p.rest;
  split = p.split;
  lines = p.lines;
  place = ap (λ l. lines_in l + 1) (front-is bytes p.before p.rest left p.split p.size);
  begun = p.begun;
  faulty = p.faulty;
  no_report = λ is. p.none bytes [] is (sym (append-nil bytes));
}

-- bytes after a report
pub faulty-after : (bytes : List ℕ) (r : Report) (rest : List ℕ) → IsFront IsSpelled report_text bytes r rest → 1 ≤ length rest
    → IsFaultyAt bytes (lines_in (take (length bytes - length rest) bytes) + 1)
faulty-after bytes r rest front some = record {
  before = report_text r;
  rest = rest;
  split = front.split;
  lines = report-lines r;
  place = ap (λ l. lines_in l + 1) (front-is bytes (report_text r) rest (length rest) front.split refl);
  begun = record { text = report_text r; is = (r, record { spelled = front.is; text = refl }); after = []; begins = sym (append-nil (report_text r)) };
  faulty = faulty;
  no_report = no_report;
}
  where
    faulty : (line after : List ℕ) → LacksNewline line → rest ≡ ended line ++ after → Begins IsReport (report_text r ++ ended line) → ⊥
    faulty line after lacks is b =
        let x = b.is.0 in
        let texts : report_text x ++ [] ≡ report_text r ++ (ended line ++ b.after) = append-nil (report_text x) ∙ b.is.1.text ∙ b.begins ∙ append_assoc (report_text r) (ended line) b.after in
        let apart = report-apart x r [] (ended line ++ b.after) b.is.1.spelled front.is texts in
        absurd (omega (arith, ap length apart.1, length-append (ended line) b.after, length-append line (newline ∷ [])))

    no_report : IsReport bytes → ⊥
    no_report is =
        let x = is.0 in
        let apart = report-apart x r [] rest is.1.spelled front.is (append-nil (report_text x) ∙ is.1.text ∙ front.split) in
        absurd (omega (arith, some, ap length apart.1))

-- a report and nothing after it
pub whole-text : (bytes : List ℕ) (r : Report) (rest : List ℕ) → IsFront IsSpelled report_text bytes r rest → length rest ≡ 0 → IsTextOf bytes r
whole-text bytes r rest front empty = record { spelled = front.is; text = sym (front.split ∙ ap (λ t. report_text r ++ t) (nil_from_length rest empty) ∙ append-nil (report_text r)) }

-- the end of lines ends a line
last-ended : (front b e : List ℕ) → ended front ≡ b ++ e → 1 ≤ length e → (f : List ℕ) × (e ≡ ended f)
last-ended front [] e is some = (front, sym is)
last-ended [] (x ∷ b) e is some =
    let sizes : length (newline ∷ []) ≡ length ((x ∷ b) ++ e) = ap length is in
    absurd (omega (arith, sizes, length-append b e, some))
last-ended (y ∷ front) (x ∷ b) e is some =
    let rest : ended front ≡ b ++ e = cc in
    last-ended front b e rest some

record FirstLine (bytes : List ℕ) : Type 0 where
  line : List ℕ
  after : List ℕ
  lacks : LacksNewline line
  is : bytes ≡ ended line ++ after

first-line : (f : List ℕ) → FirstLine (ended f)
first-line [] = record { line = []; after = []; lacks = All-nil (λ b. is_byte newline b ≡ false); is = refl }
first-line (b ∷ f) = by (is_byte newline b) refl (first-line f)
  where
    by : (t : Bool) → is_byte newline b ≡ t → FirstLine (ended f) → FirstLine (b ∷ ended f)
    by true test l =
        let here : b ≡ newline = grind (arith, nat_tests) in
        record { line = []; after = ended f; lacks = All-nil (λ c. is_byte newline c ≡ false); is = ap (λ c. c ∷ ended f) here }
    by false test l = record { line = b ∷ l.line; after = l.after; lacks = All-cons (λ c. is_byte newline c ≡ false) b l.line test l.lacks; is = ap (λ t. b ∷ t) l.is }

-- no report begins with more lines than those before a faulty one
none-longer : (bytes : List ℕ) (n : ℕ) (q : IsFaultyAt bytes n) (before rest e : List ℕ) → AreLines before → Begins IsReport before → bytes ≡ before ++ rest → before ≡ q.before ++ e → 1 ≤ length e → ⊥
none-longer bytes n q before rest e (inl empty) begun split longer some = absurd (omega (arith, ap length (sym empty ∙ longer), length-append q.before e, some))
none-longer bytes n q before rest e (inr (front, is)) begun split longer some =
    let last = last-ended front q.before e (sym is ∙ longer) some in
    let l = first-line last.0 in
    let parts : e ≡ ended l.line ++ l.after = last.1 ∙ l.is in
    let left : q.rest ≡ e ++ rest = append_cancel_left q.before q.rest (e ++ rest) (sym q.split ∙ split ∙ ap (λ t. t ++ rest) longer ∙ append_assoc q.before e rest) in
    let next : q.rest ≡ ended l.line ++ (l.after ++ rest) = left ∙ ap (λ t. t ++ rest) parts ∙ append_assoc (ended l.line) l.after rest in
    let begins : begun.text ≡ (q.before ++ ended l.line) ++ (l.after ++ begun.after) =
    begun.begins ∙ ap (λ t. t ++ begun.after) (longer ∙ ap (λ t. q.before ++ t) parts ∙ sym (append_assoc q.before (ended l.line) l.after))
    ∙ append_assoc (q.before ++ ended l.line) l.after begun.after in
    q.faulty l.line (l.after ++ rest) l.lacks next (record { text = begun.text; is = begun.is; after = l.after ++ begun.after; begins = begins })

same-front : (bytes : List ℕ) (m n : ℕ) (p : IsFaultyAt bytes m) (q : IsFaultyAt bytes n) (e : List ℕ) → p.before ≡ q.before ++ e → p.before ≡ q.before
same-front bytes m n p q [] longer = longer ∙ append-nil q.before
same-front bytes m n p q (b ∷ e) longer = absurd (none-longer bytes n q p.before p.rest (b ∷ e) p.lines p.begun p.split longer (omega arith))

one-fault : (bytes : List ℕ) (m n : ℕ) → IsFaultyAt bytes m → IsFaultyAt bytes n → m ≡ n
one-fault bytes m n p q =
    let same : p.before ≡ q.before = elim (comparable p.before p.rest q.before q.rest (sym p.split ∙ q.split)) [
      | inl (e, is) ↦ same-front bytes m n p q e is
      | inr (e, is) ↦ sym (same-front bytes n m q p e is)
    ] in
    p.place ∙ ap (λ l. lines_in l + 1) same ∙ sym q.place

pub tell-apart : TextsTellApart
tell-apart x y is_x is_y same = (report-apart x y [] [] is_x is_y (ap (λ t. t ++ []) same)).0

pub read-back : TextsReadBack
read-back r is = record { spelled = is; text = refl }

pub one-reading : BytesAreUnambiguous
one-reading bytes (Ok x) (Ok y) p q = ap Ok (tell-apart x y p.spelled q.spelled (p.text ∙ sym q.text))
one-reading bytes (Ok x) (Err (fault.Syntax n)) p q = absurd (q.no_report (x, p))
one-reading bytes (Ok x) (Err fault.Memory) p q = absurd q
one-reading bytes (Err (fault.Syntax m)) (Ok y) p q = absurd (p.no_report (y, q))
one-reading bytes (Err (fault.Syntax m)) (Err (fault.Syntax n)) p q = ap (λ k. Err (fault.Syntax k)) (one-fault bytes m n p q)
one-reading bytes (Err (fault.Syntax m)) (Err fault.Memory) p q = absurd q
one-reading bytes (Err fault.Memory) s p q = absurd p

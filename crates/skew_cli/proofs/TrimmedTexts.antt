-- The text of a trimmed report, from the outline of the report.
use Rattle.std.proofs.Common.{◌≡◌, ◌∙◌, sym, ap, subst, refl, inl, inr, ℕ, ◌≤◌, true, false, List, ◌++◌, length, length-append, Option, Some, None, Result, Ok, Err, arith}
use Rattle.std.specs.Prelude.{◌⊎◌, IfOk, OnOk}
use Rattle.proof_log.specs.declared.line.Line.{Line}
use Rattle.proof_log.specs.LinesOf.{IsTextOf}
use Rattle.proof_trim.specs.declared.text_trimming.TrimmedText.{TrimmedText}
use Rattle.proof_trim.specs.Placed.{IsTrimmedText}
use Rattle.report_text.specs.declared.outline.Outline.TheVariants as outline
use Rattle.report_text.specs.declared.outline.SectionOutline.{SectionOutline}
use Rattle.report_text.specs.declared.part.Kind.{Kind}
use Rattle.report_text.specs.declared.part.Kind.TheVariants as kind
use Rattle.report_text.specs.declared.report.Report.{Report}
use Rattle.report_text.specs.declared.report.Report.TheVariants as report
use Rattle.report_text.specs.declared.report.Section.{Section}
use Rattle.report_text.specs.declared.report.Section.TheVariants as section
use Rattle.report_text.specs.Outlines.{AreOutlines, IsOutlineIn, IsSectionOutline, IsWalkOutline}
use Rattle.report_text.specs.ReportText.{ended, entries_text, events_line, last_line, mark, report_text, section_line, section_text}
use Rattle.report_text.specs.Spelled.{IsSpelled, IsSpelledSection}
use Rattle.report_text.proofs.ReadBack.{sections-spelled}
use Rattle.skew_commands.specs.declared.reply.Stop.{Stop}
use Rattle.skew_commands.specs.Stops.{RefusesFor}
use Rattle.skew_cli.specs.TrimOutcome.{CanTrim, CanTrimSection, TellsUntrimmed}
use Rattle.skew_cli.specs.TrimmedText.{AreOutlined, IsSectionLeft, IsTrimText, kind_left, text_left}

-- a section that is a witness or unknown is not refuted
pub unrefuted : (k : Kind) → (k ≡ kind.Witness) ⊎ ((count : ℕ) × (k ≡ kind.Unknown count)) → (n : ℕ) → k ≡ kind.Refuted n → ⊥
unrefuted k (inl witness) n is = let both = sym witness ∙ is in absurd (cc both)
unrefuted k (inr unknown) n is = let both = sym unknown.1 ∙ is in absurd (cc both)

module _ (events : ℕ) (o : SectionOutline) where
  -- ---- a refuted section

  module _ (n : ℕ) (is : o.kind ≡ kind.Refuted n) where
    -- what holds of the lines of the text holds of the section
    pub of-refuted : (P : Section → Type 0) → ((lines : List Line) → IsTextOf o.text.now lines → P (section.Refuted lines)) → (s : Section) → IsSectionOutline o s → IsSpelledSection events s → P s
    of-refuted P each (section.Witness times) out spelled = let both = out.kind ∙ is in absurd (cc both)
    of-refuted P each (section.Refuted lines) out spelled = each lines (record { spelled = spelled.each; text = sym out.text })
    of-refuted P each (section.Unknown lines) out spelled = let both = out.kind ∙ is in absurd (cc both)

    pub refuted-left : (t : TrimmedText) → ((lines : List Line) → IsTextOf o.text.now lines → IsTrimmedText lines t.text.items t.count) → (s : Section)
        → IsSectionOutline o s → IsSpelledSection events s
        → IsSectionLeft events o s (Some t)
    refuted-left t each (section.Witness times) out spelled = let both = out.kind ∙ is in absurd (cc both)
    refuted-left t each (section.Refuted lines) out spelled =
        let left = each lines (record { spelled = spelled.each; text = sym out.text }) in
        let few = spelled.count in
        let fewer = left.fewer in
        record {
          new = section.Refuted left.left;
          trim = (left.left, left.trim, refl);
          spelled = record { count = omega (arith, few, fewer); each = left.text.spelled };
          kind = ap kind.Refuted left.full;
          text = sym left.text.text;
        }
    refuted-left t each (section.Unknown lines) out spelled = let both = out.kind ∙ is in absurd (cc both)

  -- ---- any other section

  module _ (other : (n : ℕ) → o.kind ≡ kind.Refuted n → ⊥) where
    pub other-left : (s : Section) → IsSectionOutline o s → IsSpelledSection events s → IsSectionLeft events o s None
    other-left (section.Witness times) out spelled = record { new = section.Witness times; trim = refl; spelled = spelled; kind = out.kind; text = out.text }
    other-left (section.Refuted lines) out spelled = absurd (other (length lines) (sym out.kind))
    other-left (section.Unknown lines) out spelled = record { new = section.Unknown lines; trim = refl; spelled = spelled; kind = out.kind; text = out.text }

    pub other-can : (s : Section) → IsSectionOutline o s → CanTrimSection s
    other-can (section.Witness times) out = λ n untrimmed. untrimmed
    other-can (section.Refuted lines) out = absurd (other (length lines) (sym out.kind))
    other-can (section.Unknown lines) out = λ n untrimmed. untrimmed

-- ---- both sections

module _ (events : ℕ) (t f new_t new_f : SectionOutline) (left_t left_f : Option TrimmedText) where
  pub sections-left : (a b : Section) → IsSectionLeft events t a left_t → IsSectionLeft events f b left_f → new_t.kind ≡ kind_left t left_t
      → new_t.text.now ≡ text_left t left_t → new_f.kind ≡ kind_left f left_f → new_f.text.now ≡ text_left f left_f
      → (bytes : List ℕ) → ((r : Report) → AreOutlines events new_t new_f r → bytes ≡ report_text r) → IsTrimText (report.Verdicts events a b) bytes
  sections-left a b is_t is_f kind_t text_t kind_f text_f bytes printed =
      let whole = report.Verdicts events is_t.new is_f.new in
      record {
        report = whole;
        trim = record { new_true = is_t.new; new_false = is_f.new; true_trimmed = is_t.trim; false_trimmed = is_f.trim; is = refl };
        text = printed whole (record {
          on_true = is_t.new;
          on_false = is_f.new;
          is = refl;
          outlines_true = record { kind = is_t.kind ∙ sym kind_t; text = is_t.text ∙ sym text_t };
          outlines_false = record { kind = is_f.kind ∙ sym kind_f; text = is_f.text ∙ sym text_f };
        });
      }

-- ---- a whole report

pub walk-left : (events count : ℕ) (text : List ℕ) (r : Report) → IsWalkOutline events count text r → (bytes : List ℕ) → bytes ≡ report_text r → IsTrimText r bytes
walk-left events count text r out bytes written =
    subst (λ x. bytes ≡ report_text x → IsTrimText x bytes) (sym out.is) (λ is. record { report = report.Inconsistent events out.steps; trim = refl; text = is }) written

pub walk-can : (events count : ℕ) (text : List ℕ) (r : Report) → IsWalkOutline events count text r → CanTrim r
walk-can events count text r out = subst CanTrim (sym out.is) (λ p n untrimmed. untrimmed)

-- what holds of the sections of an outline holds of its report
pub of-sections : (P : Report → Type 0) (events : ℕ) (t f : SectionOutline) → ((a b : Section) → AreOutlined events t f a b → P (report.Verdicts events a b))
    → (r : Report) → AreOutlines events t f r → IsSpelled r → P r
of-sections P events t f each r out spelled =
    let both = sections-spelled events r out.on_true out.on_false out.is spelled in
    subst P (sym out.is) (each out.on_true out.on_false (record { outlines_true = out.outlines_true; outlines_false = out.outlines_false; true_spelled = both.0; false_spelled = both.1 }))

-- the sections of an outline of verdicts
module _ (bytes : List ℕ) (events : ℕ) (t f : SectionOutline) (is : IsOutlineIn bytes (outline.Verdicts events t f)) where
  pub some-sections : (a b : Section) × AreOutlined events t f a b
  some-sections =
      let out = is.outlined in
      let both = sections-spelled events is.value out.on_true out.on_false out.is is.is.spelled in
      (out.on_true, out.on_false, record { outlines_true = out.outlines_true; outlines_false = out.outlines_false; true_spelled = both.0; false_spelled = both.1 })

  -- their texts are no longer than the report
  pub short-sections : (length t.text.now ≤ length bytes) × (length f.text.now ≤ length bytes)
  short-sections =
      let out = is.outlined in
      let a = out.on_true in
      let b = out.on_false in
      let text : report_text (report.Verdicts events a b) ≡ bytes = subst (λ x. report_text x ≡ bytes) out.is is.is.text in
      let sections = section_text true a ++ section_text false b in
      let l1 = length-append (ended mark) (ended (events_line events) ++ (sections ++ ended last_line)) in
      let l2 = length-append (ended (events_line events)) (sections ++ ended last_line) in
      let l3 = length-append sections (ended last_line) in
      let l4 = length-append (section_text true a) (section_text false b) in
      let l5 = length-append (ended (section_line true a)) (entries_text a) in
      let l6 = length-append (ended (section_line false b)) (entries_text b) in
      let is_true = ap length out.outlines_true.text in
      let is_false = ap length out.outlines_false.text in
      let whole = ap length text in
      (omega (arith, l1, l2, l3, l4, l5, is_true, whole), omega (arith, l1, l2, l3, l4, l6, is_false, whole))

-- what was answered for the sections was answered for the report
module _ (events : ℕ) (t f : SectionOutline) where
  pub verdicts-trimmed : {X : Type 0} (r : Result X Stop) (items : X → List ℕ) → IfOk r (λ x. (a b : Section) → AreOutlined events t f a b → IsTrimText (report.Verdicts events a b) (items x))
      → IfOk r (λ x. (whole : Report) → AreOutlines events t f whole → IsSpelled whole → IsTrimText whole (items x))
  verdicts-trimmed (Ok x) items each = of-sections (λ whole. IsTrimText whole (items x)) events t f each
  verdicts-trimmed (Err s) items each = tt

  pub verdicts-can : {X : Type 0} (r : Result X Stop) → OnOk r ((a b : Section) → AreOutlined events t f a b → CanTrim (report.Verdicts events a b))
      → OnOk r ((whole : Report) → AreOutlines events t f whole → IsSpelled whole → CanTrim whole)
  verdicts-can (Ok x) each = of-sections CanTrim events t f each
  verdicts-can (Err s) each = tt

-- a refusal at a section is one at the report
pub verdicts-refused : {X : Type 0} (r : Result X Stop) (events : ℕ) (t f : SectionOutline)
    → ((a b : Section) → AreOutlined events t f a b → RefusesFor r (TellsUntrimmed (report.Verdicts events a b)))
    → (whole : Report) → AreOutlines events t f whole → IsSpelled whole → RefusesFor r (TellsUntrimmed whole)
verdicts-refused r events t f each = of-sections (λ whole. RefusesFor r (TellsUntrimmed whole)) events t f each

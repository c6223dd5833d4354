-- Reports read from their outlines.
use Rattle.std.proofs.Common.{◌≡◌, ◌∙◌, sym, ap, ℕ, ◌<◌, ◌^◌, List, length, inl, inr, Ok, Err}
use Rattle.std.specs.Prelude.{◌⊎◌}
use Rattle.mt_model.specs.declared.limits.TheConstants.{MAX_TIME}
use Rattle.mt_model.specs.Log.{IsWithin}
use Rattle.proof_log.specs.declared.line.Line.{Line}
use Rattle.proof_log.specs.declared.fault.LineFault.{LineFault}
use Rattle.proof_log.specs.declared.fault.LineFault.TheVariants as line_fault
use Rattle.proof_log.specs.LinesOf.{IsTextOf as IsTextOfLines, LinesOf}
use Rattle.report_text.specs.declared.outline.Outline.{Outline}
use Rattle.report_text.specs.declared.outline.Outline.TheVariants as outline
use Rattle.report_text.specs.declared.outline.SectionOutline.{SectionOutline}
use Rattle.report_text.specs.declared.part.Kind.TheVariants as kind
use Rattle.report_text.specs.declared.report.Section.{Section}
use Rattle.report_text.specs.declared.report.Section.TheVariants as section
use Rattle.report_text.specs.declared.report.Report.{Report}
use Rattle.report_text.specs.declared.report.Report.TheVariants as report
use Rattle.report_text.specs.Outlines.{IsSectionOutline}
use Rattle.report_text.specs.ReportText.{time_text}
use Rattle.report_text.specs.Spelled.{IsSpelled, IsSpelledSection}
use Rattle.report_text.specs.Stops.{AreItems}
use Rattle.proof_log.proofs.ReadingLines.{one-reading}
use Rattle.proof_log.proofs.Texts.{tell-apart}
use Rattle.report_text.proofs.Sections.{refuted-back, unknown-back, witness-back}

-- the lines that were read of a text
pub lines-found : (text : List ℕ) (found : List Line) → IsTextOfLines text found → (lines : List Line) → IsTextOfLines text lines → found ≡ lines
lines-found text found is lines of = tell-apart found lines is.spelled of.spelled (sym is.text ∙ of.text)

-- and reading them finds no fault
pub lines-go_on : (text : List ℕ) (lines : List Line) → IsTextOfLines text lines → (n : ℕ)
    → (let f : LineFault = line_fault.Syntax n in f ≡ line_fault.Memory) ⊎ LinesOf text (Err (line_fault.Syntax n)) → ⊥
lines-go_on text lines of n (inl memory) = absurd (cc (memory))
lines-go_on text lines of n (inr faulty) = let both = one-reading text (Ok lines) (Err (line_fault.Syntax n)) of faulty in absurd (cc (both))

module _ (events : ℕ) (o : SectionOutline) where
  -- what the text of a section's outline is
  pub outlined-times : (s : Section) → IsSectionOutline o s → IsSpelledSection events s → o.kind ≡ kind.Witness → AreItems (IsWithin MAX_TIME) time_text events o.text.now
  outlined-times s out spelled is = witness-back events o.text.now (record { section = s; is = record { spelled = spelled; kind = out.kind ∙ is }; text = out.text })

  pub outlined-refuted : (s : Section) → IsSectionOutline o s → IsSpelledSection events s → (n : ℕ) → o.kind ≡ kind.Refuted n → (lines : List Line) × IsTextOfLines o.text.now lines
  outlined-refuted s out spelled n is =
      let items = refuted-back events n o.text.now (record { section = s; is = record { spelled = spelled; kind = out.kind ∙ is }; text = out.text }) in
      (items.items, record { spelled = items.each; text = sym items.are })

  pub outlined-unknown : (s : Section) → IsSectionOutline o s → IsSpelledSection events s → (n : ℕ) → o.kind ≡ kind.Unknown n → (lines : List Line) × IsTextOfLines o.text.now lines
  outlined-unknown s out spelled n is =
      let items = unknown-back events n o.text.now (record { section = s; is = record { spelled = spelled; kind = out.kind ∙ is }; text = out.text }) in
      (items.items, record { spelled = items.each; text = sym items.are })

  pub found-refuted : (n : ℕ) → o.kind ≡ kind.Refuted n → (found : List Line) → ((lines : List Line) → IsTextOfLines o.text.now lines → found ≡ lines)
      → (s : Section) → IsSectionOutline o s → IsSpelledSection events s → section.Refuted found ≡ s
  found-refuted n is found same (section.Witness times) out spelled = let both = out.kind ∙ is in absurd (cc both)
  found-refuted n is found same (section.Refuted lines) out spelled = ap section.Refuted (same lines (record { spelled = spelled.each; text = sym out.text }))
  found-refuted n is found same (section.Unknown lines) out spelled = let both = out.kind ∙ is in absurd (cc both)

  pub found-unknown : (n : ℕ) → o.kind ≡ kind.Unknown n → (found : List Line) → ((lines : List Line) → IsTextOfLines o.text.now lines → found ≡ lines)
      → (s : Section) → IsSectionOutline o s → IsSpelledSection events s → section.Unknown found ≡ s
  found-unknown n is found same (section.Witness times) out spelled = let both = out.kind ∙ is in absurd (cc both)
  found-unknown n is found same (section.Refuted lines) out spelled = let both = out.kind ∙ is in absurd (cc both)
  found-unknown n is found same (section.Unknown lines) out spelled = ap section.Unknown (same lines (record { spelled = spelled.each; text = sym out.text }))

-- the sections of an outline that is short
module _ (bytes : List ℕ) (few : length bytes < 2 ^ 31) (events : ℕ) (on_true on_false : SectionOutline) where
  abbrev whole : Outline
  whole = outline.Verdicts events on_true on_false

pub sections-spelled : (events : ℕ) (r : Report) (a b : Section) → r ≡ report.Verdicts events a b → IsSpelled r → IsSpelledSection events a × IsSpelledSection events b
sections-spelled events r a b is spelled = let s = rw is at spelled in (s.true_spelled, s.false_spelled)

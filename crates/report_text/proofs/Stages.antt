-- What each part of the reader answers, from what its parts answered.
use Rattle.std.proofs.Common.{◌≡◌, ◌∙◌, sym, ap, subst, refl, ℕ, true, false, List, [], ◌++◌, append_assoc, length, Result, Ok, Err, codes, Bor}
use Rattle.std.specs.Prelude.{MatchResult}
use Rattle.std.specs.Fmt.{decimal}
use Rattle.std.specs.List.{flat_map}
use Rattle.mt_model.specs.declared.step.Step.{Step}
use Rattle.proof_log.specs.Spelled.{IsNumber}
use Rattle.report_text.specs.declared.part.Kind.{Kind}
use Rattle.report_text.specs.declared.part.Opening.{Opening}
use Rattle.report_text.specs.declared.part.Opening.TheVariants as opening
use Rattle.report_text.specs.declared.report.Section.{Section}
use Rattle.report_text.specs.declared.report.Report.{Report}
use Rattle.report_text.specs.declared.report.Report.TheVariants as report
use Rattle.report_text.specs.declared.stop.Stop.{Stop}
use Rattle.report_text.specs.declared.stop.Stop.TheVariants as stop
use Rattle.report_text.specs.declared.outline.Outline.{Outline}
use Rattle.report_text.specs.declared.outline.SectionOutline.{SectionOutline}
use Rattle.report_text.specs.Outlines.{AreVerdictsOutlined, IsOutlineOf, IsOutlinedFront, IsSectionOutline}
use Rattle.report_text.specs.Parts.{IsFront, IsKind, IsOpening, NoFront, events_text, kind_text, opening_line, opening_text}
use Rattle.report_text.specs.ReportOf.{IsReport}
use Rattle.report_text.specs.ReportText.{body_text, bound_text, ended, entries_text, events_line, kind_line, last_line, mark, marked_text, report_text, section_text}
use Rattle.report_text.specs.Spelled.{IsSpelled, IsSpelledBound, IsSpelledSection}
use Rattle.report_text.specs.Stops.{AreEntries, AreRead, AreVerdicts, AreVerdictsRead, IsBody, IsMarked, IsOfKind, IsOn, IsSectionText, Stopped}
use Rattle.report_text.proofs.Lined.{stopped-first, stopped-later}
use Rattle.report_text.proofs.Reports.{AfterEvents, Always, IsLast, body-first, body-on, events-lined, last-lined, mark-lined}
use Rattle.report_text.proofs.Sections.{AfterOpening, body-lined, entries-first, entries-on, section-front, section-lined, text-is}
use Rattle.report_text.proofs.Stopping.{stopped-after, stopped-before}

module _ (events : ℕ) where
  -- the false section
  pub section-none : (bytes : List ℕ) → NoFront IsKind (kind_text false) bytes → Stopped (IsSectionText false events) bytes (stop.Syntax (length bytes))
  section-none bytes lacking = stopped-first IsKind (kind_line false) (AreEntries events) (IsSectionText false events) (section-lined events false) bytes lacking

  pub section-stopped : (bytes rest : List ℕ) (k : Kind) (f : Stop) → IsFront IsKind (kind_text false) bytes k rest → Stopped (AreEntries events k) rest f
      → Stopped (IsSectionText false events) bytes f
  section-stopped bytes rest k f front p = stopped-later IsKind (kind_line false) (AreEntries events) (IsSectionText false events) (section-lined events false) bytes rest k f front p

  pub section-outlined : (bytes rest : List ℕ) (k : Kind) (r : Result (SectionOutline × Bor (List ℕ)) Stop) → IsFront IsKind (kind_text false) bytes k rest
      → MatchResult r (λ s. IsOutlinedFront IsSectionOutline (IsOfKind events k) entries_text rest s.0 s.1.now) (Stopped (AreEntries events k) rest)
      → MatchResult r (λ s. IsOutlinedFront IsSectionOutline (IsSpelledSection events) (section_text false) bytes s.0 s.1.now) (Stopped (IsSectionText false events) bytes)
  section-outlined bytes rest k (Ok s) front read = record { value = read.value; outlined = read.outlined; front = section-front events false k bytes rest s.1.now read.value front read.front }
  section-outlined bytes rest k (Err f) front read = section-stopped bytes rest k f front read

  -- the verdicts
  pub true-stopped : (k : Kind) (bytes : List ℕ) (f : Stop) → Stopped (AreEntries events k) bytes f → Stopped (AreVerdicts events k) bytes f
  true-stopped k bytes f p = stopped-before (AreEntries events k) (AreVerdicts events k) (entries-first events k) bytes f p

  pub false-stopped : (k : Kind) (a : Section) (bytes rest : List ℕ) (f : Stop) → IsFront (IsOfKind events k) entries_text bytes a rest
      → Stopped (IsSectionText false events) rest f → Stopped (AreVerdicts events k) bytes f
  false-stopped k a bytes rest f front p = stopped-after (entries_text a) (IsSectionText false events) (AreVerdicts events k) (entries-on events k a front.is) bytes rest f front.split p

  pub verdicts-read : (k : Kind) (a b : Section) (r : Report) (bytes rest after : List ℕ) → r ≡ report.Verdicts events a b
      → IsFront (IsOfKind events k) entries_text bytes a rest → IsFront (IsSpelledSection events) (section_text false) rest b after
      → AreVerdictsRead events k bytes r after
  verdicts-read k a b r bytes rest after is first second = record {
    on_true = a;
    on_false = b;
    made = is;
    is = first.is;
    spelled = second.is;
    split = first.split ∙ ap (λ t. entries_text a ++ t) second.split ∙ sym (append_assoc (entries_text a) (section_text false b) after);
  }

  -- the body
  module _ (number : IsNumber events) where
    pub body-none : (bytes : List ℕ) → NoFront IsOpening opening_text bytes → Stopped (IsBody events) bytes (stop.Syntax (length bytes))
    body-none bytes lacking = stopped-first IsOpening opening_line (AfterOpening events) (IsBody events) (body-lined events number) bytes lacking

    pub body-stopped : (bytes rest : List ℕ) (o : Opening) (f : Stop) → IsFront IsOpening opening_text bytes o rest → Stopped (AfterOpening events o) rest f → Stopped (IsBody events) bytes f
    body-stopped bytes rest o f front p = stopped-later IsOpening opening_line (AfterOpening events) (IsBody events) (body-lined events number) bytes rest o f front p

    pub walk-read : (n : ℕ) (steps : List Step) (bytes rest after : List ℕ) → IsFront IsOpening opening_text bytes (opening.Inconsistent n) rest → AreRead IsSpelledBound bound_text n rest steps after
        → IsFront (IsOn events) body_text bytes (report.Inconsistent events steps) after
    walk-read n steps bytes rest after front read =
        let line : List ℕ = ended (codes "inconsistent " ++ decimal n) in
        record {
          is = record { spelled = record { few = number; walk = record { count = subst IsNumber (sym read.full) front.is; each = read.each } }; count = refl };
          split = front.split ∙ ap (λ t. line ++ t) read.split ∙ sym (append_assoc line (flat_map bound_text steps) after)
              ∙ ap (λ k. (ended (codes "inconsistent " ++ decimal k) ++ flat_map bound_text steps) ++ after) (sym read.full);
        }

    pub verdicts-body : (k : Kind) (r : Report) (bytes rest after : List ℕ) → IsFront IsOpening opening_text bytes (opening.OnTrue k) rest
        → AreVerdictsRead events k rest r after → IsFront (IsOn events) body_text bytes r after
    verdicts-body k r bytes rest after front read =
        let a = read.on_true in
        let b = read.on_false in
        let line : List ℕ = ended (kind_line true k) in
        let of : IsFront (IsOn events) body_text bytes (report.Verdicts events a b) after = record {
          is = record { spelled = record { few = number; true_spelled = read.is.spelled; false_spelled = read.spelled }; count = refl };
          split = front.split ∙ ap (λ t. line ++ t) read.split ∙ sym (append_assoc line (entries_text a ++ section_text false b) after)
              ∙ ap (λ t. t ++ after) (sym (append_assoc line (entries_text a) (section_text false b)))
              ∙ ap (λ t. (t ++ section_text false b) ++ after) (sym (text-is events true k a read.is.kind));
        } in
        subst (λ x. IsFront (IsOn events) body_text bytes x after) (sym read.made) of

    pub sections-outlined : (k : Kind) (bytes rest : List ℕ) (r : Result (Outline × Bor (List ℕ)) Stop) → IsFront IsOpening opening_text bytes (opening.OnTrue k) rest
        → MatchResult r (λ x. AreVerdictsOutlined events k rest x.0 x.1.now) (Stopped (AreVerdicts events k) rest)
        → MatchResult r (λ x. IsOutlinedFront IsOutlineOf (IsOn events) body_text bytes x.0 x.1.now) (Stopped (IsBody events) bytes)
    sections-outlined k bytes rest (Ok x) front read = record { value = read.value; outlined = read.outlined; front = verdicts-body k read.value bytes rest x.1.now front read.read }
    sections-outlined k bytes rest (Err f) front read = body-stopped bytes rest (opening.OnTrue k) f front read

-- what follows the first line
pub events-none : (bytes : List ℕ) → NoFront IsNumber events_text bytes → Stopped IsMarked bytes (stop.Syntax (length bytes))
events-none bytes lacking = stopped-first IsNumber events_line AfterEvents IsMarked events-lined bytes lacking

pub events-stopped : (bytes rest : List ℕ) (events : ℕ) (f : Stop) → IsFront IsNumber events_text bytes events rest → Stopped (IsBody events) rest f → Stopped IsMarked bytes f
events-stopped bytes rest events f front p =
    stopped-later IsNumber events_line AfterEvents IsMarked events-lined bytes rest events f front (stopped-before (IsBody events) (AfterEvents events) (body-first events) rest f p)

pub last-none : (bytes rest after : List ℕ) (events : ℕ) (r : Report) → IsFront IsNumber events_text bytes events rest → IsFront (IsOn events) body_text rest r after
    → ((t : List ℕ) → after ≡ ended last_line ++ t → ⊥) → Stopped IsMarked bytes (stop.Syntax (length after))
last-none bytes rest after events r front body lacking =
    let none = stopped-first Always (λ u. last_line) (λ u t. t ≡ []) IsLast last-lined after (λ u t is begins. lacking t begins) in
    let ends = stopped-after (body_text r) IsLast (AfterEvents events) (body-on events r body.is) rest after (stop.Syntax (length after)) body.split none in
    stopped-later IsNumber events_line AfterEvents IsMarked events-lined bytes rest events (stop.Syntax (length after)) front ends

pub marked-read : (bytes rest after end : List ℕ) (events : ℕ) (r : Report) → IsFront IsNumber events_text bytes events rest
    → IsFront (IsOn events) body_text rest r after → after ≡ ended last_line ++ end
    → IsFront IsSpelled marked_text bytes r end
marked-read bytes rest after end events r front body last =
    let line : List ℕ = ended (events_line events) in
    record {
      is = body.is.spelled;
      split = front.split ∙ ap (λ t. line ++ t) (body.split ∙ ap (λ t. body_text r ++ t) last ∙ sym (append_assoc (body_text r) (ended last_line) end))
          ∙ sym (append_assoc line (body_text r ++ ended last_line) end)
          ∙ ap (λ k. (ended (events_line k) ++ (body_text r ++ ended last_line)) ++ end) (sym body.is.count);
    }

-- the whole report
pub mark-none : (bytes : List ℕ) → ((t : List ℕ) → bytes ≡ ended mark ++ t → ⊥) → Stopped IsReport bytes (stop.Syntax (length bytes))
mark-none bytes lacking = stopped-first Always (λ u. mark) (λ u. IsMarked) IsReport mark-lined bytes (λ u t is begins. lacking t begins)

pub mark-stopped : (bytes rest : List ℕ) (f : Stop) → bytes ≡ ended mark ++ rest → Stopped IsMarked rest f → Stopped IsReport bytes f
mark-stopped bytes rest f is p = stopped-later Always (λ u. mark) (λ u. IsMarked) IsReport mark-lined bytes rest tt f (record { is = tt; split = is }) p

pub report-read : (bytes rest after : List ℕ) (r : Report) → bytes ≡ ended mark ++ rest → IsFront IsSpelled marked_text rest r after → IsFront IsSpelled report_text bytes r after
report-read bytes rest after r is front = record { is = front.is; split = is ∙ ap (λ t. ended mark ++ t) front.split ∙ sym (append_assoc (ended mark) (marked_text r) after) }

pub whole-outlined : (bytes rest : List ℕ) (r : Result (Outline × Bor (List ℕ)) Stop) → bytes ≡ ended mark ++ rest
    → MatchResult r (λ x. IsOutlinedFront IsOutlineOf IsSpelled marked_text rest x.0 x.1.now) (Stopped IsMarked rest)
    → MatchResult r (λ x. IsOutlinedFront IsOutlineOf IsSpelled report_text bytes x.0 x.1.now) (Stopped IsReport bytes)
whole-outlined bytes rest (Ok x) is read = record { value = read.value; outlined = read.outlined; front = report-read bytes rest x.1.now read.value is read.front }
whole-outlined bytes rest (Err f) is read = mark-stopped bytes rest f is read

-- Sections and bodies of reports, and where reading them stops.
use Rattle.std.proofs.Common.{◌≡◌, ◌∙◌, sym, ap, subst, refl, arith, ℕ, Bool, true, false, List, [], ◌++◌, append_assoc, length, codes, ℤ, pos, Result, Ok, Err, Bor}
use Rattle.std.specs.Prelude.{MatchResult}
use Rattle.std.specs.Fmt.{decimal, signed_decimal}
use Rattle.std.specs.List.{flat_map}
use Rattle.std.proofs.lemmas.Int.{ints}
use Rattle.std.proofs.lemmas.List.Elements.{All-nil}
use Rattle.mt_model.specs.declared.limits.TheConstants.{MAX_TIME}
use Rattle.mt_model.specs.declared.step.Step.TheVariants as step
use Rattle.mt_model.specs.Log.{IsWithin}
use Rattle.proof_log.specs.declared.line.Line.{Line}
use Rattle.proof_log.specs.declared.line.Line.TheVariants as line
use Rattle.proof_log.specs.LinesText.{line_text}
use Rattle.proof_log.specs.Spelled.{IsNumber, IsSpelledStep, IsSpelled as IsSpelledLine}
use Rattle.report_text.specs.declared.part.Kind.{Kind}
use Rattle.report_text.specs.declared.part.Kind.TheVariants as kind
use Rattle.report_text.specs.declared.part.Opening.{Opening}
use Rattle.report_text.specs.declared.part.Opening.TheVariants as opening
use Rattle.report_text.specs.declared.report.Section.{Section}
use Rattle.report_text.specs.declared.report.Section.TheVariants as section
use Rattle.report_text.specs.declared.report.Report.{Report}
use Rattle.report_text.specs.declared.report.Report.TheVariants as report
use Rattle.report_text.specs.declared.stop.Stop.{Stop}
use Rattle.report_text.specs.Outlines.{ArePassed}
use Rattle.report_text.specs.Parts.{IsFront, IsKind, IsOpening, opening_line}
use Rattle.report_text.specs.ReportOf.{AreLines}
use Rattle.report_text.specs.ReportText.{body_text, bound_text, ended, entries_text, kind_line, kind_of, section_text, time_text, walk_text}
use Rattle.report_text.specs.Spelled.{IsSpelledBound, IsSpelledSection}
use Rattle.report_text.specs.Stops.{AreEntries, AreItems, AreRead, AreVerdicts, IsBody, IsOfKind, IsOn, IsSectionText, Stopped}
use Rattle.report_text.proofs.ItemLists.{items-apart, items-lines}
use Rattle.report_text.proofs.LineTexts.{joined, kinds-spelled, lines-spelled, openings-spelled, times-spelled}
use Rattle.report_text.proofs.Lined.{AreLined, same-front}
use Rattle.report_text.proofs.Stopping.{GoesOn, IsFrontOf, stopped-as}

-- plain items

pub zero-time : IsWithin MAX_TIME (pos 0)
zero-time = record { low = omega (arith, ints); high = omega (arith, ints) }

pub no-steps : IsSpelledLine (line.Cycle [])
no-steps = record { count = omega arith; each = All-nil IsSpelledStep }

pub first-row : IsSpelledBound (step.Low 0)
first-row = omega arith

-- the lines of a section after its first

module _ (events : ℕ) where
  pub witness-forth : (t : List ℕ) → AreItems (IsWithin MAX_TIME) time_text events t → AreEntries events kind.Witness t
  witness-forth t a = record { section = section.Witness a.items; is = record { spelled = record { full = a.full; each = a.each }; kind = refl }; text = a.are }

  pub witness-back : (t : List ℕ) → AreEntries events kind.Witness t → AreItems (IsWithin MAX_TIME) time_text events t
  witness-back t e = by e.section e.is e.text
    where
      by : (s : Section) → IsOfKind events kind.Witness s → entries_text s ≡ t → AreItems (IsWithin MAX_TIME) time_text events t
      by (section.Witness times) is text = record { items = times; full = is.spelled.full; each = is.spelled.each; are = text }
      by (section.Refuted lines) is text = let k = is.kind in absurd (cc k)
      by (section.Unknown lines) is text = let k = is.kind in absurd (cc k)

  module _ (n : ℕ) (few : IsNumber n) where
    pub refuted-forth : (t : List ℕ) → AreItems IsSpelledLine line_text n t → AreEntries events (kind.Refuted n) t
    refuted-forth t
        a = record { section = section.Refuted a.items; is = record { spelled = record { count = subst IsNumber (sym a.full) few; each = a.each }; kind = ap kind.Refuted a.full }; text = a.are }

    pub unknown-forth : (t : List ℕ) → AreItems IsSpelledLine line_text n t → AreEntries events (kind.Unknown n) t
    unknown-forth t
        a = record { section = section.Unknown a.items; is = record { spelled = record { count = subst IsNumber (sym a.full) few; each = a.each }; kind = ap kind.Unknown a.full }; text = a.are }

  refuted-same : (m n : ℕ) → kind.Refuted m ≡ kind.Refuted n → m ≡ n
  refuted-same m n same = cc

  unknown-same : (m n : ℕ) → kind.Unknown m ≡ kind.Unknown n → m ≡ n
  unknown-same m n same = cc

  pub refuted-back : (n : ℕ) (t : List ℕ) → AreEntries events (kind.Refuted n) t → AreItems IsSpelledLine line_text n t
  refuted-back n t e = by e.section e.is e.text
    where
      by : (s : Section) → IsOfKind events (kind.Refuted n) s → entries_text s ≡ t → AreItems IsSpelledLine line_text n t
      by (section.Witness times) is text = let k = is.kind in absurd (cc k)
      by (section.Refuted lines) is text = record { items = lines; full = refuted-same (length lines) n is.kind; each = is.spelled.each; are = text }
      by (section.Unknown lines) is text = let k = is.kind in absurd (cc k)

  pub unknown-back : (n : ℕ) (t : List ℕ) → AreEntries events (kind.Unknown n) t → AreItems IsSpelledLine line_text n t
  unknown-back n t e = by e.section e.is e.text
    where
      by : (s : Section) → IsOfKind events (kind.Unknown n) s → entries_text s ≡ t → AreItems IsSpelledLine line_text n t
      by (section.Witness times) is text = let k = is.kind in absurd (cc k)
      by (section.Refuted lines) is text = let k = is.kind in absurd (cc k)
      by (section.Unknown lines) is text = record { items = lines; full = unknown-same (length lines) n is.kind; each = is.spelled.each; are = text }

  -- what was read as a section
  pub witness-front : (bytes : List ℕ) (times : List ℤ) (rest : List ℕ) → AreRead (IsWithin MAX_TIME) time_text events bytes times rest
      → IsFront (IsOfKind events kind.Witness) entries_text bytes (section.Witness times) rest
  witness-front bytes times rest r = record { is = record { spelled = record { full = r.full; each = r.each }; kind = refl }; split = r.split }

  pub refuted-front : (n : ℕ) → IsNumber n → (bytes : List ℕ) (lines : List Line) (rest : List ℕ) → AreRead IsSpelledLine line_text n bytes lines rest
      → IsFront (IsOfKind events (kind.Refuted n)) entries_text bytes (section.Refuted lines) rest
  refuted-front n few bytes lines rest r = record { is = record { spelled = record { count = subst IsNumber (sym r.full) few; each = r.each }; kind = ap kind.Refuted r.full }; split = r.split }

  pub unknown-front : (n : ℕ) → IsNumber n → (bytes : List ℕ) (lines : List Line) (rest : List ℕ) → AreRead IsSpelledLine line_text n bytes lines rest
      → IsFront (IsOfKind events (kind.Unknown n)) entries_text bytes (section.Unknown lines) rest
  unknown-front n few bytes lines rest r = record { is = record { spelled = record { count = subst IsNumber (sym r.full) few; each = r.each }; kind = ap kind.Unknown r.full }; split = r.split }

  -- what follows the lines of a section
  abbrev Followed : Kind → List ℕ → Result (Bor (List ℕ)) Stop → Type 0
  Followed k bytes r = MatchResult r (λ rest. (s : Section) × IsFront (IsOfKind events k) entries_text bytes s rest.now) (Stopped (AreEntries events k) bytes)

  pub after-witness : (k : Kind) → k ≡ kind.Witness → (bytes : List ℕ) (r : Result (Bor (List ℕ)) Stop)
      → MatchResult r (λ rest. ArePassed (IsWithin MAX_TIME) time_text events bytes rest.now) (Stopped (AreItems (IsWithin MAX_TIME) time_text events) bytes) → Followed k bytes r
  after-witness k is bytes (Ok rest) p = rw is (section.Witness p.items, witness-front bytes p.items rest.now p.read)
  after-witness k is bytes (Err f) p = rw is (stopped-as (AreItems (IsWithin MAX_TIME) time_text events) (AreEntries events kind.Witness) witness-forth witness-back bytes f p)

  module _ (n : ℕ) (few : IsNumber n) where
    pub after-refuted : (k : Kind) → k ≡ kind.Refuted n → (bytes : List ℕ) (r : Result (Bor (List ℕ)) Stop)
        → MatchResult r (λ rest. ArePassed IsSpelledLine line_text n bytes rest.now) (Stopped (AreItems IsSpelledLine line_text n) bytes) → Followed k bytes r
    after-refuted k is bytes (Ok rest) p = rw is (section.Refuted p.items, refuted-front n few bytes p.items rest.now p.read)
    after-refuted k is bytes (Err f) p = rw is (stopped-as (AreItems IsSpelledLine line_text n) (AreEntries events (kind.Refuted n)) (refuted-forth n few) (refuted-back n) bytes f p)

    pub after-unknown : (k : Kind) → k ≡ kind.Unknown n → (bytes : List ℕ) (r : Result (Bor (List ℕ)) Stop)
        → MatchResult r (λ rest. ArePassed IsSpelledLine line_text n bytes rest.now) (Stopped (AreItems IsSpelledLine line_text n) bytes) → Followed k bytes r
    after-unknown k is bytes (Ok rest) p = rw is (section.Unknown p.items, unknown-front n few bytes p.items rest.now p.read)
    after-unknown k is bytes (Err f) p = rw is (stopped-as (AreItems IsSpelledLine line_text n) (AreEntries events (kind.Unknown n)) (unknown-forth n few) (unknown-back n) bytes f p)

  -- sections of one kind are equal where their lines begin the same bytes
  pub entries-apart : (k : Kind) (a b : Section) (s t : List ℕ) → IsOfKind events k a → IsOfKind events k b → entries_text a ++ s ≡ entries_text b ++ t → (a ≡ b) × (s ≡ t)
  entries-apart k a b s t is_a is_b same = by a b is_a.spelled is_b.spelled (is_a.kind ∙ sym is_b.kind) same
    where
      by : (a b : Section) → IsSpelledSection events a → IsSpelledSection events b → kind_of a ≡ kind_of b → entries_text a ++ s ≡ entries_text b ++ t → (a ≡ b) × (s ≡ t)
      by (section.Witness x) (section.Witness y) p q k same =
          let r = items-apart (IsWithin MAX_TIME) signed_decimal times-spelled x y s t (p.full ∙ sym q.full) p.each q.each same in
          (ap section.Witness r.0, r.1)
      by (section.Witness x) (section.Refuted y) p q k same = absurd (cc k)
      by (section.Witness x) (section.Unknown y) p q k same = absurd (cc k)
      by (section.Refuted x) (section.Witness y) p q k same = absurd (cc k)
      by (section.Refuted x) (section.Refuted y) p q k same =
          let r = items-apart IsSpelledLine joined lines-spelled x y s t (refuted-same (length x) (length y) k) p.each q.each same in
          (ap section.Refuted r.0, r.1)
      by (section.Refuted x) (section.Unknown y) p q k same = absurd (cc k)
      by (section.Unknown x) (section.Witness y) p q k same = absurd (cc k)
      by (section.Unknown x) (section.Refuted y) p q k same = absurd (cc k)
      by (section.Unknown x) (section.Unknown y) p q k same =
          let r = items-apart IsSpelledLine joined lines-spelled x y s t (unknown-same (length x) (length y) k) p.each q.each same in
          (ap section.Unknown r.0, r.1)

  -- the first line of a section, and the others
  pub text-is : (v : Bool) (k : Kind) (s : Section) → kind_of s ≡ k → section_text v s ≡ ended (kind_line v k) ++ entries_text s
  text-is v k s is = ap (λ m. ended (kind_line v m) ++ entries_text s) is

  pub kind-in_range : (s : Section) → IsSpelledSection events s → IsKind (kind_of s)
  kind-in_range (section.Witness times) is = tt
  kind-in_range (section.Refuted lines) is = is.count
  kind-in_range (section.Unknown lines) is = is.count

  pub no-lines : IsSpelledSection events (section.Refuted [])
  no-lines = record { count = omega arith; each = All-nil IsSpelledLine }

  pub section-lined : (v : Bool) → AreLined IsKind (kind_line v) (AreEntries events) (IsSectionText v events)
  section-lined v = record {
    spellings = kinds-spelled v;
    forth = λ k t is e. record { section = e.section; spelled = e.is.spelled; text = text-is v k e.section e.is.kind ∙ ap (λ u. ended (kind_line v k) ++ u) e.text };
    back = λ m s. (
      kind_of s.section,
      entries_text s.section,
      kind-in_range s.section s.spelled,
      record { section = s.section; is = record { spelled = s.spelled; kind = refl }; text = refl },
      sym s.text ∙ text-is v (kind_of s.section) s.section refl,
    );
    some = (section_text v (section.Refuted []), record { section = section.Refuted []; spelled = no-lines; text = refl });
  }

  pub section-front : (v : Bool) (k : Kind) (bytes rest after : List ℕ) (s : Section) → IsFront IsKind (λ k. ended (kind_line v k)) bytes k rest
      → IsFront (IsOfKind events k) entries_text rest s after → IsFront (IsSpelledSection events) (section_text v) bytes s after
  section-front v k bytes rest after s first later = record {
    is = later.is.spelled;
    split =
        first.split ∙ ap (λ t. ended (kind_line v k) ++ t) later.split ∙ sym (append_assoc (ended (kind_line v k)) (entries_text s) after) ∙ ap (λ t. t ++ after) (sym (text-is v k s later.is.kind));
  }

  pub section-apart : (v : Bool) (a b : Section) (s t : List ℕ) → IsSpelledSection events a → IsSpelledSection events b → section_text v a ++ s ≡ section_text v b ++ t → (a ≡ b) × (s ≡ t)
  section-apart v a b s t is_a is_b same =
      let la = text-is v (kind_of a) a refl in
      let lb = text-is v (kind_of b) b refl in
      let texts : ended (kind_line v (kind_of a)) ++ (entries_text a ++ s) ≡ ended (kind_line v (kind_of b)) ++ (entries_text b ++ t) =
      sym (append_assoc (ended (kind_line v (kind_of a))) (entries_text a) s) ∙ ap (λ u. u ++ s) (sym la) ∙ same ∙ ap (λ u. u ++ t) lb
      ∙ append_assoc (ended (kind_line v (kind_of b))) (entries_text b) t in
      let first = same-front IsKind (kind_line v) (kinds-spelled v) (kind_of a) (kind_of b) (entries_text a ++ s) (entries_text b ++ t) (kind-in_range a is_a) (kind-in_range b is_b) texts in
      entries-apart (kind_of b) a b s t (record { spelled = is_a; kind = first.0 }) (record { spelled = is_b; kind = refl }) first.1

  -- two sections

  pub entries-lines : (s : Section) → AreLines (entries_text s)
  entries-lines (section.Witness times) = items-lines (IsWithin MAX_TIME) signed_decimal times-spelled times
  entries-lines (section.Refuted lines) = items-lines IsSpelledLine joined lines-spelled lines
  entries-lines (section.Unknown lines) = items-lines IsSpelledLine joined lines-spelled lines

  pub entries-first : (k : Kind) → IsFrontOf (AreEntries events k) (AreVerdicts events k)
  entries-first k = record {
    more = λ t e. record {
      text = entries_text e.section ++ section_text false (section.Refuted []);
      is = record { on_true = e.section; on_false = section.Refuted []; is = e.is; spelled = no-lines; text = refl };
      after = section_text false (section.Refuted []);
      begins = ap (λ u. u ++ section_text false (section.Refuted [])) e.text;
    };
    first = λ t v. (entries_text v.on_true, section_text false v.on_false, record { section = v.on_true; is = v.is; text = refl }, sym v.text);
  }

  pub entries-on : (k : Kind) (a : Section) → IsOfKind events k a → GoesOn (entries_text a) (IsSectionText false events) (AreVerdicts events k)
  entries-on k a is = record {
    lines = entries-lines a;
    forth = λ t s. record { on_true = a; on_false = s.section; is = is; spelled = s.spelled; text = ap (λ u. entries_text a ++ u) s.text };
    back = λ m s u v same.
        let texts : entries_text v.on_true ++ (section_text false v.on_false ++ s) ≡ entries_text a ++ u =
        sym (append_assoc (entries_text v.on_true) (section_text false v.on_false) s) ∙ ap (λ t. t ++ s) v.text ∙ same in
        let r = entries-apart k v.on_true a (section_text false v.on_false ++ s) u v.is is texts in
        (section_text false v.on_false, record { section = v.on_false; spelled = v.spelled; text = refl }, sym v.text ∙ ap (λ x. entries_text x ++ section_text false v.on_false) r.0);
  }

  -- what stands between the number of events and the last line

  abbrev pub AfterOpening : Opening → List ℕ → Type 0
  AfterOpening (opening.Inconsistent n) = AreItems IsSpelledBound bound_text n
  AfterOpening (opening.OnTrue k) = AreVerdicts events k

  abbrev pub opening_of : Report → Opening
  opening_of (report.Inconsistent n steps) = opening.Inconsistent (length steps)
  opening_of (report.Verdicts n on_true on_false) = opening.OnTrue (kind_of on_true)

  pub body-lined : IsNumber events → AreLined IsOpening opening_line AfterOpening (IsBody events)
  body-lined number = record { spellings = openings-spelled; forth = forth; back = λ m b. back m b.report b.is b.text; some = some }
    where
      forth : (o : Opening) (t : List ℕ) → IsOpening o → AfterOpening o t → IsBody events (ended (opening_line o) ++ t)
      forth (opening.Inconsistent n) t is a = record {
        report = report.Inconsistent events a.items;
        is = record { spelled = record { few = number; walk = record { count = subst IsNumber (sym a.full) is; each = a.each } }; count = refl };
        text = ap (λ k. ended (codes "inconsistent " ++ decimal k) ++ flat_map bound_text a.items) a.full ∙ ap (λ u. ended (codes "inconsistent " ++ decimal n) ++ u) a.are;
      }
      forth (opening.OnTrue k) t is v = record {
        report = report.Verdicts events v.on_true v.on_false;
        is = record { spelled = record { few = number; true_spelled = v.is.spelled; false_spelled = v.spelled }; count = refl };
        text =
            ap (λ u. u ++ section_text false v.on_false) (text-is true k v.on_true v.is.kind)
            ∙ append_assoc (ended (kind_line true k)) (entries_text v.on_true) (section_text false v.on_false) ∙ ap (λ u. ended (kind_line true k) ++ u) v.text;
      }

      back : (m : List ℕ) (r : Report) → IsOn events r → body_text r ≡ m → (o : Opening) × (t : List ℕ) × IsOpening o × AfterOpening o t × (m ≡ ended (opening_line o) ++ t)
      back m (report.Inconsistent n steps) is text = (
        opening.Inconsistent (length steps),
        flat_map bound_text steps,
        is.spelled.walk.count,
        record { items = steps; full = refl; each = is.spelled.walk.each; are = refl },
        sym text,
      )
      back m (report.Verdicts n a b) is text =
          let spelled_a : IsSpelledSection events a = subst (λ k. IsSpelledSection k a) is.count is.spelled.true_spelled in
          let spelled_b : IsSpelledSection events b = subst (λ k. IsSpelledSection k b) is.count is.spelled.false_spelled in (
            opening.OnTrue (kind_of a),
            entries_text a ++ section_text false b,
            kind-in_range a spelled_a,
            record { on_true = a; on_false = b; is = record { spelled = spelled_a; kind = refl }; spelled = spelled_b; text = refl },
            sym text ∙ ap (λ u. u ++ section_text false b) (text-is true (kind_of a) a refl) ∙ append_assoc (ended (kind_line true (kind_of a))) (entries_text a) (section_text false b),
          )

      some : (t : List ℕ) × IsBody events t
      some = (
        walk_text [],
        record {
          report = report.Inconsistent events [];
          is = record { spelled = record { few = number; walk = record { count = omega arith; each = All-nil IsSpelledBound } }; count = refl };
          text = refl;
        },
      )

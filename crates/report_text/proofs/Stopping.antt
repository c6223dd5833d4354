-- Where reading stops in texts that are made of others.
use Rattle.std.proofs.Common.{◌≡◌, ◌∙◌, sym, ap, ℕ, List, [], ◌++◌, append_assoc, inl, inr}
use Rattle.std.proofs.lemmas.List.{append-nil, append_cancel_left}
use Rattle.report_text.specs.declared.stop.Stop.{Stop}
use Rattle.report_text.specs.declared.stop.Stop.TheVariants as stop
use Rattle.report_text.specs.ReportOf.{AreLines, Begins, LacksNewline}
use Rattle.report_text.specs.ReportText.{ended}
use Rattle.report_text.specs.Stops.{Stopped}
use Rattle.report_text.proofs.Cutting.{comparable, lines-append}

-- texts of two kinds that are the same ones
begins-as : (L M : List ℕ → Type 0) → ((t : List ℕ) → L t → M t) → (bytes : List ℕ) → Begins L bytes → Begins M bytes
begins-as L M forth bytes b = record { text = b.text; is = forth b.text b.is; after = b.after; begins = b.begins }

pub stopped-as : (L M : List ℕ → Type 0) → ((t : List ℕ) → L t → M t) → ((t : List ℕ) → M t → L t) → (bytes : List ℕ) (f : Stop) → Stopped L bytes f → Stopped M bytes f
stopped-as L M forth back bytes (stop.Syntax left) p = record {
  before = p.before;
  rest = p.rest;
  split = p.split;
  size = p.size;
  lines = p.lines;
  begun = begins-as L M forth p.before p.begun;
  faulty = λ line after lacks is b. p.faulty line after lacks is (begins-as M L back (p.before ++ ended line) b);
  none = λ text after is begins. p.none text after (back text is) begins;
}
stopped-as L M forth back bytes stop.Memory p = tt

-- a text begins with one of another kind
pub record IsFrontOf (L M : List ℕ → Type 0) : Type 0 where
  pub more : (t : List ℕ) → L t → Begins M t
  pub first : (t : List ℕ) → M t → (a b : List ℕ) × L a × (t ≡ a ++ b)

-- where its front stops
pub stopped-before : (L M : List ℕ → Type 0) → IsFrontOf L M → (bytes : List ℕ) (f : Stop) → Stopped L bytes f → Stopped M bytes f
stopped-before L M front bytes (stop.Syntax left) p = record {
  before = p.before;
  rest = p.rest;
  split = p.split;
  size = p.size;
  lines = p.lines;
  begun = begun;
  faulty = faulty;
  none = none;
}
  where
    begun : Begins M p.before
    begun =
        let b = p.begun in
        let m = front.more b.text b.is in
        record { text = m.text; is = m.is; after = b.after ++ m.after; begins = m.begins ∙ ap (λ t. t ++ m.after) b.begins ∙ append_assoc p.before b.after m.after }

    faulty : (line after : List ℕ) → LacksNewline line → p.rest ≡ ended line ++ after → Begins M (p.before ++ ended line) → ⊥
    faulty line after lacks is b =
        let parts = front.first b.text b.is in
        let a = parts.0 in
        let same : a ++ parts.1 ≡ (p.before ++ ended line) ++ b.after = sym parts.3 ∙ b.begins in
        elim (comparable a parts.1 (p.before ++ ended line) b.after same) [
          | inl (e, longer) ↦ p.faulty line after lacks is (record { text = a; is = parts.2; after = e; begins = longer })
          | inr (e, shorter) ↦ p.none a (e ++ after) parts.2
              (p.split ∙ ap (λ t. p.before ++ t) is ∙ sym (append_assoc p.before (ended line) after) ∙ ap (λ t. t ++ after) shorter ∙ append_assoc a e after)
        ]

    none : (text after : List ℕ) → M text → bytes ≡ text ++ after → ⊥
    none text after is begins =
        let parts = front.first text is in
        p.none parts.0 (parts.1 ++ after) parts.2 (begins ∙ ap (λ t. t ++ after) parts.3 ∙ append_assoc parts.0 parts.1 after)
stopped-before L M front bytes stop.Memory p = tt

-- a text goes on, after a front, with one of another kind
pub record GoesOn (a : List ℕ) (L M : List ℕ → Type 0) : Type 0 where
  pub lines : AreLines a
  pub forth : (t : List ℕ) → L t → M (a ++ t)
  pub back : (m s u : List ℕ) → M m → m ++ s ≡ a ++ u → (t : List ℕ) × L t × (m ≡ a ++ t)

-- where what goes on stops
pub stopped-after : (a : List ℕ) (L M : List ℕ → Type 0) → GoesOn a L M → (bytes rest : List ℕ) (f : Stop) → bytes ≡ a ++ rest → Stopped L rest f → Stopped M bytes f
stopped-after a L M on bytes rest (stop.Syntax left) read p = record {
  before = a ++ p.before;
  rest = p.rest;
  split = read ∙ ap (λ t. a ++ t) p.split ∙ sym (append_assoc a p.before p.rest);
  size = p.size;
  lines = lines-append a p.before on.lines p.lines;
  begun = begun;
  faulty = faulty;
  none = none;
}
  where
    begun : Begins M (a ++ p.before)
    begun =
        let b = p.begun in
        record { text = a ++ b.text; is = on.forth b.text b.is; after = b.after; begins = ap (λ t. a ++ t) b.begins ∙ sym (append_assoc a p.before b.after) }

    faulty : (line after : List ℕ) → LacksNewline line → p.rest ≡ ended line ++ after → Begins M ((a ++ p.before) ++ ended line) → ⊥
    faulty line after lacks is b =
        let u : List ℕ = (p.before ++ ended line) ++ b.after in
        let begins : b.text ≡ a ++ u = b.begins ∙ ap (λ t. t ++ b.after) (append_assoc a p.before (ended line)) ∙ append_assoc a (p.before ++ ended line) b.after in
        let part = on.back b.text [] u b.is (append-nil b.text ∙ begins) in
        let same : part.0 ≡ u = append_cancel_left a part.0 u (sym part.2 ∙ begins) in
        p.faulty line after lacks is (record { text = part.0; is = part.1; after = b.after; begins = same })

    none : (text after : List ℕ) → M text → bytes ≡ text ++ after → ⊥
    none text after is begins =
        let part = on.back text after rest is (sym begins ∙ read) in
        let same : a ++ rest ≡ a ++ (part.0 ++ after) = sym read ∙ begins ∙ ap (λ t. t ++ after) part.2 ∙ append_assoc a part.0 after in
        p.none part.0 after part.1 (append_cancel_left a rest (part.0 ++ after) same)
stopped-after a L M on bytes rest stop.Memory read p = tt

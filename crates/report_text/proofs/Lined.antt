-- Texts that begin with a line that stands for a value.
use Rattle.std.proofs.Common.{◌≡◌, ◌∙◌, sym, ap, subst, refl, ℕ, List, [], ◌++◌, append_assoc, length, inl, inr}
use Rattle.report_text.specs.declared.stop.Stop.{Stop}
use Rattle.report_text.specs.Parts.{IsCut, IsFront, IsLineOf, NoFront}
use Rattle.report_text.specs.ReportOf.{Begins, LacksNewline}
use Rattle.report_text.specs.ReportText.{ended}
use Rattle.report_text.specs.Stops.{IsStoppedAt, Stopped}
use Rattle.report_text.proofs.Cutting.{no-line, same-after, same-line}
use Rattle.report_text.proofs.Stopping.{GoesOn, stopped-after}

-- lines without a newline in them that tell values apart
pub record AreSpellings {X : Type 0} (Is : X → Type 0) (spelling : X → List ℕ) : Type 0 where
  pub lacks : (x : X) → Is x → LacksNewline (spelling x)
  pub one : (x y : X) → Is x → Is y → spelling x ≡ spelling y → x ≡ y

-- texts that begin with such a line and go on by its value
pub record AreLined {X : Type 0} (Is : X → Type 0) (spelling : X → List ℕ) (L : X → List ℕ → Type 0) (M : List ℕ → Type 0) : Type 0 where
  pub spellings : AreSpellings Is spelling
  pub forth : (x : X) (t : List ℕ) → Is x → L x t → M (ended (spelling x) ++ t)
  pub back : (m : List ℕ) → M m → (x : X) × (t : List ℕ) × Is x × L x t × (m ≡ ended (spelling x) ++ t)
  pub some : (t : List ℕ) × M t

module _ {X : Type 0} (Is : X → Type 0) (spelling : X → List ℕ) where
  -- bytes with no newline begin with no such line
  pub uncut : AreSpellings Is spelling → (bytes : List ℕ) → LacksNewline bytes → NoFront Is (λ x. ended (spelling x)) bytes
  uncut are bytes none x rest is begins = no-line bytes (spelling x) rest none (are.lacks x is) begins

  -- nor do bytes whose first line stands for no value
  pub unspelled : AreSpellings Is spelling → (bytes line rest : List ℕ) → IsCut bytes line rest → ((x : X) → IsLineOf Is spelling line x → ⊥) → NoFront Is (λ x. ended (spelling x)) bytes
  unspelled are bytes line rest cut none x after is begins =
      none x (record { is = is; text = same-line (spelling x) line after rest (are.lacks x is) cut.lacks (sym begins ∙ cut.split) })

  pub spelled : (bytes line rest : List ℕ) (x : X) → IsCut bytes line rest → IsLineOf Is spelling line x → IsFront Is (λ x. ended (spelling x)) bytes x rest
  spelled bytes line rest x cut of = record { is = of.is; split = cut.split ∙ ap (λ l. ended l ++ rest) (sym of.text) }

  module _ (L : X → List ℕ → Type 0) (M : List ℕ → Type 0) (are : AreLined Is spelling L M) where
    -- the first line stands for no value
    pub stopped-first : (bytes : List ℕ) → NoFront Is (λ x. ended (spelling x)) bytes → IsStoppedAt M bytes (length bytes)
    stopped-first bytes lacking = record {
      before = [];
      rest = bytes;
      split = refl;
      size = refl;
      lines = inl refl;
      begun = record { text = are.some.0; is = are.some.1; after = are.some.0; begins = refl };
      faulty = faulty;
      none = none;
    }
      where
        faulty : (line after : List ℕ) → LacksNewline line → bytes ≡ ended line ++ after → Begins M ([] ++ ended line) → ⊥
        faulty line after lacks is b =
            let parts = are.back b.text b.is in
            let x = parts.0 in
            let same = same-line (spelling x) line parts.1 b.after (are.spellings.lacks x parts.2) lacks (sym parts.4 ∙ b.begins) in
            lacking x after parts.2 (is ∙ ap (λ l. ended l ++ after) (sym same))

        none : (text after : List ℕ) → M text → bytes ≡ text ++ after → ⊥
        none text after is begins =
            let parts = are.back text is in
            lacking parts.0 (parts.1 ++ after) parts.2 (begins ∙ ap (λ t. t ++ after) parts.4 ∙ append_assoc (ended (spelling parts.0)) parts.1 after)

    -- after a first line that stands for this value
    pub goes-on : (x : X) → Is x → GoesOn (ended (spelling x)) (L x) M
    goes-on x is = record { lines = inr (spelling x, refl); forth = λ t later. are.forth x t is later; back = back }
      where
        back : (m s u : List ℕ) → M m → m ++ s ≡ ended (spelling x) ++ u → (t : List ℕ) × L x t × (m ≡ ended (spelling x) ++ t)
        back m s u is_m same =
            let parts = are.back m is_m in
            let y = parts.0 in
            let begins : ended (spelling y) ++ (parts.1 ++ s) ≡ ended (spelling x) ++ u = sym (append_assoc (ended (spelling y)) parts.1 s) ∙ ap (λ t. t ++ s) (sym parts.4) ∙ same in
            let line = same-line (spelling y) (spelling x) (parts.1 ++ s) u (are.spellings.lacks y parts.2) (are.spellings.lacks x is) begins in
            let value : y ≡ x = are.spellings.one y x parts.2 is line in
            (parts.1, subst (λ z. L z parts.1) value parts.3, parts.4 ∙ ap (λ l. ended l ++ parts.1) line)

    -- what comes after that line stops
    pub stopped-later : (bytes rest : List ℕ) (x : X) (f : Stop) → IsFront Is (λ x. ended (spelling x)) bytes x rest → Stopped (L x) rest f → Stopped M bytes f
    stopped-later bytes rest x f front p = stopped-after (ended (spelling x)) (L x) M (goes-on x front.is) bytes rest f front.split p

  -- texts of one value each are equal where they begin the same bytes
  pub same-front : AreSpellings Is spelling → (x y : X) (s t : List ℕ) → Is x → Is y → ended (spelling x) ++ s ≡ ended (spelling y) ++ t → (x ≡ y) × (s ≡ t)
  same-front are x y s t is_x is_y same =
      let line = same-line (spelling x) (spelling y) s t (are.lacks x is_x) (are.lacks y is_y) same in
      (are.one x y is_x is_y line, same-after (spelling x) (spelling y) s t line same)

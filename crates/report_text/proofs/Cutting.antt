-- Bytes cut at a newline, and two ways of taking bytes apart.
use Rattle.std.proofs.Common.{◌≡◌, ◌∙◌, sym, ap, refl, arith, ℕ, List, [], ◌∷◌, ◌++◌, append_assoc, length, inl, inr}
use Rattle.std.specs.Prelude.{◌⊎◌}
use Rattle.std.specs.List.{slice_split}
use Rattle.std.proofs.lemmas.List.{append-nil, append_cancel_left}
use Rattle.std.proofs.lemmas.List.Splits.{length-slice_split, slice_split_at, slice_split_none}
use Rattle.memchr.specs.Find.{is_byte}
use Rattle.proof_log.specs.LinesText.{newline}
use Rattle.report_text.specs.ReportOf.{AreLines, LacksNewline}
use Rattle.report_text.specs.ReportText.{ended}
use Rattle.proof_log.proofs.ReadingLines.{first_same}

-- a line, cut at its newline
line-cut : (line after : List ℕ) → LacksNewline line → slice_split (is_byte newline) (ended line ++ after) ≡ line ∷ slice_split (is_byte newline) after
line-cut line after lacks = ap (slice_split (is_byte newline)) (append_assoc line (newline ∷ []) after) ∙ slice_split_at (is_byte newline) line newline after lacks refl

-- lines at the front of the same bytes are one
pub same-line : (x y s t : List ℕ) → LacksNewline x → LacksNewline y → ended x ++ s ≡ ended y ++ t → x ≡ y
same-line x y s t lacks_x lacks_y same =
    first_same x y (slice_split (is_byte newline) s) (slice_split (is_byte newline) t) (sym (line-cut x s lacks_x) ∙ ap (slice_split (is_byte newline)) same ∙ line-cut y t lacks_y)

pub same-after : (x y s t : List ℕ) → x ≡ y → ended x ++ s ≡ ended y ++ t → s ≡ t
same-after x y s t is same = append_cancel_left (ended y) s t (ap (λ w. ended w ++ s) (sym is) ∙ same)

-- bytes without a newline begin with no line
pub no-line : (bytes line after : List ℕ) → LacksNewline bytes → LacksNewline line → bytes ≡ ended line ++ after → ⊥
no-line bytes line after none lacks is =
    let parts = sym (slice_split_none (is_byte newline) bytes none) ∙ ap (slice_split (is_byte newline)) is ∙ line-cut line after lacks in
    absurd (omega (arith, ap length parts, length-slice_split (is_byte newline) after))

-- of two fronts of the same bytes one begins with the other
pub comparable : (a b c d : List ℕ) → a ++ b ≡ c ++ d → ((e : List ℕ) × (a ≡ c ++ e)) ⊎ ((e : List ℕ) × (c ≡ a ++ e))
comparable [] b c d same = inr (c, refl)
comparable (x ∷ a) b [] d same = inl (x ∷ a, refl)
comparable (x ∷ a) b (y ∷ c) d same =
    let first : x ≡ y = cc in
    let rest : a ++ b ≡ c ++ d = cc in
    elim (comparable a b c d rest) [
      | inl (e, is) ↦ inl (e, ap (λ z. z ∷ a) first ∙ ap (λ l. y ∷ l) is)
      | inr (e, is) ↦ inr (e, ap (λ z. z ∷ c) (sym first) ∙ ap (λ l. x ∷ l) is)
    ]

-- lines after lines
pub lines-append : (a b : List ℕ) → AreLines a → AreLines b → AreLines (a ++ b)
lines-append a b lines_a (inl none) = elim lines_a [
  | inl nothing ↦ inl (ap (λ l. l ++ b) nothing ∙ none)
  | inr (front, is) ↦ inr (front, ap (λ l. a ++ l) none ∙ append-nil a ∙ is)
]
lines-append a b lines_a (inr (front, is)) = inr (a ++ front, ap (λ l. a ++ l) is ∙ sym (append_assoc a front (newline ∷ [])))

-- What is trimmed of a text, from its marks.
use Rattle.std.proofs.Common.{◌≡◌, sym, ap, refl, ℕ, ◌<◌, ◌≤◌, ◌^◌, Bool, List, [], ◌∷◌, length, arith}
use Rattle.proof_log.specs.declared.line.Line.{Line}
use Rattle.proof_log.specs.LinesOf.{IsTextOf}
use Rattle.proof_log.specs.LinesText.{lines_text}
use Rattle.proof_trim.specs.Laws.{CanBeTrimmed}
use Rattle.proof_trim.specs.Needed.{NoneForward}
use Rattle.proof_trim.specs.Naming.{AreNamed}
use Rattle.proof_trim.specs.Placed.{IsTrimmedText, left_of}
use Rattle.proof_trim.specs.Trimmed.{AreNeeded, IsTrimOf}
use Rattle.proof_trim.proofs.Kept.{keeps-spelling, shorter}
use Rattle.proof_trim.proofs.Looks.{none-first}
use Rattle.proof_trim.proofs.LineTexts.{lines-within}

pub ends-few : (text : List ℕ) (lines : List Line) (numbers ends : List ℕ) → length text < 2 ^ 31 → IsTextOf text lines → AreNamed lines numbers ends → length ends < 2 ^ 31
ends-few text lines numbers ends few is are =
    let within = lines-within lines in
    let count = are.count in
    omega (arith, few, ap length is.text, within, count)

-- the text of the needed lines
pub trimmed-text : (text : List ℕ) (lines : List Line) → IsTextOf text lines → (marks : List Bool) → AreNeeded lines marks → (bytes : List ℕ)
    → bytes ≡ lines_text (left_of marks lines) → (count : ℕ) → count ≡ length (left_of marks lines)
    → IsTrimmedText lines bytes count
trimmed-text text lines is marks needed bytes written count counted =
    let t : IsTrimOf lines (left_of marks lines) = record { marks = marks; needed = needed; left = refl } in
    record {
      left = left_of marks lines;
      trim = t;
      text = record { spelled = keeps-spelling lines (left_of marks lines) t is.spelled; text = written };
      full = sym counted;
      fewer = shorter lines (left_of marks lines) t;
    }

module _ (lines : List Line) (numbers ends : List ℕ) (are : AreNamed lines numbers ends) where
  -- there are no lines where there is no end
  pub none-ended : length ends ≡ 0 → lines ≡ []
  none-ended none = nothing lines (omega (arith, are.count, none))
    where
      nothing : (ls : List Line) → length ls ≡ 0 → ls ≡ []
      nothing [] empty = refl
      nothing (l ∷ ls) empty = let never : ⊥ = omega (arith, empty) in absurd never

  -- lines of which none names a later one can be trimmed
  pub can-trim : 1 ≤ length ends → NoneForward lines → CanBeTrimmed lines
  can-trim some none = record { some = λ empty. omega (arith, some, are.count, ap length empty); back = λ n first. none-first lines n none first }

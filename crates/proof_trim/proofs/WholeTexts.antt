-- What is left where all lines are marked: these, as they stand.
use Rattle.std.proofs.Common.{◌≡◌, ◌∙◌, sym, ap, ap₂, refl, ℕ, zero, suc, ◌+◌, ◌≤◌, Bool, true, false, List, [], ◌∷◌, length, map, Some, arith}
use Rattle.std.specs.Prelude.{All, IsTrue, slice_get}
use Rattle.std.proofs.lemmas.Option.{slice_get_within}
use Rattle.proof_log.specs.declared.line.Hint.{Hint}
use Rattle.proof_log.specs.declared.line.Hint.TheVariants as hint
use Rattle.proof_log.specs.declared.line.Line.{Line}
use Rattle.proof_log.specs.declared.line.Line.TheVariants as line
use Rattle.proof_log.specs.LinesOf.{IsTextOf}
use Rattle.proof_log.specs.LinesText.{lines_text}
use Rattle.proof_trim.specs.Needed.{NoneForward}
use Rattle.proof_trim.specs.Placed.{IsTrimmedText, left_of}
use Rattle.proof_log.specs.Marks.{marked}
use Rattle.proof_trim.specs.Trimmed.{AreNeeded, hint_renumbered, place_of, renumbered}
use Rattle.proof_trim.proofs.Looks.{line-agrees}
use Rattle.proof_trim.proofs.NamedHints.{looks-at}
use Rattle.proof_trim.proofs.TrimmedLines.{trimmed-text}

-- ---- numbers that stay

hint-same : (h : Hint) → hint_renumbered (λ n. n) h ≡ h
hint-same (hint.Line n) = refl
hint-same (hint.Rule r) = refl

map-same : {X : Type 0} (f : X → X) (xs : List X) → ((i : ℕ) (x : X) → slice_get xs i ≡ Some x → f x ≡ x) → map f xs ≡ xs
map-same f [] each = refl
map-same f (x ∷ xs) each = ap₂ (λ y ys. y ∷ ys) (each 0 x refl) (map-same f xs (λ i y is. each (suc i) y is))

line-same : (l : Line) → renumbered (λ n. n) l ≡ l
line-same (line.Cycle steps) = refl
line-same (line.Learn lits hints) = ap (line.Learn lits) (map-same (hint_renumbered (λ n. n)) hints (λ i h is. hint-same h))

-- ---- marks that are all set

others-marked : (m : Bool) (marks : List Bool) → All IsTrue (m ∷ marks) → All IsTrue marks
others-marked m marks all = λ k d within. all (suc k) d (omega (arith, within))

all-marked : (marks : List Bool) (lines : List Line) → All IsTrue marks → length marks ≡ length lines → marked marks lines ≡ lines
all-marked [] [] all full = refl
all-marked [] (l ∷ lines) all full = let never : ⊥ = omega (arith, full) in absurd never
all-marked (mark ∷ marks) [] all full = let never : ⊥ = omega (arith, full) in absurd never
all-marked (true ∷ marks) (l ∷ lines) all full = ap (λ ls. l ∷ ls) (all-marked marks lines (others-marked true marks all) (omega (arith, full)))
all-marked (false ∷ marks) (l ∷ lines) all full = let wrong : false ≡ true = all 0 false (omega arith) in let never : ⊥ = cc in absurd never

-- each line's place is its number
place-same : (marks : List Bool) (lines : List Line) → All IsTrue marks → length marks ≡ length lines → (n : ℕ) → n ≤ length lines → place_of marks lines n ≡ n
place-same marks lines all full zero low = refl
place-same marks [] all full (suc n) low = let never : ⊥ = omega (arith, low) in absurd never
place-same [] (l ∷ lines) all full (suc n) low = let never : ⊥ = omega (arith, full) in absurd never
place-same (true ∷ marks) (l ∷ lines) all full (suc n) low = ap suc (place-same marks lines (others-marked true marks all) (omega (arith, full)) n (omega (arith, low)))
place-same (false ∷ marks) (l ∷ lines) all full (suc n) low = let wrong : false ≡ true = all 0 false (omega arith) in let never : ⊥ = cc in absurd never

module _ (marks : List Bool) (lines : List Line) (all : All IsTrue marks) (needed : AreNeeded lines marks) (forward : NoneForward lines) where
  left-whole : left_of marks lines ≡ lines
  left-whole =
      ap (map (renumbered (place_of marks lines))) (all-marked marks lines all needed.count)
      ∙ map-same (renumbered (place_of marks lines)) lines (λ i l stands.
      let within = slice_get_within lines i l stands in
      line-agrees (place_of marks lines) (λ n. n) (i + 1) (λ n some less. place-same marks lines all needed.count n (omega (arith, less, within))) l (looks-at lines forward i l stands) ∙ line-same l)

  pub whole-trimmed : (text : List ℕ) → IsTextOf text lines → (bytes : List ℕ) → bytes ≡ text → (count : ℕ) → count ≡ length lines → IsTrimmedText lines bytes count
  whole-trimmed text is bytes copied count counted =
      trimmed-text text lines is marks needed bytes (copied ∙ is.text ∙ ap lines_text (sym left-whole)) count (counted ∙ ap length (sym left-whole))

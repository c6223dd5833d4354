-- The first of some words, cut at the space after it.
use Rattle.std.proofs.Common.{◌≡◌, ◌∙◌, sym, ap, subst, ℕ, ◌-◌, ◌<◌, ◌≤◌, List, [], ◌∷◌, ◌++◌, length, length-drop, take, drop, inl, inr, arith}
use Rattle.std.specs.List.{slice_split}
use Rattle.std.proofs.lemmas.Bool.{cases_lt}
use Rattle.std.proofs.lemmas.List.{take-append-drop, take_all, take_rest}
use Rattle.memchr.specs.Find.{NoneBefore, Nowhere, Passes, is_byte}
use Rattle.proof_log.specs.LinesText.{space}
use Rattle.proof_log.specs.Reading.{words_after}
use Rattle.proof_log.proofs.Cuts.{after-place, cut-at, cut-none}

-- the words after a space
pub words-rest : (words : List ℕ) → 1 ≤ length words → words_after words ≡ slice_split (is_byte space) (take (length words - 1) (drop 1 words))
words-rest [] some = let never : ⊥ = omega (arith, some) in absurd never
words-rest (b ∷ bs) some = ap (slice_split (is_byte space)) (sym (take_rest (b ∷ bs) 1))

pub rest-shorter : (words : List ℕ) → 1 ≤ length words → length (take (length words - 1) (drop 1 words)) < length words
rest-shorter words some = omega (arith, ap length (take_rest words 1), length-drop 1 words, some)

module _ (words : List ℕ) (end : ℕ) where
  abbrev word : List ℕ
  word = take end words

  abbrev after : List ℕ
  after = take (length words - end) (drop end words)

  pub word-bytes : words ≡ word ++ after
  word-bytes = sym (take-append-drop end words) ∙ ap (λ t. word ++ t) (sym (take_rest words end))

  pub word-split : end ≤ length words → Nowhere (Passes (is_byte space) words) 0 end → (end < length words → Passes (is_byte space) words end)
      → slice_split (is_byte space) words ≡ word ∷ words_after after
  word-split within none here = elim (cases_lt end (length words)) [
    | inl less ↦
        let first : NoneBefore (Passes (is_byte space) words) 0 (length words) end = record { low = omega arith; high = less; before = none } in
        cut-at space words end first (here less) ∙ ap (λ ws. word ∷ ws) (sym (after-place words end less))
    | inr all ↦
        let whole : end ≡ length words = omega (arith, within, all) in
        let nothing : after ≡ [] = ap (λ n. take n (drop end words)) (let zero : length words - end ≡ 0 = omega (arith, whole) in zero) in
        cut-none space words (subst (Nowhere (Passes (is_byte space) words) 0) whole none) ∙ ap (λ w. w ∷ []) (sym (take_all end words (omega (arith, whole))))
        ∙ ap (λ a. word ∷ words_after a) (sym nothing)
  ]

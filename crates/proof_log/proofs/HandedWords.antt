-- Items and words that are handed out from the text of lines.
use Rattle.std.proofs.Common.{◌≡◌, ◌≢◌, ◌∙◌, sym, ap, refl, ℕ, List, ◌∷◌, ◌++◌, Option, Some, None, Bor, codes}
use Rattle.std.specs.Prelude.{MatchOption}
use Rattle.std.specs.List.{join_with_byte, slice_split}
use Rattle.std.proofs.lemmas.List.{append_cancel_left}
use Rattle.std.proofs.lemmas.List.Splits.{join_with_byte-slice_split}
use Rattle.memchr.specs.Find.{is_byte}
use Rattle.proof_log.specs.declared.line.Line.{Line}
use Rattle.proof_log.specs.declared.line.Line.TheVariants as line
use Rattle.proof_log.specs.declared.parts.LineWords.TheVariants as words
use Rattle.proof_log.specs.LinesText.{Word, line_words, space, spaced}
use Rattle.proof_log.specs.Parts.{AreWordsOf}
use Rattle.proof_log.specs.Reading.{Reading, words_after}
use Rattle.proof_log.specs.Spelled.{IsSpelled}
use Rattle.proof_log.proofs.HeadLines.{first-is, other-word, rest-is}
use Rattle.proof_log.proofs.Spacing.{joined-spaced}
use Rattle.std.proofs.lemmas.Option.{same_Some}

-- an item that words begin with is the one that is read from them
pub handed : {X : Type 0} (read : List Word → Reading X) (item_words : X → List Word) (Valid : X → Type 0) → ((x : X) (rest : List Word) → Valid x → read (item_words x ++ rest) ≡ Some (x, rest))
    → (ws : List Word) (found : Option (X × Bor (List ℕ))) → MatchOption found (read ws ≡ None) (λ r. read ws ≡ Some (r.0, words_after r.1.now))
    → (x : X) (after : List Word) → Valid x → ws ≡ item_words x ++ after → MatchOption found ⊥ (λ r. (r.0 ≡ x) × (words_after r.1.now ≡ after))
handed read item_words Valid written ws None is x after valid text =
    let back = ap read text ∙ written x after valid in
    absurd (cc)
handed read item_words Valid written ws (Some r) is x after valid text =
    let same = same_Some (r.0, words_after r.1.now) (x, after) (sym is ∙ ap read text ∙ written x after valid) in
    (ap (λ p. p.0) same, ap (λ p. p.1) same)

-- what stands after a word has a space before each of its words
pub words-spaced : (text word rest : List ℕ) → slice_split (is_byte space) text ≡ word ∷ words_after rest → text ≡ word ++ rest → rest ≡ spaced (words_after rest)
words-spaced text word rest cut_is bytes =
    let joined : join_with_byte space (word ∷ words_after rest) ≡ text = ap (join_with_byte space) (sym cut_is) ∙ join_with_byte-slice_split space text in
    append_cancel_left word rest (spaced (words_after rest)) (sym bytes ∙ sym joined ∙ joined-spaced word (words_after rest))

module _ (text word : List ℕ) (after : Bor (List ℕ)) (cut_is : slice_split (is_byte space) text ≡ word ∷ words_after after.now) where
  pub cycle-handed : word ≡ codes "cycle" → (l : Line) → IsSpelled l → text ≡ join_with_byte space (line_words l) → AreWordsOf (words.Cycle after) l
  cycle-handed is (line.Cycle steps) spelled joined = sym (rest-is text word after.now cut_is (codes "cycle") _ (line.Cycle steps) spelled joined refl)
  cycle-handed is (line.Learn lits hints) spelled joined = other-word (sym is ∙ sym (first-is text word after.now cut_is (codes "learn") _ (line.Learn lits hints) spelled joined refl))

  pub learn-handed : word ≢ codes "cycle" → (l : Line) → IsSpelled l → text ≡ join_with_byte space (line_words l) → AreWordsOf (words.Learn after) l
  learn-handed other (line.Cycle steps) spelled joined = other (sym (first-is text word after.now cut_is (codes "cycle") _ (line.Cycle steps) spelled joined refl))
  learn-handed other (line.Learn lits hints) spelled joined = sym (rest-is text word after.now cut_is (codes "learn") _ (line.Learn lits hints) spelled joined refl)

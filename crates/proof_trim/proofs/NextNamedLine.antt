-- Words that are looked through for the next line that they name.
use Rattle.std.proofs.Common.{◌≡◌, ◌∙◌, sym, ap, refl, ℕ, ◌-◌, ◌<◌, ◌≤◌, true, false, List, [], ◌∷◌, ◌++◌, append_assoc, length, length-append, take, arith}
use Rattle.std.proofs.Math.Seq.{take-append_seam}
use Rattle.proof_log.specs.LinesText.{Word, spaced}
use Rattle.proof_log.specs.Reading.{words_after}
use Rattle.proof_log.proofs.Spacing.{spaced-append}
use Rattle.proof_trim.specs.Naming.{IsNextNamed, is_line_word, named_in, number_of, renamed_in}

-- words were looked through up to these, and name no line before them
pub record IsScannedTo (words rest : List ℕ) : Type 0 where
  pub before : List Word
  pub words_are : words_after words ≡ before ++ words_after rest
  pub named : named_in false (words_after words) ≡ named_in false (words_after rest)
  pub renamed : (place : ℕ → ℕ) → renamed_in place false (words_after words) ≡ before ++ renamed_in place false (words_after rest)
  pub front : words ≡ spaced (words_after words) → words ≡ spaced before ++ rest
  pub spaced_rest : words ≡ spaced (words_after words) → rest ≡ spaced (words_after rest)
  pub shorter : length rest ≤ length words

pub none-scanned : (words : List ℕ) → IsScannedTo words words
none-scanned words = record { before = []; words_are = refl; named = refl; renamed = λ place. refl; front = λ is. refl; spaced_rest = λ is. is; shorter = omega arith }

module _ (words rest : List ℕ) (so_far : IsScannedTo words rest) where
  module _ (word after : List ℕ) (next : words_after rest ≡ word ∷ words_after after)
      (more : rest ≡ spaced (words_after rest) → after ≡ spaced (words_after after)) (less : length after < length rest) where
    abbrev through : List Word
    through = so_far.before ++ word ∷ []

    through-words : words_after words ≡ through ++ words_after after
    through-words = so_far.words_are ∙ ap (λ ws. so_far.before ++ ws) next ∙ sym (append_assoc so_far.before (word ∷ []) (words_after after))

    through-front : words ≡ spaced (words_after words) → words ≡ spaced through ++ after
    through-front is =
        let left = so_far.spaced_rest is in
        let split : rest ≡ spaced (word ∷ []) ++ after =
        left ∙ ap spaced next ∙ spaced-append (word ∷ []) (words_after after) ∙ ap (λ t. spaced (word ∷ []) ++ t) (sym (more left)) in
        so_far.front is ∙ ap (λ t. spaced so_far.before ++ t) split ∙ sym (append_assoc (spaced so_far.before) (spaced (word ∷ [])) after)
        ∙ ap (λ t. t ++ after) (sym (spaced-append so_far.before (word ∷ [])))

    -- the next word is not `line`
    pub more-scanned : is_line_word word ≡ false → IsScannedTo words after
    more-scanned other = record {
      before = through;
      words_are = through-words;
      named = so_far.named ∙ ap (named_in false) next ∙ ap (λ b. named_in b (words_after after)) other;
      renamed = λ place. so_far.renamed place ∙ ap (λ ws. so_far.before ++ renamed_in place false ws) next ∙ ap (λ b. so_far.before ++ word ∷ renamed_in place b (words_after after)) other
          ∙ sym (append_assoc so_far.before (word ∷ []) (renamed_in place false (words_after after)));
      front = through-front;
      spaced_rest = λ is. more (so_far.spaced_rest is);
      shorter = omega (arith, less, so_far.shorter);
    }

    -- the next word is `line`
    module _ (line : is_line_word word ≡ true) where
      line-named : named_in false (words_after words) ≡ named_in true (words_after after)
      line-named = so_far.named ∙ ap (named_in false) next ∙ ap (λ b. named_in b (words_after after)) line

      line-renamed : (place : ℕ → ℕ) → renamed_in place false (words_after words) ≡ through ++ renamed_in place true (words_after after)
      line-renamed place =
          so_far.renamed place ∙ ap (λ ws. so_far.before ++ renamed_in place false ws) next ∙ ap (λ b. so_far.before ++ word ∷ renamed_in place b (words_after after)) line
          ∙ sym (append_assoc so_far.before (word ∷ []) (renamed_in place true (words_after after)))

      -- a number stands after it
      pub next-found : (number last : List ℕ) → words_after after ≡ number ∷ words_after last → (after ≡ spaced (words_after after) → last ≡ spaced (words_after last)) → length last < length after
          → IsNextNamed words (take (length words - length after) words) (number_of number) last
      next-found number last then_ then_more then_less = record {
        before = through;
        named = line-named ∙ ap (named_in true) then_;
        renamed = λ place. line-renamed place ∙ ap (λ ws. through ++ renamed_in place true ws) then_;
        front_is = λ is.
            let size : length words - length after ≡ length (spaced through) = omega (arith, ap length (through-front is), length-append (spaced through) after) in
            ap (λ n. take n words) size ∙ ap (take (length (spaced through))) (through-front is) ∙ take-append_seam (spaced through) after;
        rest = λ is. then_more (more (so_far.spaced_rest is));
        shorter = omega (arith, then_less, less, so_far.shorter);
      }

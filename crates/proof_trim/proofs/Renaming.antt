-- Words that are copied with other numbers, up to one number after another.
use Rattle.std.proofs.Common.{◌≡◌, ◌∙◌, sym, ap, subst, refl, ℕ, false, List, [], ◌∷◌, ◌++◌, append_assoc}
use Rattle.std.specs.Prelude.{All}
use Rattle.std.specs.Fmt.{decimal}
use Rattle.std.proofs.lemmas.List.Elements.{All-head, All-tail}
use Rattle.proof_log.specs.LinesText.{spaced}
use Rattle.proof_log.specs.Reading.{words_after}
use Rattle.proof_log.proofs.Spacing.{spaced-append}
use Rattle.proof_trim.specs.Naming.{IsEarlier, IsNextNamed, named_in, renamed_in}

-- what was added to a text is the words up to these with other numbers, and each number that is left is below a number
pub record AreRenamedTo (place : ℕ → ℕ) (number : ℕ) (words old now rest : List ℕ) : Type 0 where
  pub text : old ++ spaced (renamed_in place false (words_after words)) ≡ now ++ spaced (renamed_in place false (words_after rest))
  pub earlier : All (IsEarlier number) (named_in false (words_after rest))
  pub bytes : rest ≡ spaced (words_after rest)

pub none-renamed : (place : ℕ → ℕ) (number : ℕ) (words old : List ℕ) → All (IsEarlier number) (named_in false (words_after words))
    → words ≡ spaced (words_after words) → AreRenamedTo place number words old old words
none-renamed place number words old earlier bytes = record { text = refl; earlier = earlier; bytes = bytes }

module _ (place : ℕ → ℕ) (number : ℕ) (words old now rest : List ℕ) (so_far : AreRenamedTo place number words old now rest) where
  module _ (front : List ℕ) (line : ℕ) (after : List ℕ) (next : IsNextNamed rest front line after) where
    left-earlier : All (IsEarlier number) (line ∷ named_in false (words_after after))
    left-earlier = subst (All (IsEarlier number)) next.named so_far.earlier

    pub line-earlier : IsEarlier number line
    line-earlier = All-head (IsEarlier number) line (named_in false (words_after after)) left-earlier

    pub one-renamed : (one two : List ℕ) → one ≡ now ++ front → two ≡ one ++ spaced (decimal (place line) ∷ []) → AreRenamedTo place number words old two after
    one-renamed one two is_one is_two =
        let d = decimal (place line) in
        let left = renamed_in place false (words_after after) in
        let copied : two ++ spaced left ≡ now ++ spaced (next.before ++ d ∷ left) =
        ap (λ t. t ++ spaced left) is_two ∙ append_assoc one (spaced (d ∷ [])) (spaced left) ∙ ap (λ t. one ++ t) (sym (spaced-append (d ∷ []) left))
        ∙ ap (λ t. t ++ spaced (d ∷ left)) (is_one ∙ ap (λ t. now ++ t) (next.front_is so_far.bytes))
        ∙ append_assoc now (spaced next.before) (spaced (d ∷ left)) ∙ ap (λ t. now ++ t) (sym (spaced-append next.before (d ∷ left))) in
        record {
          text = so_far.text ∙ ap (λ ws. now ++ spaced ws) (next.renamed place) ∙ sym copied;
          earlier = All-tail (IsEarlier number) line (named_in false (words_after after)) left-earlier;
          bytes = next.rest so_far.bytes;
        }

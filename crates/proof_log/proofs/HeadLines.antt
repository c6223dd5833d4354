-- The first of the lines whose text bytes are, and its words.
use Rattle.std.proofs.Common.{◌≡◌, ◌∙◌, sym, ap, refl, arith, ℕ, ◌+◌, ◌-◌, List, [], ◌∷◌, ◌++◌, length, take, drop, codes}
use Rattle.std.specs.List.{join_with_byte, slice_split}
use Rattle.std.proofs.lemmas.List.{append_cancel_left}
use Rattle.std.proofs.lemmas.List.Elements.{All-head, All-tail}
use Rattle.memchr.specs.Find.{NoneBefore, Passes, is_byte}
use Rattle.proof_log.specs.declared.line.Line.{Line}
use Rattle.proof_log.specs.declared.line.Line.TheVariants as line
use Rattle.proof_log.specs.LinesOf.{BeginsWithLine, IsTextOf}
use Rattle.proof_log.specs.LinesText.{Word, line_text, line_words, lines_text, newline, space}
use Rattle.proof_log.specs.Reading.{words_after}
use Rattle.proof_log.specs.Spelled.{IsSpelled}
use Rattle.proof_log.proofs.Cuts.{cut-at}
use Rattle.proof_log.proofs.LineReading.{split-line}
use Rattle.proof_log.proofs.ReadingLines.{cut, text-cut, first_same}
use Rattle.mt_list.proofs.Lists.{parts_same}

-- where the bytes begin with no line, they are the text of none
pub none-head : (bytes : List ℕ) → (BeginsWithLine bytes → ⊥) → (lines : List Line) → IsTextOf bytes lines → lines ≡ []
none-head bytes none [] is = refl
none-head bytes none (l ∷ ls) is = absurd (none (record { line = l; spelled = All-head IsSpelled l ls is.spelled; after = lines_text ls; text = is.text }))

-- the text of the first of the lines, up to its newline, and what follows it
pub record IsHeadAt (bytes : List ℕ) (lines : List Line) (end : ℕ) : Type 0 where
  pub line : Line
  pub others : List Line
  pub split : lines ≡ line ∷ others
  pub spelled : IsSpelled line
  pub words : take end bytes ≡ join_with_byte space (line_words line)
  pub text : IsTextOf (drop (end + 1) bytes) others
  pub whole : bytes ≡ line_text line ++ drop (end + 1) bytes

pub head-at : (bytes : List ℕ) (end : ℕ) → NoneBefore (Passes (is_byte newline) bytes) 0 (length bytes) end → Passes (is_byte newline) bytes end
    → (lines : List Line) → IsTextOf bytes lines → IsHeadAt bytes lines end
head-at bytes end first here [] is = absurd (omega (arith, first.high, ap length is.text))
head-at bytes end first here (l ∷ ls) is =
    let spelled = All-head IsSpelled l ls is.spelled in
    let parts = sym (cut-at newline bytes end first here) ∙ ap (slice_split (is_byte newline)) is.text ∙ text-cut l (lines_text ls) spelled in
    let words : take end bytes ≡ join_with_byte space (line_words l) = first_same _ _ _ _ parts in
    let whole : bytes ≡ line_text l ++ drop (end + 1) bytes = cut bytes end first here ∙ ap (λ t. (t ++ newline ∷ []) ++ drop (end + 1) bytes) words in
    record {
      line = l;
      others = ls;
      split = refl;
      spelled = spelled;
      words = words;
      text = record { spelled = All-tail IsSpelled l ls is.spelled; text = append_cancel_left (line_text l) (drop (end + 1) bytes) (lines_text ls) (sym whole ∙ is.text) };
      whole = whole;
    }

-- ---- the words of a line

pub other-word : codes "cycle" ≡ codes "learn" → ⊥
other-word same = let first : 99 ≡ 108 = ap first_byte same in let never : ⊥ = omega (arith, first) in never
  where
    first_byte : Word → ℕ
    first_byte [] = 0
    first_byte (b ∷ bs) = b

-- the words of a line, of which the first was cut off
module _ (words word rest : List ℕ) (cut_is : slice_split (is_byte space) words ≡ word ∷ words_after rest) where
  parted : (l : Line) → IsSpelled l → words ≡ join_with_byte space (line_words l) → line_words l ≡ word ∷ words_after rest
  parted l is text = sym (split-line l is) ∙ ap (slice_split (is_byte space)) (sym text) ∙ cut_is

  pub first-is : (w : Word) (ws : List Word) (l : Line) → IsSpelled l → words ≡ join_with_byte space (line_words l) → line_words l ≡ w ∷ ws → w ≡ word
  first-is w ws l is text split = (parts_same w word ws (words_after rest) (sym split ∙ parted l is text)).0

  pub rest-is : (w : Word) (ws : List Word) (l : Line) → IsSpelled l → words ≡ join_with_byte space (line_words l) → line_words l ≡ w ∷ ws → ws ≡ words_after rest
  rest-is w ws l is text split = (parts_same w word ws (words_after rest) (sym split ∙ parted l is text)).1

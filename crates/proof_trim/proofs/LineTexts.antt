-- The texts of lines, and the line with which the text of some of them begins.
use Rattle.std.proofs.Common.{◌≡◌, ◌∙◌, sym, ap, subst, ℕ, ◌+◌, ◌<◌, ◌≤◌, List, [], ◌∷◌, ◌++◌, drop, get_or, length, length-append, length-drop, arith}
use Rattle.std.proofs.lemmas.List.{drop_more}
use Rattle.std.proofs.lemmas.List.Concat.{flat_map-cons}
use Rattle.proof_log.specs.declared.line.Line.{Line}
use Rattle.proof_log.specs.declared.parts.LineWords.{LineWords}
use Rattle.proof_log.specs.LinesOf.{IsTextOf}
use Rattle.proof_log.specs.LinesText.{line_text, lines_text}
use Rattle.proof_log.specs.Parts.{IsHeadWords}
use Rattle.proof_log.proofs.ReadingLines.{line_some}

-- they have no fewer bytes than lines
pub lines-within : (lines : List Line) → length lines ≤ length (lines_text lines)
lines-within [] = omega arith
lines-within (l ∷ ls) =
    let rest = lines-within ls in
    omega (arith, ap length (flat_map-cons line_text l ls), length-append (line_text l) (lines_text ls), line_some l, rest)

-- the line stands after the first n lines, and these bytes are the text of those after it
pub record IsLineAfter (lines : List Line) (n : ℕ) (l : Line) (rest after : List ℕ) : Type 0 where
  pub low : n < length lines
  pub stands : get_or lines n l ≡ l
  pub after_is : IsTextOf after (drop (n + 1) lines)
  pub shorter : length after < length rest

parted : (x y : Line) (xs ys : List Line) → x ∷ xs ≡ y ∷ ys → (x ≡ y) × (xs ≡ ys)
parted x y xs ys same = (cc, cc)

pub line-after : (lines : List Line) (n : ℕ) (rest after : List ℕ) (ws : LineWords) → IsTextOf rest (drop n lines)
    → (head : IsHeadWords (drop n lines) ws after) → IsLineAfter lines n head.line rest after
line-after lines n rest after ws is head =
    let low : n < length lines = omega (arith, ap length head.split, length-drop n lines) in
    let parts = parted head.line (get_or lines n head.line) head.others (drop (n + 1) lines) (sym head.split ∙ drop_more lines n head.line low) in
    let text : rest ≡ line_text head.line ++ lines_text head.others = is.text ∙ ap lines_text head.split in
    record {
      low = low;
      stands = sym parts.0;
      after_is = subst (IsTextOf after) parts.1 head.text;
      shorter = omega (arith, ap length text, length-append (line_text head.line) (lines_text head.others), ap length head.text.text, line_some head.line);
    }

-- no line is left
pub none-after : (lines : List Line) (n : ℕ) → drop n lines ≡ [] → length lines ≤ n
none-after lines n empty = omega (arith, ap length empty, length-drop n lines)

-- The words of a line after its first, and the line of which they are.
use Rattle.std.specs.Prelude.{◌≡◌, ℕ, List, ◌∷◌, ◌++◌, length, Option, MatchOption}
use Rattle.std.specs.Borrow.{Bor}
use Rattle.std.specs.Fmt.{decimal}
use Rattle.std.specs.List.{flat_map}
use Rattle.proof_log.specs.declared.line.Line.{Line}
use Rattle.proof_log.specs.declared.line.Line.TheVariants as line
use Rattle.proof_log.specs.declared.parts.LineWords.{LineWords}
use Rattle.proof_log.specs.declared.parts.LineWords.TheVariants as words
use Rattle.proof_log.specs.LinesOf.{IsTextOf}
use Rattle.proof_log.specs.LinesText.{Word, hint_words, literal_words, spaced, step_words}
use Rattle.proof_log.specs.Reading.{words_after}
use Rattle.proof_log.specs.Spelled.{IsSpelled}

-- these are the words of the line: after `cycle` the number of its steps and the steps, or after `learn` the number of its literals,
-- the literals, the number of its hints, and the hints
abbrev pub AreWordsOf : LineWords → Line → Type 0
AreWordsOf (words.Cycle ws) (line.Cycle steps) = words_after ws.now ≡ decimal (length steps) ∷ flat_map step_words steps
AreWordsOf (words.Cycle ws) (line.Learn lits hints) = ⊥
AreWordsOf (words.Learn ws) (line.Cycle steps) = ⊥
AreWordsOf (words.Learn ws) (line.Learn lits hints) =
    words_after ws.now ≡ decimal (length lits) ∷ (flat_map literal_words lits ++ decimal (length hints) ∷ flat_map hint_words hints)

-- the bytes of the words
abbrev pub bytes_of : LineWords → List ℕ
bytes_of (words.Cycle ws) = ws.now
bytes_of (words.Learn ws) = ws.now

-- these are the words of the first of the lines, each after a space, and the rest is the text of the others
pub record IsHeadWords (lines : List Line) (ws : LineWords) (rest : List ℕ) : Type 0 where
  pub line : Line
  pub others : List Line
  pub split : lines ≡ line ∷ others
  pub text : IsTextOf rest others
  pub spelled : IsSpelled line
  pub words : AreWordsOf ws line
  pub bytes : bytes_of ws ≡ spaced (words_after (bytes_of ws))

-- this was read, and these words stand after it
abbrev pub HasRead : {X : Type 0} → X → List Word → X × Bor (List ℕ) → Type 0
HasRead x after r = (r.0 ≡ x) × (words_after r.1.now ≡ after)

-- where the words begin with those of an item, it is read
abbrev pub Reads : {X : Type 0} → (X → Type 0) → (X → List Word) → List ℕ → Option (X × Bor (List ℕ)) → Type 0
Reads Is item_words words found = (x : _) (after : List Word) → Is x → words_after words ≡ item_words x ++ after → MatchOption found ⊥ (HasRead x after)

-- P holds of each line that has these words
abbrev pub OfLine : LineWords → (Line → Type 0) → Type 0
OfLine ws P = (line : Line) → IsSpelled line → AreWordsOf ws line → P line

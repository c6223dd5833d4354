-- What is said of each part of a line that has the words that are read.
use Rattle.std.specs.Prelude.{◌≡◌, ℕ, List, ◌∷◌, ◌++◌, length}
use Rattle.std.specs.Fmt.{decimal}
use Rattle.std.specs.List.{flat_map}
use Rattle.mt_model.specs.declared.step.Step.{Step}
use Rattle.axiom_rules.specs.declared.literal.Literal.{Literal}
use Rattle.proof_log.specs.declared.line.Hint.{Hint}
use Rattle.proof_log.specs.LinesText.{Word, hint_words, literal_words, step_words}
use Rattle.proof_log.specs.Reading.{words_after}
use Rattle.proof_log.specs.Spelled.{AreSpelledHints, IsSpelledCycle, IsSpelledLearn}
use Rattle.proof_check.specs.Judging.{AreSpelledLiterals}

-- P holds of the steps of each Cycle line that has these words after its first
abbrev pub OfCycle : List ℕ → (List Step → Type 0) → Type 0
OfCycle ws P = (steps : List Step) → IsSpelledCycle steps → words_after ws ≡ decimal (length steps) ∷ flat_map step_words steps → P steps

-- P holds of so many steps that have these words
abbrev pub OfSteps : ℕ → List ℕ → (List Step → Type 0) → Type 0
OfSteps count ws P = (steps : List Step) → IsSpelledCycle steps → length steps ≡ count → words_after ws ≡ flat_map step_words steps → P steps

-- P holds of the literals and the hints of each Learn line that has these words after its first
abbrev pub OfLearn : List ℕ → (List Literal → List Hint → Type 0) → Type 0
OfLearn ws P = (lits : List Literal) (hints : List Hint) → IsSpelledLearn lits hints
    → words_after ws ≡ decimal (length lits) ∷ (flat_map literal_words lits ++ decimal (length hints) ∷ flat_map hint_words hints) → P lits hints

-- P holds of the literals whose number and words come first, and of the words after them
abbrev pub OfLiterals : List ℕ → (List Literal → List Word → Type 0) → Type 0
OfLiterals ws P = (lits : List Literal) (after : List Word) → AreSpelledLiterals lits
    → words_after ws ≡ decimal (length lits) ∷ (flat_map literal_words lits ++ after) → P lits after

-- P holds of so many hints that have these words
abbrev pub OfHints : ℕ → List ℕ → (List Hint → Type 0) → Type 0
OfHints count ws P = (hints : List Hint) → AreSpelledHints hints → length hints ≡ count → words_after ws ≡ flat_map hint_words hints → P hints

-- P holds of the hints that these words are, after their number
abbrev pub OfCountedHints : List ℕ → (List Hint → Type 0) → Type 0
OfCountedHints ws P = (hints : List Hint) → AreSpelledHints hints → words_after ws ≡ decimal (length hints) ∷ flat_map hint_words hints → P hints

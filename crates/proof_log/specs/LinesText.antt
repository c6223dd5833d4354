-- The one text of lines: words with a space between each two.
use Rattle.std.specs.Prelude.{ℕ, Bool, List, [], ◌∷◌, ◌++◌, length, map, codes, if◌then◌else◌, ℤ}
use Rattle.std.specs.Fmt.{decimal, signed_decimal}
use Rattle.std.specs.List.{flat_map, join_with_byte}
use Rattle.mt_model.specs.declared.step.Step.{Step}
use Rattle.mt_model.specs.declared.step.Step.TheVariants as step
use Rattle.axiom_rules.specs.declared.literal.Atom.{Atom}
use Rattle.axiom_rules.specs.declared.literal.Atom.TheVariants as atom
use Rattle.axiom_rules.specs.declared.literal.Literal.{Literal}
use Rattle.axiom_rules.specs.declared.rule.Rule.{Rule}
use Rattle.proof_log.specs.declared.line.Hint.{Hint}
use Rattle.proof_log.specs.declared.line.Hint.TheVariants as hint
use Rattle.proof_log.specs.declared.line.Line.{Line}
use Rattle.proof_log.specs.declared.line.Line.TheVariants as line
use Rattle.proof_log.specs.Spelled.{used_arguments, written_bound}

abbrev pub space : ℕ
space = 32

abbrev pub newline : ℕ
newline = 10

-- a word is a list of bytes
abbrev pub Word : Type 0
Word = List ℕ

-- words, each after a space
abbrev pub spaced : List Word → List ℕ
spaced words = flat_map (λ w. space ∷ w) words

-- numbers, a word each
abbrev pub number_words : List ℕ → List Word
number_words ns = map decimal ns

-- t_e - t_f <= c
abbrev pub order_words : ℕ → ℕ → ℤ → List Word
order_words e f c = codes "order" ∷ decimal e ∷ decimal f ∷ signed_decimal c ∷ []

-- the word of a step, and its numbers
abbrev pub step_words : Step → List Word
step_words (step.Low e) = codes "low" ∷ decimal e ∷ []
step_words (step.High e) = codes "high" ∷ decimal e ∷ []
step_words (step.Rise e) = codes "rise" ∷ decimal e ∷ []
step_words (step.Message e) = codes "message" ∷ decimal e ∷ []
step_words (step.Late e) = codes "late" ∷ decimal e ∷ []
step_words (step.Under e) = codes "under" ∷ decimal e ∷ []
step_words (step.Over e) = codes "over" ∷ decimal e ∷ []
step_words (step.Extra k) = codes "extra" ∷ decimal k ∷ []
step_words (step.Order e f c) = order_words e f c

-- the sign of a sense, `+` or `-`, directly before a word
abbrev pub signed_word : Bool → Word → Word
signed_word positive word = (if positive then 43 else 45) ∷ word

-- an order literal is the constraint that it states, without a sign; the negation of t_e - t_f <= c is t_f - t_e <= -c - 1
abbrev pub order_literal_words : Bool → ℕ → ℕ → ℤ → List Word
order_literal_words positive e f c = if positive then order_words e f (written_bound positive c) else order_words f e (written_bound positive c)

-- the literal of a sense of an atom
abbrev pub atom_words : Bool → Atom → List Word
atom_words positive (atom.Order e f c) = order_literal_words positive e f c
atom_words positive (atom.Node k e) = signed_word positive (codes "node") ∷ decimal k ∷ decimal e ∷ []
atom_words positive (atom.First e) = signed_word positive (codes "first") ∷ decimal e ∷ []
atom_words positive (atom.Same e x) = signed_word positive (codes "same") ∷ decimal e ∷ decimal x ∷ []
atom_words positive (atom.Wit k i j) = signed_word positive (codes "wit") ∷ decimal k ∷ decimal i ∷ decimal j ∷ []
atom_words positive (atom.Span k i j) = signed_word positive (codes "span") ∷ decimal k ∷ decimal i ∷ decimal j ∷ []
atom_words positive (atom.Gap k i m) = signed_word positive (codes "gap") ∷ decimal k ∷ decimal i ∷ decimal m ∷ []

abbrev pub literal_words : Literal → List Word
literal_words l = atom_words l.positive l.atom

-- a rule's number and the arguments that it uses
abbrev pub rule_words : Rule → List Word
rule_words r = decimal r.number ∷ number_words (used_arguments r)

abbrev pub hint_words : Hint → List Word
hint_words (hint.Line n) = codes "line" ∷ decimal n ∷ []
hint_words (hint.Rule r) = codes "rule" ∷ rule_words r

-- `cycle`, the number of steps, and the steps; or `learn`, the number of literals, the literals, the number of hints, and the hints
abbrev pub line_words : Line → List Word
line_words (line.Cycle steps) = codes "cycle" ∷ decimal (length steps) ∷ flat_map step_words steps
line_words (line.Learn lits hints) =
    codes "learn" ∷ decimal (length lits) ∷ (flat_map literal_words lits ++ decimal (length hints) ∷ flat_map hint_words hints)

-- the words of a line with one space between each two, and a newline
abbrev pub line_text : Line → List ℕ
line_text l = join_with_byte space (line_words l) ++ newline ∷ []

-- a line after another
abbrev pub lines_text : List Line → List ℕ
lines_text lines = flat_map line_text lines

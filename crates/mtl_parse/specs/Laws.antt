-- Laws of the grammar and of readings.
use Rattle.std.specs.Prelude.{◌≡◌, ℕ, List, map, Result, Err}
use Rattle.mt_model.specs.Form.{Form, propositions_of}
use Rattle.mtl_parse.specs.declared.fault.FormulaFault.{FormulaFault}
use Rattle.mtl_parse.specs.declared.fault.FormulaFault.TheVariants as fault
use Rattle.mtl_parse.specs.Tokens.{Placed, Token, Word}
use Rattle.mtl_parse.specs.Grammar.{Implication, Reads}
use Rattle.mtl_parse.specs.FormulaOf.{FormulaOf, tokens_in}
use Rattle.mtl_parse.specs.Places.{before_dots}

-- tokens are at most one formula
abbrev pub TokensAreUnambiguous : Type 0
TokensAreUnambiguous = (ts : List Token) (f g : Form) → Reads Implication ts f → Reads Implication ts g → f ≡ g

-- each text is a formula, or has a fault
abbrev pub TextsHaveReadings : Type 0
TextsHaveReadings = (text : List ℕ) → (r : Result Form FormulaFault) × FormulaOf text r

-- a text is at most one formula or has at most one fault, and not both
abbrev pub TextsAreUnambiguous : Type 0
TextsAreUnambiguous = (text : List ℕ) (r s : Result Form FormulaFault) → FormulaOf text r → FormulaOf text s → r ≡ s

-- in a formula's tokens the ones that a dot follows are the hosts of its propositions, in order
abbrev pub HostsStandBeforeDots : Type 0
HostsStandBeforeDots = (ps : List Placed) (f : Form) → Reads Implication (tokens_in ps) f → tokens_in (before_dots ps) ≡ map (λ p. Word p.host) (propositions_of f)

-- want of memory is no fault of a text
abbrev pub NoTextLacksMemory : Type 0
NoTextLacksMemory = (text : List ℕ) → FormulaOf text (Err fault.Memory) → ⊥

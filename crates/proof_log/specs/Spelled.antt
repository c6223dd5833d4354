-- Which steps, literals, hints and lines have a spelling.
use Rattle.std.specs.Prelude.{◌≡◌, ◌≢◌, ◌^◌, ◌<◌, ℕ, Bool, true, false, List, length, take, drop, All, AllPairs, ℤ, ◌-ℤ◌, neg_ℤ, pos}
use Rattle.mt_model.specs.declared.limits.TheConstants.{MAX_ORDER}
use Rattle.mt_model.specs.declared.step.Step.{Step}
use Rattle.mt_model.specs.declared.step.Step.TheVariants as step
use Rattle.mt_model.specs.Log.{IsWithin}
use Rattle.axiom_rules.specs.declared.literal.Atom.{Atom}
use Rattle.axiom_rules.specs.declared.literal.Atom.TheVariants as atom
use Rattle.axiom_rules.specs.declared.literal.Literal.{Literal}
use Rattle.axiom_rules.specs.declared.rule.Rule.{Rule}
use Rattle.axiom_rules.specs.Clauses.{argument_count}
use Rattle.proof_log.specs.declared.line.Hint.{Hint}
use Rattle.proof_log.specs.declared.line.Hint.TheVariants as hint
use Rattle.proof_log.specs.declared.line.Line.{Line}
use Rattle.proof_log.specs.declared.line.Line.TheVariants as line

-- a number below 2^32
abbrev pub IsNumber : ℕ → Type 0
IsNumber n = n < 2 ^ 32

-- t_e - t_f <= c for two different events, with a bound of magnitude up to 10^21
pub record IsOrder (e f : ℕ) (c : ℤ) : Type 0 where
  pub first : IsNumber e
  pub second : IsNumber f
  pub apart : e ≢ f
  pub bound : IsWithin MAX_ORDER c

-- a step has a spelling
abbrev pub IsSpelledStep : Step → Type 0
IsSpelledStep (step.Low e) = IsNumber e
IsSpelledStep (step.High e) = IsNumber e
IsSpelledStep (step.Rise e) = IsNumber e
IsSpelledStep (step.Message e) = IsNumber e
IsSpelledStep (step.Late e) = IsNumber e
IsSpelledStep (step.Under e) = IsNumber e
IsSpelledStep (step.Over e) = IsNumber e
IsSpelledStep (step.Extra k) = IsNumber k
IsSpelledStep (step.Order e f c) = IsOrder e f c

-- the bound in the text of an order literal, by the literal's sense: that of its atom, or that of the atom's negation
abbrev pub written_bound : Bool → ℤ → ℤ
written_bound true c = c
written_bound false c = neg_ℤ c -ℤ pos 1

-- an order atom has its smaller event first; its literal of a sense has its text's bound in range
pub record IsOrderAtom (positive : Bool) (e f : ℕ) (c : ℤ) : Type 0 where
  pub smaller_first : e < f
  pub second : IsNumber f
  pub bound : IsWithin MAX_ORDER (written_bound positive c)

-- an atom of one instant has its smaller event first
pub record IsSameAtom (e x : ℕ) : Type 0 where
  pub smaller_first : e < x
  pub second : IsNumber x

-- the literal of a sense of an atom has a spelling
abbrev pub IsSpelledAtom : Bool → Atom → Type 0
IsSpelledAtom positive (atom.Order e f c) = IsOrderAtom positive e f c
IsSpelledAtom positive (atom.Node k e) = IsNumber k × IsNumber e
IsSpelledAtom positive (atom.First e) = IsNumber e
IsSpelledAtom positive (atom.Same e x) = IsSameAtom e x
IsSpelledAtom positive (atom.Wit k i j) = IsNumber k × IsNumber i × IsNumber j
IsSpelledAtom positive (atom.Span k i j) = IsNumber k × IsNumber i × IsNumber j
IsSpelledAtom positive (atom.Gap k i m) = IsNumber k × IsNumber i × IsNumber m

-- a literal has a spelling
abbrev pub IsSpelledLiteral : Literal → Type 0
IsSpelledLiteral l = IsSpelledAtom l.positive l.atom

-- the arguments that a rule uses, and those that it doesn't
abbrev pub used_arguments : Rule → List ℕ
used_arguments r = take (argument_count r.number) r.args

abbrev pub unused_arguments : Rule → List ℕ
unused_arguments r = drop (argument_count r.number) r.args

-- a rule has a spelling: a number up to 255 and four arguments, those that it doesn't use being 0
pub record IsSpelledRule (r : Rule) : Type 0 where
  pub number : r.number < 2 ^ 8
  pub four : length r.args ≡ 4
  pub used : All IsNumber (used_arguments r)
  pub unused : All (λ n. n ≡ 0) (unused_arguments r)

-- a hint has a spelling
abbrev pub IsSpelledHint : Hint → Type 0
IsSpelledHint (hint.Line n) = IsNumber n
IsSpelledHint (hint.Rule r) = IsSpelledRule r

-- hints have a spelling: there are fewer than 2^32, and each has one
pub record AreSpelledHints (hints : List Hint) : Type 0 where
  pub count : IsNumber (length hints)
  pub each : All IsSpelledHint hints

-- a Cycle line has a spelling: so have its steps, of which there are fewer than 2^32
pub record IsSpelledCycle (steps : List Step) : Type 0 where
  pub count : IsNumber (length steps)
  pub each : All IsSpelledStep steps

-- a Learn line has a spelling: so have its literals and its hints, of which there are fewer than 2^32 each, and no atom stands twice
pub record IsSpelledLearn (lits : List Literal) (hints : List Hint) : Type 0 where
  pub lit_count : IsNumber (length lits)
  pub hint_count : IsNumber (length hints)
  pub each_lit : All IsSpelledLiteral lits
  pub each_hint : All IsSpelledHint hints
  pub once : AllPairs (λ l m. m.atom ≡ l.atom → ⊥) lits

-- a line has a spelling
abbrev pub IsSpelled : Line → Type 0
IsSpelled (line.Cycle steps) = IsSpelledCycle steps
IsSpelled (line.Learn lits hints) = IsSpelledLearn lits hints

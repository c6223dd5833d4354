-- What a reading finds at the front of words that stand in a text, each after a space.
use Rattle.std.specs.Prelude.{◌≡◌, ℕ, List, map, Some, None}
use Rattle.mt_model.specs.declared.step.Step.{Step}
use Rattle.axiom_rules.specs.declared.literal.Atom.{Atom}
use Rattle.axiom_rules.specs.declared.literal.Literal.{Literal}
use Rattle.proof_log.specs.declared.line.Hint.{Hint}
use Rattle.proof_log.specs.LinesText.{Word}
use Rattle.proof_log.specs.Reading.{Reading, constraint_in, counted_in, hint_in, literal_in, literal_of, made, step_in, step_of, words_after}

-- this is found, and the rest are the words after it
abbrev pub Finds : {X : Type 0} → (List Word → Reading X) → List ℕ → X → List ℕ → Type 0
Finds reading words found rest = reading (words_after words) ≡ Some (found, words_after rest)

-- nothing is found
abbrev pub FindsNone : {X : Type 0} → (List Word → Reading X) → List ℕ → Type 0
FindsNone reading words = reading (words_after words) ≡ None

-- an order step, after its first word
abbrev pub order_step_in : List Word → Reading Step
order_step_in ws = made step_of (constraint_in ws)

-- an order literal, after its first word
abbrev pub order_literal_in : List Word → Reading Literal
order_literal_in ws = made literal_of (constraint_in ws)

-- a number, and so many steps, literals or hints
abbrev pub steps_in : List Word → Reading (List Step)
steps_in ws = counted_in step_in ws

abbrev pub literals_in : List Word → Reading (List Literal)
literals_in ws = counted_in literal_in ws

abbrev pub hints_in : List Word → Reading (List Hint)
hints_in ws = counted_in hint_in ws

-- literals are found, these are their atoms, and the rest are the words after them
abbrev pub FindsAtoms : List ℕ → List Atom → List ℕ → Type 0
FindsAtoms words atoms rest = (lits : List Literal) × Finds literals_in words lits rest × (atoms ≡ map (λ (l : Literal). l.atom) lits)

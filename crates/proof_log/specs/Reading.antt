-- What is read at the front of a list of words, and the words after it.
use Rattle.std.specs.Prelude.{ℕ, zero, suc, ◌^◌, ◌==◌, nat_lt, Bool, true, false, List, [], ◌∷◌, bytes_eq, codes, Option, Some, None, option_map, option_and_then, if◌then◌else◌, ℤ}
use Rattle.std.specs.List.{slice_split}
use Rattle.memchr.specs.Find.{is_byte}
use Rattle.mt_model.specs.declared.limits.TheConstants.{MAX_ORDER}
use Rattle.mt_model.specs.declared.step.Step.{Step}
use Rattle.mt_model.specs.declared.step.Step.TheVariants as step
use Rattle.decimal.specs.Numbers.{number_below, signed_up_to}
use Rattle.axiom_rules.specs.declared.literal.Atom.{Atom}
use Rattle.axiom_rules.specs.declared.literal.Atom.TheVariants as atom
use Rattle.axiom_rules.specs.declared.literal.Literal.{Literal}
use Rattle.axiom_rules.specs.declared.rule.Rule.{Rule}
use Rattle.axiom_rules.specs.Literals.{order_literal}
use Rattle.axiom_rules.specs.Clauses.{argument_count}
use Rattle.proof_log.specs.declared.line.Hint.{Hint}
use Rattle.proof_log.specs.declared.line.Hint.TheVariants as hint
use Rattle.proof_log.specs.declared.line.Line.{Line}
use Rattle.proof_log.specs.declared.line.Line.TheVariants as line
use Rattle.proof_log.specs.declared.item.Constraint.{Constraint}
use Rattle.proof_log.specs.LinesText.{Word, space}

-- the words after a word, from the space that ends it on
abbrev pub words_after : List ℕ → List Word
words_after [] = []
words_after (b ∷ bs) = slice_split (is_byte space) bs

-- what was read, and the words after it
abbrev pub Reading : Type 0 → Type 0
Reading X = Option (X × List Word)

-- what was read, as something made of it
abbrev pub made : {X Y : Type 0} → (X → Y) → Reading X → Reading Y
made make reading = option_map (λ r. (make r.0, r.1)) reading

-- a number below 2^32
abbrev pub number_in : List Word → Reading ℕ
number_in [] = None
number_in (w ∷ ws) = option_map (λ n. (n, ws)) (number_below (2 ^ 32) w)

-- a number below 2^8
abbrev pub byte_in : List Word → Reading ℕ
byte_in [] = None
byte_in (w ∷ ws) = option_map (λ n. (n, ws)) (number_below (2 ^ 8) w)

-- a signed number of magnitude up to 10^21
abbrev pub bound_in : List Word → Reading ℤ
bound_in [] = None
bound_in (w ∷ ws) = option_map (λ c. (c, ws)) (signed_up_to MAX_ORDER w)

-- two numbers
abbrev pub two_in : List Word → Reading (ℕ × ℕ)
two_in ws = option_and_then (λ a. made (λ n. (a.0, n)) (number_in a.1)) (number_in ws)

-- two numbers, the smaller first
abbrev pub rising_in : List Word → Reading (ℕ × ℕ)
rising_in ws = option_and_then (λ a. if nat_lt a.0.0 a.0.1 then Some a else None) (two_in ws)

-- three numbers
abbrev pub three_in : List Word → Reading (ℕ × ℕ × ℕ)
three_in ws = option_and_then (λ a. made (λ n. (a.0.0, a.0.1, n)) (number_in a.1)) (two_in ws)

-- two different events and a bound
abbrev pub constraint_in : List Word → Reading Constraint
constraint_in ws =
    option_and_then (λ a. if a.0.0 == a.0.1 then None else made (λ c. record { e = a.0.0; f = a.0.1; c = c }) (bound_in a.1)) (two_in ws)

abbrev pub step_of : Constraint → Step
step_of x = step.Order x.e x.f x.c

abbrev pub literal_of : Constraint → Literal
literal_of x = order_literal x.e x.f x.c

-- a step
abbrev pub step_in : List Word → Reading Step
step_in [] = None
step_in (w ∷ ws) =
    if bytes_eq w (codes "low") then made step.Low (number_in ws)
    else if bytes_eq w (codes "high") then made step.High (number_in ws)
    else if bytes_eq w (codes "rise") then made step.Rise (number_in ws)
    else if bytes_eq w (codes "message") then made step.Message (number_in ws)
    else if bytes_eq w (codes "late") then made step.Late (number_in ws)
    else if bytes_eq w (codes "under") then made step.Under (number_in ws)
    else if bytes_eq w (codes "over") then made step.Over (number_in ws)
    else if bytes_eq w (codes "extra") then made step.Extra (number_in ws)
    else if bytes_eq w (codes "order") then made step_of (constraint_in ws)
    else None

-- the atom of a name
abbrev pub atom_in : Word → List Word → Reading Atom
atom_in name ws =
    if bytes_eq name (codes "node") then made (λ n. atom.Node n.0 n.1) (two_in ws)
    else if bytes_eq name (codes "first") then made atom.First (number_in ws)
    else if bytes_eq name (codes "same") then made (λ n. atom.Same n.0 n.1) (rising_in ws)
    else if bytes_eq name (codes "wit") then made (λ n. atom.Wit n.0 n.1 n.2) (three_in ws)
    else if bytes_eq name (codes "span") then made (λ n. atom.Span n.0 n.1 n.2) (three_in ws)
    else if bytes_eq name (codes "gap") then made (λ n. atom.Gap n.0 n.1 n.2) (three_in ws)
    else None

-- the literal of an atom
abbrev pub literal_with : Bool → Atom → Literal
literal_with positive a = record { atom = a; positive = positive }

-- a sign directly before an atom's name
abbrev pub signed_in : Word → List Word → Reading Literal
signed_in [] ws = None
signed_in (b ∷ name) ws =
    if b == 43 then made (literal_with true) (atom_in name ws) else if b == 45 then made (literal_with false) (atom_in name ws) else None

-- a literal
abbrev pub literal_in : List Word → Reading Literal
literal_in [] = None
literal_in (w ∷ ws) = if bytes_eq w (codes "order") then made literal_of (constraint_in ws) else signed_in w ws

-- an argument: 0 and no word where it is not used
abbrev pub argument_in : Bool → List Word → Reading ℕ
argument_in used ws = if used then number_in ws else Some (0, ws)

-- the arguments of a rule that uses so many
abbrev pub arguments_in : ℕ → List Word → Reading (List ℕ)
arguments_in count ws =
    option_and_then (λ a. option_and_then (λ b. option_and_then (λ c. made (λ d. a.0 ∷ b.0 ∷ c.0 ∷ d ∷ []) (argument_in (nat_lt 3 count) c.1)) (argument_in (nat_lt 2 count) b.1)) (argument_in (nat_lt 1 count) a.1)) (argument_in (nat_lt 0 count) ws)

-- a rule's number and its arguments
abbrev pub rule_in : List Word → Reading Rule
rule_in ws = option_and_then (λ n. made (λ args. record { number = n.0; args = args }) (arguments_in (argument_count n.0) n.1)) (byte_in ws)

-- a hint
abbrev pub hint_in : List Word → Reading Hint
hint_in [] = None
hint_in (w ∷ ws) =
    if bytes_eq w (codes "line") then made hint.Line (number_in ws)
    else if bytes_eq w (codes "rule") then made hint.Rule (rule_in ws)
    else None

-- so many items
abbrev pub items_in : {X : Type 0} → (List Word → Reading X) → ℕ → List Word → Reading (List X)
items_in read zero ws = Some ([], ws)
items_in read (suc count) ws = option_and_then (λ x. made (λ xs. x.0 ∷ xs) (items_in read count x.1)) (read ws)

-- a number, and so many items
abbrev pub counted_in : {X : Type 0} → (List Word → Reading X) → List Word → Reading (List X)
counted_in read ws = option_and_then (λ n. items_in read n.0 n.1) (number_in ws)

-- what was read, where no word is left
abbrev pub whole : {X : Type 0} → Reading X → Option X
whole None = None
whole (Some (x, [])) = Some x
whole (Some (x, w ∷ ws)) = None

-- the literals and the hints of a Learn line
abbrev pub learn_in : List Word → Reading Line
learn_in ws = option_and_then (λ lits. made (λ hints. line.Learn lits.0 hints) (counted_in hint_in lits.1)) (counted_in literal_in ws)

-- a line, of which an atom may stand twice
abbrev pub line_in : List Word → Option Line
line_in [] = None
line_in (w ∷ ws) =
    if bytes_eq w (codes "cycle") then whole (made line.Cycle (counted_in step_in ws))
    else if bytes_eq w (codes "learn") then whole (learn_in ws)
    else None

-- What makes a line right, the first wrong line, and which lists of lines refute and derive. Lines count from 1.
use Rattle.std.specs.Prelude.{◌≡◌, ◌⊎◌, ℕ, zero, suc, ◌-◌, ◌<◌, ◌≤◌, nat_lt, Bool, IsTrue, ◌&&◌, if◌then◌else◌, List, [], length, map, All, Option, Some, None, is_some, option_map, slice_get}
use Rattle.std.specs.List.{filter_map}
use Rattle.std.specs.Result.{result_ok}
use Rattle.mt_model.specs.declared.step.Step.{Step}
use Rattle.mt_model.specs.declared.step.Step.TheVariants as step
use Rattle.mt_model.specs.Form.{Form}
use Rattle.mt_model.specs.Log.{Logged}
use Rattle.mt_model.specs.Walks.{Conflict}
use Rattle.hint_refutation.specs.Hints.{Refutes as HintsRefute}
use Rattle.axiom_rules.specs.declared.literal.Atom.{Atom}
use Rattle.axiom_rules.specs.declared.literal.Atom.TheVariants as atom
use Rattle.axiom_rules.specs.declared.literal.Literal.{Literal}
use Rattle.axiom_rules.specs.Clauses.{clause_of}
use Rattle.axiom_rules.specs.Literals.{negated, order_literal}
use Rattle.axiom_rules.specs.Parts.{each_once}
use Rattle.axiom_rules.specs.NodeShapes.{reach_in, shape_at}
use Rattle.axiom_rules.specs.Sought.{Sought, sought_of}
use Rattle.proof_log.specs.declared.line.Hint.{Hint}
use Rattle.proof_log.specs.declared.line.Hint.TheVariants as hint
use Rattle.proof_log.specs.declared.line.Line.{Line}
use Rattle.proof_log.specs.declared.line.Line.TheVariants as line
use Rattle.proof_log.specs.Spelled.{IsSpelled}

-- the negation of an order step; a bound of the log has none
abbrev pub negated_step : Step → Option Literal
negated_step (step.Order e f c) = Some (negated (order_literal e f c))
negated_step (step.Low e) = None
negated_step (step.High e) = None
negated_step (step.Rise e) = None
negated_step (step.Message e) = None
negated_step (step.Late e) = None
negated_step (step.Under e) = None
negated_step (step.Over e) = None
negated_step (step.Extra k) = None

-- the clause of a line: the negations of its order steps, each once, or its literals
abbrev pub clause_of_line : Line → List Literal
clause_of_line (line.Cycle steps) = each_once (filter_map negated_step steps)
clause_of_line (line.Learn lits hints) = lits

-- line n
abbrev pub line_at : List Line → ℕ → Option Line
line_at lines zero = None
line_at lines (suc n) = slice_get lines n

-- line n is there, and its clause is empty
abbrev pub IsEmptyAt : List Line → ℕ → Type 0
IsEmptyAt lines n = option_map clause_of_line (line_at lines n) ≡ Some []

-- the clause of a hint of line n: that of a line before line n, or that of a rule that has one
abbrev pub clause_of_hint : Sought → List Line → ℕ → Hint → Option (List Literal)
clause_of_hint s lines n (hint.Line m) = if nat_lt m n then option_map clause_of_line (line_at lines m) else None
clause_of_hint s lines n (hint.Rule r) = result_ok (clause_of s r)

-- there is such an event, such a node, and such an until or since node
abbrev pub is_event : Sought → ℕ → Bool
is_event s e = nat_lt e (length s.log.rows)

abbrev pub is_node : Sought → ℕ → Bool
is_node s k = nat_lt k (length s.trees)

abbrev pub is_reach : Sought → ℕ → Bool
is_reach s k = is_some (reach_in (shape_at s k))

-- an atom names events and nodes that there are, and until or since nodes where it is about these
abbrev pub is_in_range : Sought → Atom → Bool
is_in_range s (atom.Order e f c) = is_event s e && is_event s f
is_in_range s (atom.Node k e) = is_node s k && is_event s e
is_in_range s (atom.First e) = is_event s e
is_in_range s (atom.Same e x) = is_event s e && is_event s x
is_in_range s (atom.Wit k i j) = is_reach s k && is_event s i && is_event s j
is_in_range s (atom.Span k i j) = is_reach s k && is_event s i && is_event s j
is_in_range s (atom.Gap k i m) = is_reach s k && is_event s i && is_event s m

-- these are the clauses of the hints of line n, each of which has one
abbrev pub HasClauses : Sought → List Line → ℕ → List Hint → List (List Literal) → Type 0
HasClauses s lines n hints clauses = map (clause_of_hint s lines n) hints ≡ map Some clauses

-- the literals are in range, each hint has a clause, and the clauses refute the negations of the literals
pub record IsLearnt (s : Sought) (lines : List Line) (n : ℕ) (lits : List Literal) (hints : List Hint) : Type 0 where
  pub in_range : All (λ l. IsTrue (is_in_range s l.atom)) lits
  pub clauses : List (List Literal)
  pub cited : HasClauses s lines n hints clauses
  pub refuted : HintsRefute negated (map negated lits) clauses

-- what a line has to show as line n: a conflict, or that its clause is learnt
abbrev pub IsShown : Sought → List Line → ℕ → Line → Type 0
IsShown s lines n (line.Cycle steps) = Conflict s.log steps
IsShown s lines n (line.Learn lits hints) = IsLearnt s lines n lits hints

module _ (log : Logged) (f : Form) (v : Bool) (lines : List Line) where
  -- line n is right
  pub record RightLine (n : ℕ) : Type 0 where
    pub line : Line
    pub stands : line_at lines n ≡ Some line
    pub spelled : IsSpelled line
    pub shown : IsShown (sought_of log f v) lines n line

  -- line n is right, and the clause of the line before it, where there is one, is not empty
  pub record IsGood (n : ℕ) : Type 0 where
    pub right : RightLine n
    pub open_before : IsEmptyAt lines (n - 1) → ⊥

  -- line n is there, is not right or comes after an empty clause, and is the first such line
  pub record FirstWrong (n : ℕ) : Type 0 where
    pub some : 1 ≤ n
    pub within : n ≤ length lines
    pub wrong : (RightLine n → ⊥) ⊎ IsEmptyAt lines (n - 1)
    pub first : (m : ℕ) → 1 ≤ m → m < n → IsGood m

  -- no line is wrong
  abbrev pub NoneWrong : Type 0
  NoneWrong = (n : ℕ) → 1 ≤ n → n ≤ length lines → IsGood n

  -- no line is wrong, and the clause of the last one is empty
  pub record Refutes : Type 0 where
    pub none_wrong : NoneWrong
    pub last : IsEmptyAt lines (length lines)

  -- no line is wrong, and no clause is empty
  pub record Derives : Type 0 where
    pub none_wrong : NoneWrong
    pub none_empty : (n : ℕ) → IsEmptyAt lines n → ⊥

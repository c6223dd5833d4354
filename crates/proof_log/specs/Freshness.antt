-- Learn lines that bring something new: fresh ones, whose clause unit propagation doesn't give yet, and used ones, whose clause is
-- the resolvent of their hints. A number of such lines is what a spent budget shows. Lines count from 1.
use Rattle.std.specs.Prelude.{◌≡◌, ℕ, ◌-◌, Bool, true, false, List, [], ◌∷◌, ◌++◌, map, take, All, Option, Some, None, count_by}
use Rattle.std.specs.List.{filter_map, flat_map}
use Rattle.std.specs.Result.{result_ok}
use Rattle.mt_model.specs.Form.{Form}
use Rattle.mt_model.specs.Log.{Logged}
use Rattle.hint_refutation.specs.Hints.{Used as HintsUsed}
use Rattle.hint_refutation.specs.Propagation.{Misses}
use Rattle.axiom_rules.specs.declared.literal.Literal.{Literal}
use Rattle.axiom_rules.specs.declared.rule.Rule.{Rule}
use Rattle.axiom_rules.specs.Clauses.{clause_of}
use Rattle.axiom_rules.specs.Literals.{negated}
use Rattle.axiom_rules.specs.Occurs.{OccursInRules}
use Rattle.axiom_rules.specs.Sought.{Sought, sought_of}
use Rattle.proof_log.specs.declared.line.Hint.{Hint}
use Rattle.proof_log.specs.declared.line.Hint.TheVariants as hint
use Rattle.proof_log.specs.declared.line.Line.{Line}
use Rattle.proof_log.specs.declared.line.Line.TheVariants as line
use Rattle.proof_log.specs.Derivations.{Derives, HasClauses, line_at}

-- a line is a Learn line
abbrev pub is_learn : Line → Bool
is_learn (line.Cycle steps) = false
is_learn (line.Learn lits hints) = true

-- how many of the lines are Learn lines
abbrev pub learn_lines : List Line → ℕ
learn_lines lines = count_by is_learn lines

-- the clause of a Learn line
abbrev pub learnt_clause : Line → Option (List Literal)
learnt_clause (line.Cycle steps) = None
learnt_clause (line.Learn lits hints) = Some lits

-- the clauses of those of the lines that are Learn lines
abbrev pub learnt : List Line → List (List Literal)
learnt lines = filter_map learnt_clause lines

-- the rule that a hint names, if it names one
abbrev pub rule_of_hint : Hint → Option Rule
rule_of_hint (hint.Line m) = None
rule_of_hint (hint.Rule r) = Some r

-- the rules that the hints of a line name
abbrev pub rules_of_line : Line → List Rule
rules_of_line (line.Cycle steps) = []
rules_of_line (line.Learn lits hints) = filter_map rule_of_hint hints

-- the rules that hints of the lines name
abbrev pub named_rules : List Line → List Rule
named_rules lines = flat_map rules_of_line lines

-- the clauses of those of the rules that have one
abbrev pub clauses_of : Sought → List Rule → List (List Literal)
clauses_of s rules = filter_map (λ r. result_ok (clause_of s r)) rules

-- the clauses of the rules, of those that hints of lines 1 to n name, and of the Learn lines before line n
abbrev pub known_before : Sought → List Rule → List Line → ℕ → List (List Literal)
known_before s rules lines n = clauses_of s (rules ++ named_rules (take n lines)) ++ learnt (take (n - 1) lines)

-- unit propagation over the clauses, from the negations of all literals but the first, reaches neither a false clause nor the
-- first literal; there is a first one
abbrev pub IsNew : List (List Literal) → List Literal → Type 0
IsNew clauses [] = ⊥
IsNew clauses (first ∷ others) = Misses negated clauses (map negated others) first

-- line n is a Learn line
pub record IsLearnAt (lines : List Line) (n : ℕ) : Type 0 where
  pub lits : List Literal
  pub hints : List Hint
  pub stands : line_at lines n ≡ Some (line.Learn lits hints)

module _ (log : Logged) (f : Form) (v : Bool) where
  -- line n is a Learn line that is the resolvent of its hints: each literal stands in the clause of one of them, and what each but
  -- the last makes true stands negated in the clause of a later one
  pub record Used (lines : List Line) (n : ℕ) : Type 0 where
    pub learn : IsLearnAt lines n
    pub clauses : List (List Literal)
    pub cited : HasClauses (sought_of log f v) lines n learn.hints clauses
    pub resolvent : HintsUsed negated learn.lits clauses

  module _ (rules : List Rule) where
    -- line n is a Learn line whose clause is new to these rules, those that hints up to its own name, and the earlier Learn lines
    pub record Fresh (lines : List Line) (n : ℕ) : Type 0 where
      pub learn : IsLearnAt lines n
      pub is_new : IsNew (known_before (sought_of log f v) rules lines n) learn.lits

    -- the lines derive, so that none of their clauses is empty; as many as the conflicts are Learn lines, and each of these is
    -- fresh and used and has no atoms but those in clauses of rules
    pub record Spends (conflicts : ℕ) (lines : List Line) : Type 0 where
      pub derives : Derives log f v lines
      pub count : learn_lines lines ≡ conflicts
      pub fresh : (n : ℕ) → IsLearnAt lines n → Fresh lines n
      pub used : (n : ℕ) → IsLearnAt lines n → Used lines n
      pub occur : All (All (λ l. OccursInRules (sought_of log f v) l.atom)) (learnt lines)

-- How the hints of a line are taken, and when a line is right.
use Rattle.std.specs.Prelude.{◌≡◌, ◌+◌, ℕ, List, length, All, MatchOption}
use Rattle.hint_refutation.specs.Hints.{Refutes}
use Rattle.axiom_rules.specs.declared.literal.Literal.{Literal}
use Rattle.axiom_rules.specs.Literals.{negated}
use Rattle.axiom_rules.specs.Sought.{Sought}
use Rattle.proof_log.specs.declared.line.Hint.{Hint}
use Rattle.proof_log.specs.declared.line.Line.{Line}
use Rattle.proof_log.specs.Derivations.{HasClauses, IsEmptyAt, IsLearnt, IsShown, clause_of_hint}
use Rattle.proof_log.specs.Spelled.{IsNumber, IsSpelled, IsSpelledLiteral}
use Rattle.proof_check.specs.declared.refutation.Taken.{Taken}
use Rattle.proof_check.specs.declared.refutation.Taken.TheVariants as taken
use Rattle.proof_check.specs.Keeping.{lines_with}
use Rattle.proof_check.specs.Refutation.{IsTaken}
use Rattle.std.specs.Result.{result_ok}
use Rattle.axiom_rules.specs.Clauses.{clause_of}
use Rattle.axiom_rules.specs.declared.rule.Rule.{Rule}

-- what the clause of a rule does to the literals that are assumed; a rule without a clause is stuck
abbrev pub IsRuleTaken : Sought → Rule → List Literal → List Literal → Taken → Type 0
IsRuleTaken s rule old new found = MatchOption (result_ok (clause_of s rule)) (found ≡ taken.Stuck) (λ clause. IsTaken old clause new found)

module _ (s : Sought) (lines : List Line) (n : ℕ) where
  -- what the clause of a hint of line n does to the literals that are assumed; a hint without a clause is stuck
  abbrev pub IsHintTaken : Hint → List Literal → List Literal → Taken → Type 0
  IsHintTaken hint old new found = MatchOption (clause_of_hint s lines n hint) (found ≡ taken.Stuck) (λ clause. IsTaken old clause new found)

  -- each of the hints of line n has a clause, and the clauses refute what is assumed
  pub record AreRefuting (assumed : List Literal) (hints : List Hint) : Type 0 where
    pub clauses : List (List Literal)
    pub cited : HasClauses s lines n hints clauses
    pub refuted : Refutes negated assumed clauses

  -- a line is right as line n: it has a spelling, and shows what it has to
  pub record IsRight (line : Line) : Type 0 where
    pub spelled : IsSpelled line
    pub shown : IsShown s lines n line

-- a line is good as the one after lines with these clauses: it is right, and the last of these clauses is not empty
pub record IsNext (s : Sought) (kept : List (List Literal)) (line : Line) : Type 0 where
  pub right : IsRight s (lines_with kept) (length kept + 1) line
  pub open_before : IsEmptyAt (lines_with kept) (length kept) → ⊥

-- literals have a spelling: there are fewer than 2^32, and each has one
pub record AreSpelledLiterals (lits : List Literal) : Type 0 where
  pub count : IsNumber (length lits)
  pub each : All IsSpelledLiteral lits

-- the hints of the line after lines with these clauses refute what is assumed
abbrev pub NextRefutes : Sought → List (List Literal) → List Literal → List Hint → Type 0
NextRefutes s kept assumed hints = AreRefuting s (lines_with kept) (length kept + 1) assumed hints

-- these literals and hints show what the line after lines with these clauses has to
abbrev pub IsNextLearnt : Sought → List (List Literal) → List Literal → List Hint → Type 0
IsNextLearnt s kept lits hints = IsLearnt s (lines_with kept) (length kept + 1) lits hints

-- Which clauses of lines are kept while later lines are judged.
use Rattle.std.specs.Prelude.{◌≡◌, ℕ, List, [], ◌∷◌, ◌++◌, drop, map}
use Rattle.hint_refutation.specs.Pieces.{last_end, pieces_from}
use Rattle.axiom_rules.specs.declared.literal.Literal.{Literal}
use Rattle.proof_log.specs.declared.line.Line.{Line}
use Rattle.proof_log.specs.declared.line.Line.TheVariants as line
use Rattle.proof_log.specs.LinesText.{Word}
use Rattle.proof_log.specs.Reading.{words_after}

-- a line with this clause
abbrev pub line_with : List Literal → Line
line_with clause = line.Learn clause []

-- lines with these clauses, which stand for the lines that have them: later lines ask for no more of an earlier one
abbrev pub lines_with : List (List Literal) → List Line
lines_with clauses = map line_with clauses

-- clauses that are closed, and the literals of one that isn't yet
pub record Kept : Type 0 where
  pub closed : List (List Literal)
  pub pending : List Literal

-- each clause goes up to its end, and what follows the last end is pending
abbrev pub kept_in : List Literal → List ℕ → Kept
kept_in literals ends = record { closed = pieces_from 0 literals ends; pending = drop (last_end 0 ends) literals }

-- these clauses and none pending
abbrev pub closed_only : List (List Literal) → Kept
closed_only clauses = record { closed = clauses; pending = [] }

-- with these literals pending too
abbrev pub with_pending : Kept → List Literal → Kept
with_pending kept lits = record { closed = kept.closed; pending = kept.pending ++ lits }

-- these clauses, then one more, and none pending
abbrev pub with_closed : List (List Literal) → List Literal → Kept
with_closed clauses clause = closed_only (clauses ++ clause ∷ [])

-- the literals are pending too, and the rest are the words after them
abbrev pub ArePending : Kept → List Literal → Kept → List Word → List ℕ → Type 0
ArePending old lits new after rest = (words_after rest ≡ after) × (new ≡ with_pending old lits)

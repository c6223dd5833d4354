-- What is searched, and what is found.
use Rattle.std.specs.Prelude.{ℕ, ◌*◌, ◌<◌, ◌≤◌, List, [], ◌∷◌, length, Bool, true, false, count_by}
use Rattle.mt_model.specs.Form.{Form, IsFormula}
use Rattle.mt_model.specs.Log.{Logged, IsLog}
use Rattle.difference_graph.specs.Graphs.{HasSolution}
use Rattle.axiom_rules.specs.declared.literal.Literal.{Literal}
use Rattle.axiom_rules.specs.Sought.{sought_of}
use Rattle.proof_log.specs.declared.line.Line.{Line}
use Rattle.proof_log.specs.declared.line.Line.TheVariants as line
use Rattle.proof_log.specs.Derivations.{Refutes}
use Rattle.proof_log.specs.Freshness.{Spends}
use Rattle.mtl_encode.specs.declared.problem.Problem.{Problem}
use Rattle.mtl_encode.specs.Models.{IsModel}
use Rattle.mtl_encode.specs.Problems.{Fits}
use Rattle.cdcl_core.specs.declared.found.Found.{Found}
use Rattle.cdcl_core.specs.declared.found.Found.TheVariants as found

-- the problem fits a valid log, a valid formula and a value, and its edges alone have a solution
pub record IsPosed (p : Problem) : Type 0 where
  pub log : Logged
  pub form : Form
  pub value : Bool
  pub valid : IsLog log
  pub formula : IsFormula form
  pub fits : Fits (sought_of log form value) p
  pub solvable : HasSolution p.nodes p.edges

abbrev has_some : List Literal → Bool
has_some [] = false
has_some (l ∷ ls) = true

-- a Learn line whose clause isn't empty
abbrev pub is_lesson : Line → Bool
is_lesson (line.Cycle steps) = false
is_lesson (line.Learn lits hints) = has_some lits

-- how many of the lines are Learn lines whose clauses aren't empty
abbrev pub lessons : List Line → ℕ
lessons lines = count_by is_lesson lines

-- this holds of each valid log, and each formula and value, that the problem fits
abbrev pub OfFitting : Problem → (Logged → Form → Bool → Type 0) → Type 0
OfFitting p Holds = (log : Logged) (f : Form) (v : Bool) → IsLog log → Fits (sought_of log f v) p → Holds log f v

-- a model; or lines that refute, with fewer lessons than the budget; or lines that spend the budget over the problem's rules; of
-- lines there are at most twice as many as the budget
abbrev pub IsFound : Problem → ℕ → Logged → Form → Bool → Found → Type 0
IsFound p budget log f v (found.Model values potentials) = IsModel p values potentials
IsFound p budget log f v (found.Refuted lines) = Refutes log f v lines × (lessons lines < budget) × (length lines ≤ 2 * budget)
IsFound p budget log f v (found.Spent lines) = Spends log f v p.rules budget lines × (length lines ≤ 2 * budget)

-- the fact holds, where the budget was spent
abbrev pub IfSpent : Found → Type 0 → Type 0
IfSpent (found.Model values potentials) P = Unit {0}
IfSpent (found.Refuted lines) P = Unit {0}
IfSpent (found.Spent lines) P = P

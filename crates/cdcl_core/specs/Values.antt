-- What a search for a value of a formula finds.
use Rattle.std.specs.Prelude.{◌≡◌, ℕ, ◌*◌, ◌<◌, ◌≤◌, Bool, List, length, ℤ}
use Rattle.mt_model.specs.Form.{Form}
use Rattle.mt_model.specs.Log.{Logged}
use Rattle.mt_model.specs.Timing.{Admissible}
use Rattle.mt_model.specs.Truth.{truth}
use Rattle.skew_bounds.specs.RowTimes.{times_of}
use Rattle.skew_bounds.specs.Tight.{IsConsistent}
use Rattle.axiom_rules.specs.declared.rule.Rule.{Rule}
use Rattle.axiom_rules.specs.Sought.{sought_of}
use Rattle.proof_log.specs.declared.line.Line.{Line}
use Rattle.proof_log.specs.Derivations.{Refutes}
use Rattle.proof_log.specs.Freshness.{Spends}
use Rattle.mtl_encode.specs.declared.problem.Problem.{Problem}
use Rattle.mtl_encode.specs.Kept.{Kept}
use Rattle.mtl_encode.specs.Models.{IsModel}
use Rattle.mtl_encode.specs.Problems.{Fits}
use Rattle.cdcl_core.specs.declared.found.Found.{Found}
use Rattle.cdcl_core.specs.declared.value.Searched.{Searched}
use Rattle.cdcl_core.specs.declared.value.Searched.TheVariants as searched
use Rattle.cdcl_core.specs.Founds.{IsFound, lessons}

-- the log admits the timing, and in it the formula has the value
pub record GivesValue (log : Logged) (f : Form) (v : Bool) (t : List ℤ) : Type 0 where
  pub admissible : Admissible log t
  pub value : truth log t 0 f ≡ v

-- the lines refute that the formula has the value, with fewer clauses learnt that aren't empty than the budget, and at most
-- twice as many lines
pub record RefutesWithin (log : Logged) (f : Form) (v : Bool) (budget : ℕ) (lines : List Line) : Type 0 where
  pub refutes : Refutes log f v lines
  pub few_lessons : lessons lines < budget
  pub few : length lines ≤ 2 * budget

-- some timing is admissible, and the lines spend the budget, over the rules that are kept for the log, the formula and the value,
-- and are at most twice as many
pub record SpendsWithin (log : Logged) (f : Form) (v : Bool) (budget : ℕ) (lines : List Line) : Type 0 where
  pub consistent : IsConsistent log
  pub rules : List Rule
  pub kept : Kept log f v rules
  pub spends : Spends log f v rules budget lines
  pub few : length lines ≤ 2 * budget

-- a timing that gives the value, lines that refute it, or lines that spend the budget
abbrev pub IsSearched : Logged → Form → Bool → ℕ → Searched → Type 0
IsSearched log f v budget (searched.Timing t) = GivesValue log f v t
IsSearched log f v budget (searched.Refuted lines) = RefutesWithin log f v budget lines
IsSearched log f v budget (searched.Spent lines) = SpendsWithin log f v budget lines

-- the lines refute each value of each formula, and none of them is a lesson
abbrev pub RefuteEachValue : Logged → List Line → Type 0
RefuteEachValue log lines = (f : Form) (v : Bool) → Refutes log f v lines × (lessons lines ≡ 0)

-- what was found in a problem that log, formula and value fit, of rules that are kept for them; what satisfies it gives an admissible timing in
-- which the formula has the value
pub record IsFoundFor (log : Logged) (f : Form) (v : Bool) (budget : ℕ) (found : Found) : Type 0 where
  pub problem : Problem
  pub fits : Fits (sought_of log f v) problem
  pub kept : Kept log f v problem.rules
  pub exact : (values : List Bool) (numbers : List ℤ) → IsModel problem values numbers → GivesValue log f v (times_of (length log.rows) numbers)
  pub found_is : IsFound problem budget log f v found

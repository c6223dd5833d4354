-- Laws of derivations.
use Rattle.std.specs.Prelude.{◌≡◌, ◌≤◌, ℕ, Bool, true, List, Some, ℤ}
use Rattle.mt_model.specs.Form.{Form}
use Rattle.mt_model.specs.Log.{Logged, IsLog}
use Rattle.mt_model.specs.Timing.{Admissible}
use Rattle.mt_model.specs.Truth.{IsValue, truth}
use Rattle.formula_arena.specs.Nodes.{nodes_of}
use Rattle.axiom_rules.specs.Holds.{clause_holds}
use Rattle.proof_log.specs.declared.line.Line.{Line}
use Rattle.proof_log.specs.Derivations.{Refutes, RightLine, clause_of_line, line_at}

-- lines 1 to n are all right
abbrev pub AreRight : Logged → Form → Bool → List Line → ℕ → Type 0
AreRight log f v lines n = (m : ℕ) → 1 ≤ m → m ≤ n → RightLine log f v lines m

-- where lines 1 to n are all right, the clause of line n holds in every timing that the log admits and that gives the value
abbrev pub RightLinesHold : Type 0
RightLinesHold = (log : Logged) (f : Form) (v : Bool) (lines : List Line) (n : ℕ) (line : Line) (t : List ℤ) → IsLog log → AreRight log f v lines n → line_at lines n ≡ Some line
    → Admissible log t → truth log t 0 f ≡ v → clause_holds log t (nodes_of f) (clause_of_line line) ≡ true

-- a formula has no value that lines refute
abbrev pub RefutedIsNoValue : Type 0
RefutedIsNoValue = (log : Logged) (f : Form) (v : Bool) (lines : List Line) → IsLog log → Refutes log f v lines → IsValue log f v → ⊥

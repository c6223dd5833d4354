-- What is answered for lines.
use Rattle.std.specs.Prelude.{◌≡◌, ◌↔◌, ◌+◌, ◌-◌, ◌≤◌, ℕ, Bool, List, length, map, take, All, Some}
use Rattle.mt_model.specs.Form.{Form}
use Rattle.mt_model.specs.Log.{Logged}
use Rattle.axiom_rules.specs.declared.literal.Literal.{Literal}
use Rattle.axiom_rules.specs.Sought.{Sought, sought_of}
use Rattle.proof_log.specs.declared.line.Line.{Line}
use Rattle.proof_log.specs.Derivations.{Derives, FirstWrong, IsGood, Refutes, clause_of_line, line_at}
use Rattle.proof_log.specs.Spelled.{IsSpelled}
use Rattle.proof_check.specs.declared.check.Check.{Check}
use Rattle.proof_check.specs.declared.check.Check.TheVariants as check
use Rattle.proof_log.specs.LinesOf.{IsTextOf}

-- P holds of the log, the formula and the value for which it is sought
abbrev pub OfSought : Sought → (Logged → Form → Bool → Type 0) → Type 0
OfSought s P = (log : Logged) (f : Form) (v : Bool) → s ≡ sought_of log f v → P log f v

-- so of the lines whose text the bytes are, and of what is sought
abbrev pub OfText : Sought → List ℕ → (Logged → Form → Bool → List Line → Type 0) → Type 0
OfText s text P = (lines : List Line) → IsTextOf text lines → OfSought s (λ log f v. P log f v lines)

-- the answer is what the lines are: they refute, they derive, or this is the first wrong line
pub record IsAnswer (log : Logged) (f : Form) (v : Bool) (lines : List Line) (answer : Check) : Type 0 where
  pub refutes : (answer ≡ check.Refutes) ↔ Refutes log f v lines
  pub derives : (answer ≡ check.Derives) ↔ Derives log f v lines
  pub wrong : (n : ℕ) → (answer ≡ check.Wrong n) ↔ FirstWrong log f v lines n

-- the lines that an answer says are right: all, or those before the first wrong one
abbrev pub right_lines : Check → List Line → List Line
right_lines check.Refutes lines = lines
right_lines check.Derives lines = lines
right_lines (check.Wrong n) lines = take (n - 1) lines

-- the first n lines are good
abbrev pub AreGood : Logged → Form → Bool → List Line → ℕ → Type 0
AreGood log f v lines n = (m : ℕ) → 1 ≤ m → m ≤ n → IsGood log f v lines m

-- the first n lines are judged: they are good, and these are their clauses
pub record AreJudged (s : Sought) (lines : List Line) (n : ℕ) (kept : List (List Literal)) : Type 0 where
  pub good : OfSought s (λ log f v. AreGood log f v lines n)
  pub same : kept ≡ map clause_of_line (take n lines)

-- the first n lines have a spelling, and the next one, where there is one, has none
pub record IsSpelledFront (lines : List Line) (n : ℕ) : Type 0 where
  pub within : n ≤ length lines
  pub spelled : All IsSpelled (take n lines)
  pub next : (line : Line) → line_at lines (n + 1) ≡ Some line → IsSpelled line → ⊥

-- what lines are of which the first n are this, and the next one has no spelling
abbrev pub with_unspelled : ℕ → Check → Check
with_unspelled n check.Refutes = check.Wrong (n + 1)
with_unspelled n check.Derives = check.Wrong (n + 1)
with_unspelled n (check.Wrong k) = check.Wrong k

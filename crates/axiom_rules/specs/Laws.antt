-- Laws about the rules.
use Rattle.std.specs.Prelude.{◌≡◌, ◌≢◌, ◌+◌, ◌<◌, ◌≤◌, All, AllPairs, Bool, true, List, length, drop, ℤ, Ok, Some}
use Rattle.mt_model.specs.Form.{Form}
use Rattle.mt_model.specs.Log.{Logged, IsLog}
use Rattle.mt_model.specs.Timing.{Admissible}
use Rattle.mt_model.specs.Truth.{truth}
use Rattle.formula_arena.specs.Nodes.{nodes_of}
use Rattle.axiom_rules.specs.declared.literal.Atom.{Atom}
use Rattle.axiom_rules.specs.declared.literal.Atom.TheVariants.{Order, Node, First, Same, Wit, Span, Gap}
use Rattle.axiom_rules.specs.declared.literal.Literal.{Literal}
use Rattle.axiom_rules.specs.declared.rule.Rule.{Rule}
use Rattle.axiom_rules.specs.declared.rule.TheConstants.{MAX_RULE}
use Rattle.axiom_rules.specs.declared.rule.Subject.TheVariants.{Value}
use Rattle.axiom_rules.specs.Clauses.{argument_count, clause_of, subject_of}
use Rattle.axiom_rules.specs.Sought.{sought_of}
use Rattle.axiom_rules.specs.Holds.{clause_holds}
use Rattle.axiom_rules.specs.Sought.{Sought}

-- the clause of a rule holds in every timing that the log admits, that of a rule about the value sought in each that gives it
pub record RulesHold : Type 0 where
  pub lasting : (log : Logged) (t : List ℤ) (f : Form) (v : Bool) (rule : Rule) (c : List Literal) → IsLog log → Admissible log t
      → subject_of rule.number ≢ Some Value → clause_of (sought_of log f v) rule ≡ Ok c → clause_holds log t (nodes_of f) c ≡ true
  pub sought_value : (log : Logged) (t : List ℤ) (f : Form) (v : Bool) (rule : Rule) (c : List Literal) → IsLog log → Admissible log t → truth log t 0 f ≡ v
      → clause_of (sought_of log f v) rule ≡ Ok c → clause_holds log t (nodes_of f) c ≡ true

-- no atom stands twice
abbrev pub HasAtomsOnce : List Literal → Type 0
HasAtomsOnce c = AllPairs (λ l m. l.atom ≢ m.atom) c

-- in the clause of a rule no atom stands twice
abbrev pub ClausesHaveAtomsOnce : Type 0
ClausesHaveAtomsOnce = (s : Sought) (rule : Rule) (c : List Literal) → clause_of s rule ≡ Ok c → HasAtomsOnce c

-- an order atom is over two rows of the log, the smaller first, and so is an atom of one instant
abbrev pub IsOfRows : Sought → Atom → Type 0
IsOfRows s (Order e f c) = (e < f) × (f < length s.log.rows)
IsOfRows s (Node k e) = Unit {0}
IsOfRows s (First e) = Unit {0}
IsOfRows s (Same e x) = (e < x) × (x < length s.log.rows)
IsOfRows s (Wit k i j) = Unit {0}
IsOfRows s (Span k i j) = Unit {0}
IsOfRows s (Gap k i m) = Unit {0}

-- a rule that has a clause: its number is at most the greatest one, and the arguments that it doesn't use are 0; the clause has
-- at most as many literals as the log has rows, and five, and its order atoms and those of one instant are over rows of the log
pub record IsWithinTable (s : Sought) (rule : Rule) (c : List Literal) : Type 0 where
  pub number : rule.number ≤ MAX_RULE
  pub unused : All (λ n. n ≡ 0) (drop (argument_count rule.number) rule.args)
  pub few : length c ≤ length s.log.rows + 5
  pub orders : All (λ l. IsOfRows s l.atom) c

abbrev pub RulesAreWithinTable : Type 0
RulesAreWithinTable = (s : Sought) (rule : Rule) (c : List Literal) → clause_of s rule ≡ Ok c → IsWithinTable s rule c

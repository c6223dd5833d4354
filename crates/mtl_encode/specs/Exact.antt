-- What satisfies the rules gives a timing in which the formula has the value sought.
use Rattle.std.specs.Prelude.{◌≡◌, ℕ, Bool, true, false, not, if◌then◌else◌, List, Any, Ok, ℤ, ◌-ℤ◌, int_le}
use Rattle.std.specs.List.{list_any}
use Rattle.mt_model.specs.Form.{Form}
use Rattle.mt_model.specs.Log.{Logged, IsLog}
use Rattle.mt_model.specs.Timing.{Admissible, time_of}
use Rattle.mt_model.specs.Truth.{truth}
use Rattle.formula_arena.specs.Nodes.{nodes_of}
use Rattle.axiom_rules.specs.declared.literal.Atom.{Atom}
use Rattle.axiom_rules.specs.declared.literal.Atom.TheVariants.{Order}
use Rattle.axiom_rules.specs.declared.literal.Literal.{Literal}
use Rattle.axiom_rules.specs.declared.rule.Rule.{Rule}
use Rattle.axiom_rules.specs.Clauses.{clause_of}
use Rattle.axiom_rules.specs.Holds.{means}
use Rattle.axiom_rules.specs.Sought.{Sought, sought_of}
use Rattle.question.specs.Extremes.{AreExtremes, Extremes}
use Rattle.mtl_encode.specs.Needless.{is_needless}

-- a literal is true where the truth value of its atom is the literal's sense
abbrev pub literal_is_true : (Atom → Bool) → Literal → Bool
literal_is_true v l = if l.positive then v l.atom else not (v l.atom)

-- the truth values make a literal of the clause true
abbrev pub clause_is_true : (Atom → Bool) → List Literal → Bool
clause_is_true v c = list_any (literal_is_true v) c

-- the truth values make the clause of each rule true that has one
abbrev pub SatisfiesRules : Sought → (Atom → Bool) → Type 0
SatisfiesRules s v = (rule : Rule) (c : List Literal) → clause_of s rule ≡ Ok c → clause_is_true v c ≡ true

-- the truth values make the clause of each rule true that has one and isn't left out
abbrev pub SatisfiesKept : Sought → (Rule → Bool) → (Atom → Bool) → Type 0
SatisfiesKept s out v = (rule : Rule) (c : List Literal) → clause_of s rule ≡ Ok c → out rule ≡ false → clause_is_true v c ≡ true

-- the atom stands in the clause of some rule that isn't left out
pub record OccursInKept (s : Sought) (out : Rule → Bool) (a : Atom) : Type 0 where
  pub rule : Rule
  pub clause : List Literal
  pub is_clause : clause_of s rule ≡ Ok clause
  pub kept : out rule ≡ false
  pub stands : Any (λ l. l.atom ≡ a) clause

-- each order atom that occurs there has the truth value that the timing gives it
abbrev pub AgreesWith : Sought → (Rule → Bool) → (Atom → Bool) → List ℤ → Type 0
AgreesWith s out v t = (e f : ℕ) (c : ℤ) → OccursInKept s out (Order e f c) → v (Order e f c) ≡ int_le (time_of t e -ℤ time_of t f) c

-- truth values that satisfy the rules for a value sought that aren't needless, and a timing that the log admits and that
-- gives each order atom its truth value: in that timing the formula has the value
abbrev pub RulesAreExact : Type 0
RulesAreExact = (log : Logged) (f : Form) (value : Bool) (x : Extremes) (v : Atom → Bool) (t : List ℤ) → IsLog log → AreExtremes log x → Admissible log t
    → SatisfiesKept (sought_of log f value) (is_needless x (sought_of log f value)) v → AgreesWith (sought_of log f value) (is_needless x (sought_of log f value)) v t → truth log t 0 f ≡ value

-- and each timing that the log admits and in which the formula has the value comes so: what the atoms mean in it
-- are such truth values
abbrev pub MeaningsSatisfyRules : Type 0
MeaningsSatisfyRules = (log : Logged) (f : Form) (value : Bool) (t : List ℤ) → IsLog log → Admissible log t → truth log t 0 f ≡ value
    → SatisfiesRules (sought_of log f value) (means log t (nodes_of f)) × AgreesWith (sought_of log f value) (λ rule. false) (means log t (nodes_of f)) t

-- Laws of lines that bring something new.
use Rattle.std.specs.Prelude.{◌≡◌, ℕ, ◌^◌, ◌<◌, Bool, List, [], length, All, Any, Contains}
use Rattle.mt_model.specs.Form.{Form}
use Rattle.mt_model.specs.Log.{Logged}
use Rattle.hint_refutation.specs.Hints.{IsFalseUnder}
use Rattle.hint_refutation.specs.Propagation.{Reaches}
use Rattle.axiom_rules.specs.declared.literal.Atom.{Atom}
use Rattle.axiom_rules.specs.declared.literal.Literal.{Literal}
use Rattle.axiom_rules.specs.declared.rule.Rule.{Rule}
use Rattle.axiom_rules.specs.Literals.{negated}
use Rattle.axiom_rules.specs.Occurs.{OccursInRules}
use Rattle.axiom_rules.specs.Sought.{Sought, sought_of}
use Rattle.proof_log.specs.declared.line.Line.{Line}
use Rattle.proof_log.specs.Freshness.{Fresh, IsLearnAt, Spends, clauses_of, learnt}

-- two clauses have the same literals
pub record HaveSameLiterals (c d : List Literal) : Type 0 where
  pub into : All (Contains d) c
  pub back : All (Contains c) d

-- a fresh line hasn't the literals of an earlier Learn line
abbrev pub FreshLinesDiffer : Type 0
FreshLinesDiffer = (log : Logged) (f : Form) (v : Bool) (rules : List Rule) (lines : List Line) (m n : ℕ) (earlier : IsLearnAt lines m) (fresh : Fresh log f v rules lines n) → m < n
    → HaveSameLiterals earlier.lits fresh.learn.lits → ⊥

-- so fewer conflicts are spent than three to the power of the number of atoms, which is the number of sets of literals with
-- no atom twice
pub record SpentIsBounded : Type 0 where
  -- the atoms of the Learn lines are among these
  pub by_lines : (log : Logged) (f : Form) (v : Bool) (rules : List Rule) (conflicts : ℕ) (lines : List Line) (atoms : List Atom) → Spends log f v rules conflicts lines
      → All (All (λ l. Contains atoms l.atom)) (learnt lines) → conflicts < 3 ^ length atoms
  -- or all atoms in clauses of rules are
  pub by_rules : (log : Logged) (f : Form) (v : Bool) (rules : List Rule) (conflicts : ℕ) (lines : List Line) (atoms : List Atom) → Spends log f v rules conflicts lines
      → ((a : Atom) → OccursInRules (sought_of log f v) a → Contains atoms a) → conflicts < 3 ^ length atoms

-- unit propagation over the clauses of the rules alone reaches a false one
pub record IsRefutedByRules (s : Sought) (rules : List Rule) : Type 0 where
  pub reached : List Literal
  pub reaches : Reaches negated (clauses_of s rules) [] reached
  pub falsified : Any (IsFalseUnder negated reached) (clauses_of s rules)

-- where that is so no line is fresh, and so no conflict is spent
pub record RefutedByRulesIsNotSpent : Type 0 where
  pub none_fresh : (log : Logged) (f : Form) (v : Bool) (rules : List Rule) (lines : List Line) (n : ℕ) → IsRefutedByRules (sought_of log f v) rules → Fresh log f v rules lines n → ⊥
  pub none_spent : (log : Logged) (f : Form) (v : Bool) (rules : List Rule) (conflicts : ℕ) (lines : List Line) → IsRefutedByRules (sought_of log f v) rules
      → Spends log f v rules conflicts lines → conflicts ≡ 0

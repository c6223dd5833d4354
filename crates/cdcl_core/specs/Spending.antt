-- What the lines of a search are spent on: clauses that were new when they were learnt.
use Rattle.std.specs.Prelude.{ℕ, ◌-◌, ◌<◌, Bool, List, length, map, All, Contains}
use Rattle.mt_model.specs.Form.{Form}
use Rattle.mt_model.specs.Log.{Logged}
use Rattle.clause_db.specs.declared.lit.Lit.{Lit}
use Rattle.propagate.specs.Trails.{Assigned}
use Rattle.propagate.specs.Closed.{ClosedAt}
use Rattle.axiom_rules.specs.declared.literal.Atom.{Atom}
use Rattle.axiom_rules.specs.declared.rule.Rule.{Rule}
use Rattle.axiom_rules.specs.Occurs.{OccursInRules}
use Rattle.axiom_rules.specs.Sought.{sought_of}
use Rattle.proof_log.specs.declared.line.Hint.{Hint}
use Rattle.proof_log.specs.declared.line.Hint.TheVariants as hint
use Rattle.proof_log.specs.declared.line.Line.{Line}
use Rattle.proof_log.specs.Freshness.{Fresh, IsLearnAt, Used, clauses_of, learnt, named_rules}
use Rattle.cdcl_core.specs.declared.derived.Derived.{Derived}
use Rattle.cdcl_core.specs.Extending.{Extends}
use Rattle.cdcl_core.specs.Recording.{read_clause}

-- the rule of a hint, where it names one, is one of these
abbrev pub NamesOneOf : List Rule → Hint → Type 0
NamesOneOf rules (hint.Line m) = Unit {0}
NamesOneOf rules (hint.Rule r) = Contains rules r

-- each Learn line so far is fresh and used; hints name none but these rules, whose clauses are known, as those of the Learn lines
-- are; the atoms are those in clauses of rules, and the lines have no others
pub record IsSpending (log : Logged) (f : Form) (v : Bool) (rules : List Rule) (atoms : List Atom) (known : List (List Lit)) (cites : List Hint) (lines : List Line) : Type 0 where
  pub fresh : (n : ℕ) → IsLearnAt lines n → Fresh log f v rules lines n
  pub used : (n : ℕ) → IsLearnAt lines n → Used log f v lines n
  pub cites_name : All (NamesOneOf rules) cites
  pub lines_name : All (Contains rules) (named_rules lines)
  pub rules_known : All (Contains (map (read_clause atoms) known)) (clauses_of (sought_of log f v) rules)
  pub learnt_known : All (Contains (map (read_clause atoms) known)) (learnt lines)
  pub occur : All (OccursInRules (sought_of log f v)) atoms
  pub own : All (All (λ l. Contains atoms l.atom)) (learnt lines)

-- what the old lines were spent on the new ones are spent on too
abbrev pub KeepsSpending : Derived → Derived → Type 0
KeepsSpending old new = (log : Logged) (f : Form) (v : Bool) (rules : List Rule) (table : List Atom) (known : List (List Lit))
    → IsSpending log f v rules table known old.cites old.lines → IsSpending log f v rules table known new.cites new.lines

-- the clauses begin with known ones, of which the levels below the present one leave nothing to propagate
pub record IsQuietBelow (known db : List (List Lit)) (t : Assigned) : Type 0 where
  pub clauses : Extends known db
  pub closed : 0 < length t.levels → ClosedAt t known (length t.levels - 1)

-- When a problem fits what is sought.
use Rattle.std.specs.Prelude.{◌≡◌, ℕ, ◌^◌, ◌≤◌, List, length, map, All, Any, Option, Some, option_map, Ok, slice_get}
use Rattle.mt_model.specs.Bounds.{bounds_of}
use Rattle.mt_model.specs.Walks.{node_count_of}
use Rattle.neg_cycle.specs.Systems.{IsSystem}
use Rattle.skew_bounds.specs.Edges.{AreEdges}
use Rattle.clause_db.specs.declared.lit.Lit.{Lit}
use Rattle.clause_db.specs.Clauses.{clause_at}
use Rattle.axiom_rules.specs.declared.literal.Atom.{Atom}
use Rattle.axiom_rules.specs.declared.literal.Literal.{Literal}
use Rattle.axiom_rules.specs.declared.rule.Rule.{Rule}
use Rattle.axiom_rules.specs.Clauses.{clause_of}
use Rattle.axiom_rules.specs.Sought.{Sought}
use Rattle.mtl_encode.specs.declared.problem.Problem.{Problem}

-- a literal of a variable as one of the atom that has the variable
abbrev pub read_literal : List Atom → Lit → Option Literal
read_literal atoms l = option_map (λ a. record { atom = a; positive = l.positive }) (slice_get atoms l.var)

-- read through the atoms, the literals of variables are this clause
abbrev pub ReadsAs : List Atom → List Lit → List Literal → Type 0
ReadsAs atoms lits clause = map (read_literal atoms) lits ≡ map Some clause

-- read through the atoms, the literals are the clause of the rule
pub record IsClauseOf (s : Sought) (atoms : List Atom) (rule : Rule) (lits : List Lit) : Type 0 where
  pub clause : List Literal
  pub of_rule : clause_of s rule ≡ Ok clause
  pub read : ReadsAs atoms lits clause

-- the atom stands in the clause of the rule
pub record StandsIn (s : Sought) (a : Atom) (rule : Rule) : Type 0 where
  pub clause : List Literal
  pub of_rule : clause_of s rule ≡ Ok clause
  pub there : Any (λ l. l.atom ≡ a) clause

-- the problem fits what is sought
pub record Fits (s : Sought) (p : Problem) : Type 0 where
  -- as many rules as clauses, and each clause is that of the rule of its place
  pub count : length p.rules ≡ length p.db
  pub clauses : (n : ℕ) (rule : Rule) → slice_get p.rules n ≡ Some rule → IsClauseOf s p.atoms rule (clause_at p.db n)
  -- each atom stands in some clause
  pub atoms : All (λ a. Any (StandsIn s a) p.rules) p.atoms
  -- the bounds of the log with their edges, between the zero moment, the rows and the clocks
  pub bounds : p.bounds ≡ bounds_of s.log
  pub edges : AreEdges s.log p.bounds p.edges
  pub nodes : p.nodes ≡ node_count_of s.log
  pub system : IsSystem p.nodes p.edges
  pub few_clauses : length p.db ≤ 2 ^ 29
  pub few_atoms : length p.atoms ≤ 2 ^ 29

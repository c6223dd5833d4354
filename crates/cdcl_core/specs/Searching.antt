-- What a search for a problem has, from its start to its end.
use Rattle.std.specs.Prelude.{◌≡◌, ℕ, ◌+◌, ◌*◌, ◌<◌, ◌≤◌, List, length, take, All, Bool, true, false, IsTrue, Option}
use Rattle.mt_model.specs.Form.{Form}
use Rattle.mt_model.specs.Log.{Logged, IsLog}
use Rattle.neg_cycle.specs.declared.system.Edge.{Edge}
use Rattle.neg_cycle.specs.declared.system.TheConstants.{MAX_NODES}
use Rattle.difference_graph.specs.Graphs.{Constraints}
use Rattle.clause_db.specs.declared.lit.Lit.{Lit}
use Rattle.propagate.specs.declared.entry.Entry.{Entry}
use Rattle.propagate.specs.Trails.{literals}
use Rattle.axiom_rules.specs.Sought.{sought_of}
use Rattle.mtl_encode.specs.declared.problem.Problem.{Problem}
use Rattle.mtl_encode.specs.Problems.{Fits}
use Rattle.cdcl_core.specs.declared.conflict.Theory.{Theory}
use Rattle.cdcl_core.specs.declared.descent.Conflict.{Conflict}
use Rattle.cdcl_core.specs.declared.linked.LinkedLits.{LinkedLits}
use Rattle.cdcl_core.specs.declared.settling.TheConstants.{MAX_SETTLED}
use Rattle.cdcl_core.specs.declared.state.SearchState.{SearchState}
use Rattle.cdcl_core.specs.Extending.{Extends}
use Rattle.cdcl_core.specs.Founds.{IsPosed, lessons}
use Rattle.cdcl_core.specs.Orders.{AreLinks, HasAllLinks, IsOrderAmong, linked}
use Rattle.cdcl_core.specs.Recording.{IsRecord, IsSettled}
use Rattle.cdcl_core.specs.Running.{HasStopped, IsConflicted, IsRun}
use Rattle.cdcl_core.specs.Spending.{IsQuietBelow, IsSpending}

-- the theory has the bounds, the atoms and the nodes of a problem that is posed, and its order atoms are differences of nodes; where it is
-- whole each of them has its edges
pub record IsTheoryOf (p : Problem) (theory : Theory) : Type 0 where
  pub posed : IsPosed p
  pub bounds : theory.bounds ≡ p.bounds
  pub atoms : theory.atoms ≡ p.atoms
  pub nodes : theory.nodes ≡ p.nodes
  pub orders : All (IsOrderAmong MAX_NODES) theory.atoms
  pub within : All (IsOrderAmong theory.nodes) theory.atoms
  pub links_are : AreLinks theory.atoms theory.links
  pub all_links : IsTrue theory.whole → HasAllLinks theory.atoms theory.links

-- the literals are those that have an edge among so many of the first of a trail
pub record AreLinkedUpTo (links : List (Option (Edge × Edge))) (entries : List Entry) (l : LinkedLits) : Type 0 where
  pub within : l.seen ≤ length entries
  pub lits : l.lits.items ≡ linked links (literals (take l.seen entries))

-- the graph holds the edges of the problem alone, with room for one more
pub record IsGround (p : Problem) (g : Constraints) : Type 0 where
  pub nodes : g.nodes ≡ p.nodes
  pub edges : g.edges ≡ p.edges
  pub room : length p.edges < g.capacity

-- how many lines of assumed orders there may be: none where no order is assumed
abbrev pub allowance : Bool → ℕ
allowance true = 0
allowance false = MAX_SETTLED

-- theory, trail and graph are over the problem's atoms and nodes, with room for an edge of each atom; the clauses begin with the problem's,
-- and lines derive that can cite them, all where no order is assumed
pub record IsSearchFor (p : Problem) (s : SearchState) : Type 0 where
  pub theory_of : IsTheoryOf p s.theory
  pub assigned : s.trail.vars ≡ length p.atoms
  pub nodes : s.graph.nodes ≡ p.nodes
  pub room : length p.edges + length p.atoms ≤ s.graph.capacity
  pub linked : AreLinkedUpTo s.theory.links s.trail.entries s.linked
  pub ground : IsGround p s.ground
  pub clauses : Extends p.db s.derived.db
  pub settled : IsTrue s.theory.whole → All IsSettled s.derived.cites
  pub derives : (log : Logged) (f : Form) (v : Bool) → IsLog log → Fits (sought_of log f v) p → IsRecord log f v p.atoms s.derived.db s.derived.cites s.derived.lines

-- so many conflicts came each with a lesson and at most two clauses and lines, and so many clauses and lines came since, beside the clauses of
-- assumed orders and their lines; the lines were spent on what was new to known clauses
pub record HasSpent (p : Problem) (s : SearchState) (conflicts more : ℕ) (known : List (List Lit)) : Type 0 where
  pub few_clauses : length s.derived.db ≤ length p.db + length p.atoms + 2 * conflicts + more
  pub few_lines : length s.derived.lines ≤ 2 * conflicts + more + allowance s.theory.whole
  pub lesson_count : lessons s.derived.lines ≡ conflicts
  pub spending : (log : Logged) (f : Form) (v : Bool) → IsLog log → Fits (sought_of log f v) p → IsSpending log f v p.rules p.atoms known s.derived.cites s.derived.lines

-- after so many conflicts, its trail is a run over the edges of the problem
pub record IsSearch (p : Problem) (s : SearchState) (conflicts : ℕ) : Type 0 where
  pub search_for : IsSearchFor p s
  pub spent : HasSpent p s conflicts 0 s.derived.db
  pub run : IsRun s.derived.db s.theory.links p.edges s.trail s.graph

-- after so many conflicts, its descent stopped in another
pub record IsStopped (p : Problem) (s : SearchState) (conflicts : ℕ) (x : Conflict) : Type 0 where
  pub search_for : IsSearchFor p s
  pub spent : HasSpent p s conflicts 0 s.derived.db
  pub stopped : HasStopped s.derived.db s.theory.links p.edges s.trail s.graph x

-- after so many conflicts, a clause is false. It may have come since, with a line; the levels below the present one leave nothing to propagate
-- of the others
pub record IsMidway (p : Problem) (s : SearchState) (conflicts c : ℕ) : Type 0 where
  pub search_for : IsSearchFor p s
  pub known : List (List Lit)
  pub spent : HasSpent p s conflicts 1 known
  pub quiet : IsQuietBelow known s.derived.db s.trail
  pub conflicted : IsConflicted s.derived.db s.theory.links p.edges s.trail s.graph c

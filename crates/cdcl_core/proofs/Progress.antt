-- How a search goes on from one conflict to the next.
use Rattle.std.proofs.Common.{◌≡◌, ◌⊎◌, ◌∙◌, sym, ap, refl, inl, inr, ℕ, ◌+◌, ◌*◌, ◌^◌, ◌-◌, ◌<◌, ◌≤◌, Bool, true, false, List, [], ◌++◌, length, take, Option, arith, append_assoc, append-nil}
use Rattle.std.specs.Prelude.{All, IsTrue}
use Rattle.mt_model.specs.Form.{Form}
use Rattle.mt_model.specs.Log.{Logged}
use Rattle.neg_cycle.specs.declared.system.Edge.{Edge}
use Rattle.difference_graph.specs.Graphs.{Constraints, HasSameLimits}
use Rattle.clause_db.specs.declared.lit.Lit.{Lit}
use Rattle.propagate.specs.Reach.{IsConflict, IsLast}
use Rattle.propagate.specs.Steps.{InStep, IsRefused, LacksLast}
use Rattle.propagate.specs.Trails.{Assigned, IsTrail, literals}
use Rattle.propagate.specs.Clauses.{HasReasons}
use Rattle.propagate.specs.Closed.{Closed, ClosedAt}
use Rattle.skew_bounds.specs.Edges.{AreEdges}
use Rattle.axiom_rules.specs.declared.literal.Atom.{Atom}
use Rattle.axiom_rules.specs.declared.rule.Rule.{Rule}
use Rattle.mtl_encode.specs.declared.problem.Problem.{Problem}
use Rattle.cdcl_core.specs.declared.derived.Derived.{Derived}
use Rattle.cdcl_core.specs.declared.descent.Conflict.{Conflict}
use Rattle.cdcl_core.specs.declared.descent.Conflict.TheVariants as conflict
use Rattle.cdcl_core.specs.declared.linked.LinkedLits.{LinkedLits}
use Rattle.cdcl_core.specs.declared.state.SearchState.{SearchState}
use Rattle.cdcl_core.specs.declared.strategy.Strategy.{Strategy}
use Rattle.cdcl_core.specs.Founds.{lessons}
use Rattle.cdcl_core.specs.Orders.{linked}
use Rattle.proof_log.specs.declared.line.Line.{Line}
use Rattle.cdcl_core.specs.declared.settling.TheConstants.{MAX_SETTLED}
use Rattle.cdcl_core.specs.Recording.{IsRecord, IsSettled}
use Rattle.cdcl_core.specs.Settling.{HasSettled}
use Rattle.cdcl_core.specs.Running.{HasStopped, IsConflicted, IsRun, IsRunning, IsStuck, IsStuckOver}
use Rattle.cdcl_core.specs.Extending.{Extends}
use Rattle.cdcl_core.specs.Searching.{AreLinkedUpTo, HasSpent, IsMidway, IsSearch, IsSearchFor, IsStopped, allowance}
use Rattle.cdcl_core.specs.Spending.{IsQuietBelow, IsSpending}
use Rattle.cdcl_core.proofs.Conflicts.{false_conflicted}
use Rattle.cdcl_core.proofs.Descents.{run_decided, run_grown}
use Rattle.cdcl_core.proofs.LinkedUpTo.{linked_all, linked_grown}
use Rattle.cdcl_core.proofs.ProblemAtoms.{edge-count}
use Rattle.cdcl_core.proofs.Settlings.{all_kept}

pub extends_same : (db : List (List Lit)) → Extends db db
extends_same db = ([], sym (append-nil db))

pub extends_more : (old mid new : List (List Lit)) → Extends old mid → Extends mid new → Extends old new
extends_more old mid new first second = (first.0 ++ second.0, second.1 ∙ ap (λ db. db ++ second.0) first.1 ∙ append_assoc old first.0 second.0)

-- a conflict has the reasons of its trail
pub conflict_reasons : (db : List (List Lit)) (links : List (Option (Edge × Edge))) (base : List Edge) (t : Assigned) (g : Constraints) (c : ℕ) → IsConflicted db links base t g c → HasReasons t db
conflict_reasons db links base t g c conflicted = elim conflicted.step [ inl step ↦ step.reasons | inr lacks ↦ lacks.step.reasons ]

-- nothing is left to propagate below the present level where a descent stopped
pub stopped_closed : (db : List (List Lit)) (links : List (Option (Edge × Edge))) (base : List Edge) (t : Assigned) (g : Constraints) (x : Conflict) → HasStopped db links base t g x → Closed t db
stopped_closed db links base t g (conflict.False c) stopped = stopped.0.closed
stopped_closed db links base t g (conflict.Refused l) stopped = stopped.closed

-- the state with another trail and graph
abbrev pub moved : SearchState → Assigned → Constraints → Strategy → SearchState
moved s u h y = record { theory = s.theory; trail = u; graph = h; ground = s.ground; linked = s.linked; derived = s.derived; strategy = y }

-- there are never too many lines of assumed orders
pub allowance_most : (whole : Bool) → allowance whole ≤ 4000000
allowance_most true = omega arith
allowance_most false = omega arith

module _ (p : Problem) (s : SearchState) where
  module _ (own : IsSearchFor p s) where
    pub edges_count : length p.edges ≡ length s.theory.bounds
    edges_count = let posed = own.theory_of.posed in edge-count posed.log p.bounds p.edges posed.fits.edges ∙ ap length (sym own.theory_of.bounds)

    pub few_atoms : length s.theory.atoms + 1 < 2 ^ 32
    few_atoms = let few = own.theory_of.posed.fits.few_atoms in let same = ap length own.theory_of.atoms in omega (arith, few, same)

    pub trail_vars : s.trail.vars ≡ length s.theory.atoms
    trail_vars = own.assigned ∙ ap length (sym own.theory_of.atoms)

    pub graph_nodes : s.graph.nodes ≡ s.theory.nodes
    graph_nodes = own.nodes ∙ sym own.theory_of.nodes

    pub cites_count : length s.derived.cites ≡ length s.derived.db
    cites_count = let posed = own.theory_of.posed in (own.derives posed.log posed.form posed.value posed.valid posed.fits).cited.count

    for_moved : (u : Assigned) (h : Constraints) (y : Strategy) → u.vars ≡ s.trail.vars → HasSameLimits s.graph h
        → take (length s.trail.entries) u.entries ≡ s.trail.entries → length s.trail.entries ≤ length u.entries
        → IsSearchFor p (moved s u h y)
    for_moved u h y same limits kept longer = record {
      theory_of = own.theory_of;
      assigned = same ∙ own.assigned;
      nodes = limits.nodes ∙ own.nodes;
      room = let old = own.room in let equal = limits.capacity in omega (arith, old, equal);
      linked = linked_grown s.theory.links s.trail.entries s.linked own.linked u.entries kept longer;
      ground = own.ground;
      clauses = own.clauses;
      settled = own.settled;
      derives = own.derives;
    }

    -- there is room for so many clauses and lines more
    pub clause_room : (n more : ℕ) (known : List (List Lit)) → n ≤ 999999 → more ≤ 1 → HasSpent p s n more known → length s.derived.db < 2 ^ 32 - 1
    clause_room n more known few little spent = let clauses = spent.few_clauses in let least = own.theory_of.posed.fits.few_clauses in let atoms = own.theory_of.posed.fits.few_atoms in omega (arith, clauses, least, atoms, few, little)

    pub line_room : (n more : ℕ) (known : List (List Lit)) → n ≤ 999999 → more ≤ 1 → HasSpent p s n more known → length s.derived.lines < 2 ^ 32 - 1
    line_room n more known few little spent = let lines = spent.few_lines in let most = allowance_most s.theory.whole in omega (arith, lines, most, few, little)

  spent_moved : (n more : ℕ) (known : List (List Lit)) (u : Assigned) (h : Constraints) (y : Strategy) → HasSpent p s n more known → HasSpent p (moved s u h y) n more known
  spent_moved n more known u h y spent = record { few_clauses = spent.few_clauses; few_lines = spent.few_lines; lesson_count = spent.lesson_count; spending = spent.spending }

  module _ (n : ℕ) (search : IsSearch p s n) where
    -- what a descent asks for
    pub search_running : IsRunning (length s.theory.atoms) s.derived.db s.theory.links s.trail s.graph
    search_running =
        let own = search.search_for in
        let room = own.room in let same = ap length own.theory_of.atoms in
        record { base = p.edges; vars = trail_vars own; linked = own.theory_of.links_are.count; room = omega (arith, room, same); run = search.run }

    module _ (u : Assigned) (h : Constraints) (y : Strategy) (same : u.vars ≡ s.trail.vars) (limits : HasSameLimits s.graph h) (kept : take (length s.trail.entries) u.entries ≡ s.trail.entries)
        (longer : length s.trail.entries ≤ length u.entries) where
      -- where the trail and the graph went on and nothing was derived, the search goes on, ..
      pub search_on : IsRun s.derived.db s.theory.links p.edges u h → IsSearch p (moved s u h y) n
      search_on run = record { search_for = for_moved search.search_for u h y same limits kept longer; spent = spent_moved n 0 s.derived.db u h y search.spent; run = run }

      -- .. or has stopped
      pub search_stopped : (x : Conflict) → HasStopped s.derived.db s.theory.links p.edges u h x → IsStopped p (moved s u h y) n x
      search_stopped x stopped = record { search_for = for_moved search.search_for u h y same limits kept longer; spent = spent_moved n 0 s.derived.db u h y search.spent; stopped = stopped }

      -- so after propagation, ..
      pub search_grown : IsTrail u → (Closed s.trail s.derived.db → Closed u s.derived.db)
          → ((b : List Edge) → InStep s.trail s.derived.db s.theory.links b s.graph → InStep u s.derived.db s.theory.links b h) → IsSearch p (moved s u h y) n
      search_grown trail closed step = search_on (run_grown s.derived.db s.theory.links p.edges s.trail u s.graph h trail closed step search.run)

      pub search_false : (c : ℕ) → IsTrail u → (Closed s.trail s.derived.db → Closed u s.derived.db)
          → ((b : List Edge) → InStep s.trail s.derived.db s.theory.links b s.graph → InStep u s.derived.db s.theory.links b h)
          → IsConflict u s.derived.db c → IsStopped p (moved s u h y) n (conflict.False c)
      search_false c trail closed step falsified = search_stopped (conflict.False c) (run_grown s.derived.db s.theory.links p.edges s.trail u s.graph h trail closed step search.run, falsified)

      pub search_refused : (l : Lit) → IsTrail u → (Closed s.trail s.derived.db → Closed u s.derived.db) → IsLast u l → IsRefused s.theory.links l h
          → ((b : List Edge) → InStep s.trail s.derived.db s.theory.links b s.graph → LacksLast u s.derived.db s.theory.links b h) → IsStopped p (moved s u h y) n (conflict.Refused l)
      search_refused l trail closed last refused lacks =
          search_stopped (conflict.Refused l) (record { trail = trail; last = last; refused = refused; step = lacks p.edges search.run.step; closed = closed search.run.closed })

      -- .. and after a decision where nothing was left to propagate
      pub search_decided : IsTrail u → ((d : List (List Lit)) → Closed s.trail d → ClosedAt s.trail d (length s.trail.levels) → Closed u d) → ClosedAt s.trail s.derived.db (length s.trail.levels)
          → ((d : List (List Lit)) (b : List Edge) → InStep s.trail d s.theory.links b s.graph → InStep u d s.theory.links b h) → IsSearch p (moved s u h y) n
      search_decided trail closed here step = search_on (run_decided s.derived.db s.theory.links p.edges s.trail u s.graph h trail closed here step search.run)

  -- what the levels below the present one leave where a descent stopped, with more clauses
  quiet_below : (n : ℕ) (x : Conflict) → IsStopped p s n x → (db : List (List Lit)) → Extends s.derived.db db → IsQuietBelow s.derived.db db s.trail
  quiet_below n x stopped db more = record {
    clauses = more;
    closed = λ some. stopped_closed s.derived.db s.theory.links p.edges s.trail s.graph x stopped.stopped (length s.trail.levels - 1) (omega (arith, some));
  }

  -- a false clause is in conflict
  pub midway_false : (n c : ℕ) → IsStopped p s n (conflict.False c) → IsMidway p s n c
  midway_false n c stopped =
      let spent = stopped.spent in
      record {
        search_for = stopped.search_for;
        known = s.derived.db;
        spent = record {
          few_clauses = let few = spent.few_clauses in omega (arith, few);
          few_lines = let few = spent.few_lines in omega (arith, few);
          lesson_count = spent.lesson_count;
          spending = spent.spending;
        };
        quiet = quiet_below n (conflict.False c) stopped s.derived.db (extends_same s.derived.db);
        conflicted = false_conflicted s.derived.db s.theory.links p.edges s.trail s.graph c stopped.stopped.0 stopped.stopped.1;
      }

  -- the run that is stuck where an edge was refused
  pub stuck_over : (n : ℕ) (l : Lit) → IsStopped p s n (conflict.Refused l) → IsStuckOver (length s.theory.bounds) s.derived.db s.theory.links s.trail s.graph
  stuck_over n l stopped = record { base = p.edges; literal = l; count = edges_count stopped.search_for; stuck = stopped.stopped }

  -- the clause of its walk is in conflict
  pub midway_cycle : (n c : ℕ) (l : Lit) (o : LinkedLits) (k : Derived) → IsStopped p s n (conflict.Refused l) → o.seen ≡ length s.trail.entries
      → o.lits.items ≡ linked s.theory.links (literals s.trail.entries) → length k.db ≡ length s.derived.db + 1 → Extends s.derived.db k.db
      → length k.lines ≡ length s.derived.lines + 1
      → lessons k.lines ≡ lessons s.derived.lines
      → (All IsSettled s.derived.cites → All IsSettled k.cites)
      → ((base : List Edge) (m : Lit) → length base ≡ length s.theory.bounds → IsStuck s.derived.db s.theory.links base s.trail s.graph m → IsConflicted k.db s.theory.links base s.trail s.graph c)
      → ((log : Logged) (f : Form) (v : Bool) (base : List Edge) (m : Lit) → AreEdges log s.theory.bounds base → IsStuck s.derived.db s.theory.links base s.trail s.graph m
      → IsRecord log f v s.theory.atoms s.derived.db s.derived.cites s.derived.lines → IsRecord log f v s.theory.atoms k.db k.cites k.lines)
      → ((log : Logged) (f : Form) (v : Bool) (rules : List Rule) (table : List Atom) (known : List (List Lit))
      → IsSpending log f v rules table known s.derived.cites s.derived.lines → IsSpending log f v rules table known k.cites k.lines)
      → IsMidway p (record { theory = s.theory; trail = s.trail; graph = s.graph; ground = s.ground; linked = o; derived = k; strategy = s.strategy }) n c
  midway_cycle n c l o k stopped seen lits clauses more lines same settles conflicted derives spends =
      let own = stopped.search_for in
      let theory_of = own.theory_of in
      let spent = stopped.spent in
      record {
        search_for = record {
          theory_of = theory_of;
          assigned = own.assigned;
          nodes = own.nodes;
          room = own.room;
          linked = linked_all s.theory.links s.trail.entries o seen lits;
          ground = own.ground;
          clauses = extends_more p.db s.derived.db k.db own.clauses more;
          settled = λ whole. settles (own.settled whole);
          derives = λ log f v valid fits.
              let record_ = derives log f v p.edges l (rw theory_of.bounds fits.edges) stopped.stopped (rw theory_of.atoms (own.derives log f v valid fits)) in
              rw theory_of.atoms at record_;
        };
        known = s.derived.db;
        spent = record {
          few_clauses = let few = spent.few_clauses in omega (arith, few, clauses);
          few_lines = let few = spent.few_lines in omega (arith, few, lines);
          lesson_count = same ∙ spent.lesson_count;
          spending = λ log f v valid fits. spends log f v p.rules p.atoms s.derived.db (spent.spending log f v valid fits);
        };
        quiet = quiet_below n (conflict.Refused l) stopped k.db more;
        conflicted = conflicted p.edges l (edges_count own) stopped.stopped;
      }

  -- the lines of assumed orders leave the conflict
  few_settled : (lines : List Line) (n : ℕ) (w : Bool) → s.theory.whole ≡ w → length s.derived.lines ≤ n + allowance w → (lines ≡ s.derived.lines) ⊎ (length lines ≤ MAX_SETTLED)
      → (IsTrue w → lines ≡ s.derived.lines) → length lines ≤ n + allowance w
  few_settled lines n true is old few none = rw (none refl) old
  few_settled lines n false is old few none = elim few [
    | inl same ↦ rw same old
    | inr most ↦ omega (arith, most)
  ]

  pub midway_settled : (n c : ℕ) (g : Constraints) (k : Derived) → IsMidway p s n c → HasSameLimits s.ground g → g.edges ≡ s.ground.edges
      → HasSettled s.theory.atoms s.theory.bounds s.ground.edges s.derived k → (All IsSettled s.derived.cites → k.lines ≡ s.derived.lines)
      → IsMidway p (record { theory = s.theory; trail = s.trail; graph = s.graph; ground = g; linked = s.linked; derived = k; strategy = s.strategy }) n c
  midway_settled n c g k mid limits same settles none =
      let own = mid.search_for in
      let theory_of = own.theory_of in
      let spent = mid.spent in
      record {
        search_for = record {
          theory_of = theory_of;
          assigned = own.assigned;
          nodes = own.nodes;
          room = own.room;
          linked = own.linked;
          ground = record {
            nodes = limits.nodes ∙ own.ground.nodes;
            edges = same ∙ own.ground.edges;
            room = let room = own.ground.room in let equal = limits.capacity in omega (arith, room, equal);
          };
          clauses = rw settles.clauses own.clauses;
          settled = λ whole. all_kept s.derived.cites k.cites settles.count settles.kept (own.settled whole);
          derives = λ log f v valid fits.
              let record_ = settles.derives log f v (rw (theory_of.bounds, own.ground.edges) fits.edges) (rw theory_of.atoms (own.derives log f v valid fits)) in
              rw theory_of.atoms at record_;
        };
        known = mid.known;
        spent = record {
          few_clauses = rw settles.clauses spent.few_clauses;
          few_lines = few_settled k.lines (2 * n + 1) s.theory.whole refl spent.few_lines settles.few (λ whole. none (own.settled whole));
          lesson_count = settles.lesson_count ∙ spent.lesson_count;
          spending = λ log f v valid fits. settles.spending log f v p.rules p.atoms mid.known (spent.spending log f v valid fits);
        };
        quiet = rw settles.clauses mid.quiet;
        conflicted = rw settles.clauses mid.conflicted;
      }

  -- after a learned clause the search has one conflict more
  pub learned : (n c : ℕ) (u : Assigned) (h : Constraints) (o : LinkedLits) (k : Derived) (y : Strategy) → IsMidway p s n c → u.vars ≡ s.trail.vars
      → HasSameLimits s.graph h → AreLinkedUpTo s.theory.links u.entries o → IsRun k.db s.theory.links p.edges u h → Extends s.derived.db k.db
      → length k.db ≡ length s.derived.db + 1 → length k.lines ≡ length s.derived.lines + 1 → lessons k.lines ≡ lessons s.derived.lines + 1
      → (All IsSettled s.derived.cites → All IsSettled k.cites)
      → ((log : Logged) (f : Form) (v : Bool) → IsRecord log f v s.theory.atoms s.derived.db s.derived.cites s.derived.lines → IsRecord log f v s.theory.atoms k.db k.cites k.lines)
      → ((log : Logged) (f : Form) (v : Bool) (rules : List Rule) (known : List (List Lit)) → IsQuietBelow known s.derived.db s.trail
      → IsRecord log f v s.theory.atoms s.derived.db s.derived.cites s.derived.lines
      → IsSpending log f v rules s.theory.atoms known s.derived.cites s.derived.lines → IsSpending log f v rules s.theory.atoms k.db k.cites k.lines)
      → IsSearch p (record { theory = s.theory; trail = u; graph = h; ground = s.ground; linked = o; derived = k; strategy = y }) (n + 1)
  learned n c u h o k y mid same limits are run more clauses lines count settles derives spending =
      let own = mid.search_for in
      let theory_of = own.theory_of in
      let spent = mid.spent in
      record {
        search_for = record {
          theory_of = theory_of;
          assigned = same ∙ own.assigned;
          nodes = limits.nodes ∙ own.nodes;
          room = let old = own.room in let equal = limits.capacity in omega (arith, old, equal);
          linked = are;
          ground = own.ground;
          clauses = extends_more p.db s.derived.db k.db own.clauses more;
          settled = λ whole. settles (own.settled whole);
          derives = λ log f v valid fits.
              let record_ = derives log f v (rw theory_of.atoms (own.derives log f v valid fits)) in
              rw theory_of.atoms at record_;
        };
        spent = record {
          few_clauses = let few = spent.few_clauses in omega (arith, few, clauses);
          few_lines = let few = spent.few_lines in omega (arith, few, lines);
          lesson_count = let old = spent.lesson_count in omega (arith, old, count);
          spending = λ log f v valid fits.
              let spends = spending log f v p.rules mid.known mid.quiet (rw theory_of.atoms (own.derives log f v valid fits)) (rw theory_of.atoms (spent.spending log f v valid fits)) in
              rw theory_of.atoms at spends;
        };
        run = run;
      }

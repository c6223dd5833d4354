-- What a search has at its start.
use Rattle.std.proofs.Common.{◌≡◌, ◌∙◌, sym, ap, refl, subst, inl, inr, ℕ, ◌+◌, ◌<◌, ◌≤◌, Bool, true, false, List, [], ◌∷◌, ◌++◌, length, map, get_or, Option, Some, None, arith, ℤ, pos, ◌-ℤ◌, neg_ℤ, append-nil, append_assoc}
use Rattle.std.specs.Prelude.{All, IfSome, IsTrue}
use Rattle.std.proofs.lemmas.Bool.{cases_lt}
use Rattle.std.proofs.lemmas.Int.{ints}
use Rattle.std.proofs.lemmas.List.{get_or_past, length-map, length-append}
use Rattle.std.proofs.lemmas.List.Elements.{All-nil, All-cons, All-append, All-from_get_or, All-map}
use Rattle.std.proofs.lemmas.Option.{slice_get-get_or}
use Rattle.mt_model.specs.Form.{Form}
use Rattle.mt_model.specs.Log.{IsLog, Logged}
use Rattle.neg_cycle.specs.declared.system.Edge.{Edge}
use Rattle.neg_cycle.specs.declared.system.TheConstants.{MAX_NODES}
use Rattle.neg_cycle.specs.Systems as system
use Rattle.difference_graph.specs.Graphs.{Constraints}
use Rattle.formula_arena.specs.Laws.{CoresAreCores, NodesAreSubtrees}
use Rattle.clause_db.specs.declared.lit.Lit.{Lit}
use Rattle.clause_db.specs.Clauses.{clause_at}
use Rattle.propagate.specs.Laws.{NewTrailIsInStep}
use Rattle.propagate.specs.Links.{edge_in as sensed_edge, edges_at}
use Rattle.propagate.specs.Steps.{IsLinked}
use Rattle.propagate.specs.Trails.{Assigned, IsTrail}
use Rattle.axiom_rules.specs.declared.literal.Atom.{Atom}
use Rattle.axiom_rules.specs.declared.literal.Atom.TheVariants.{Order, Node, First, Same, Wit, Span, Gap}
use Rattle.axiom_rules.specs.declared.rule.Rule.{Rule}
use Rattle.axiom_rules.specs.Sought.{Sought, sought_of}
use Rattle.proof_log.specs.declared.line.Hint.{Hint}
use Rattle.proof_log.specs.declared.line.Hint.TheVariants as hint
use Rattle.proof_log.specs.declared.line.Line.{Line}
use Rattle.mtl_encode.specs.declared.problem.Problem.{Problem}
use Rattle.mtl_encode.specs.Problems.{Fits}
use Rattle.cdcl_core.specs.declared.state.SearchState.{SearchState}
use Rattle.cdcl_core.specs.Founds.{IsPosed}
use Rattle.cdcl_core.specs.Orders.{AreLinks, HasAllLinks, IsOrderAmong, atom_at, order_edges}
use Rattle.cdcl_core.specs.Recording.{AreOfLog, IsRecord, IsRuleInRange, IsSettled}
use Rattle.cdcl_core.specs.Running.{IsRun}
use Rattle.cdcl_core.specs.Searching.{IsGround, IsSearch}
use Rattle.cdcl_core.specs.Spending.{IsSpending}
use Rattle.cdcl_core.proofs.Pairs.{atom_there}
use Rattle.cdcl_core.proofs.ProblemAtoms.{atoms-in-range, orders-in-range, orders-more, orders-of-rows}
use Rattle.cdcl_core.proofs.Records.{begun, record_assumed, rules_spelled}
use Rattle.cdcl_core.proofs.Spending.{spending_assumed, spending_begun}
use Rattle.mtl_encode.proofs.VariableLemmas.{lits-below}

-- so are those of all clauses of a problem that fits
pub fits_within : (s : Sought) (p : Problem) → Fits s p → All (All (λ l. l.var < length p.atoms)) p.db
fits_within s p fits = All-from_get_or (All (λ (l : Lit). l.var < length p.atoms)) p.db [] (λ c below.
    let d : Rule = record { number = 0; args = [] } in
    let own = fits.clauses c (get_or p.rules c d) (slice_get-get_or p.rules c d (omega (arith, below, fits.count))) in
    lits-below p.atoms (clause_at p.db c) own.clause own.read)

-- the edges of an order are within the limits of a system
yes_edge : (nodes e f : ℕ) (c : ℤ) → IsOrderAmong nodes (Order e f c) → system.IsEdge nodes (record { from = e + 1; to = f + 1; bound = c })
yes_edge nodes e f c order = record {
  from = omega (arith, order.smaller_first, order.second);
  to = order.second;
  bound = record { low = omega (arith, ints, order.bound.low); high = omega (arith, ints, order.bound.high) };
}

no_edge : (nodes e f : ℕ) (c : ℤ) → IsOrderAmong nodes (Order e f c) → system.IsEdge nodes (record { from = f + 1; to = e + 1; bound = neg_ℤ c -ℤ pos 1 })
no_edge nodes e f c order = record {
  from = order.second;
  to = omega (arith, order.smaller_first, order.second);
  bound = record { low = omega (arith, ints, order.negated.low); high = omega (arith, ints, order.negated.high) };
}

pub edges_fit : (nodes : ℕ) (a : Atom) (b : Bool) → IsOrderAmong nodes a → IfSome (sensed_edge (order_edges a) b) (system.IsEdge nodes)
edges_fit nodes (Order e f c) true order = yes_edge nodes e f c order
edges_fit nodes (Order e f c) false order = no_edge nodes e f c order
edges_fit nodes (Node k e) b order = tt
edges_fit nodes (First e) b order = tt
edges_fit nodes (Same e x) b order = tt
edges_fit nodes (Wit k i j) b order = tt
edges_fit nodes (Span k i j) b order = tt
edges_fit nodes (Gap k i m) b order = tt

-- so the links of order atoms fit a trail and a graph
pub links_fit : (t : Assigned) (g : Constraints) (atoms : List Atom) (links : List (Option (Edge × Edge))) → t.vars ≡ length atoms
    → All (IsOrderAmong g.nodes) atoms → AreLinks atoms links → IsLinked t links g
links_fit t g atoms links vars orders linked = record {
  variables = let count = linked.count in omega (arith, count, vars);
  edges = λ l. elim (cases_lt l.var (length atoms)) [
    | inl within ↦ fit l.var l.positive within (edges_at links l.var) refl
    | inr past ↦ rw (get_or_past links l.var None (let count = linked.count in omega (arith, count, past))) tt
  ];
} where
  fit : (v : ℕ) (b : Bool) → v < length atoms → (o : Option (Edge × Edge)) → edges_at links v ≡ o → IfSome (sensed_edge o b) (system.IsEdge g.nodes)
  fit v b within None is = tt
  fit v b within (Some both) is =
      let at : order_edges (atom_at atoms v) ≡ Some both = linked.each v (atom_at atoms v) both (atom_there atoms v within) is in
      rw at at (edges_fit g.nodes (atom_at atoms v) b (orders v (First 0) within))

-- the clause of a literal alone
abbrev one : Lit → List Lit
one l = l ∷ []

-- the clauses and the hints of assumed literals
abbrev pub ones : List Lit → List (List Lit)
ones assumed = map one assumed

abbrev pub unwritten : List Lit → List Hint
unwritten assumed = map (λ l. hint.Line 0) assumed

-- what is recorded, and what is spent, with the clauses of assumed literals
recorded_assumed : (log : Logged) (f : Form) (v : Bool) (atoms : List Atom) (assumed : List Lit) (lines : List Line) (db : List (List Lit)) (cites : List Hint)
    → IsRecord log f v atoms db cites lines → IsRecord log f v atoms (db ++ ones assumed) (cites ++ unwritten assumed) lines
recorded_assumed log f v atoms [] lines db cites old = rw (append-nil db, append-nil cites) old
recorded_assumed log f v atoms (l ∷ ls) lines db cites old =
    let next = recorded_assumed log f v atoms ls lines (db ++ (l ∷ []) ∷ []) (cites ++ hint.Line 0 ∷ []) (record_assumed log f v atoms db cites lines (l ∷ []) old) in
    subst (λ (ds : List (List Lit)). IsRecord log f v atoms ds (cites ++ hint.Line 0 ∷ unwritten ls) lines) (append_assoc db ((l ∷ []) ∷ []) (ones ls))
    (subst (λ (hs : List Hint). IsRecord log f v atoms ((db ++ (l ∷ []) ∷ []) ++ ones ls) hs lines) (append_assoc cites (hint.Line 0 ∷ []) (unwritten ls)) next)

spent_assumed : (log : Logged) (f : Form) (v : Bool) (rules : List Rule) (atoms : List Atom) (assumed : List Lit) (lines : List Line) (db : List (List Lit)) (cites : List Hint)
    → IsSpending log f v rules atoms db cites lines → IsSpending log f v rules atoms (db ++ ones assumed) (cites ++ unwritten assumed) lines
spent_assumed log f v rules atoms [] lines db cites old = rw (append-nil db, append-nil cites) old
spent_assumed log f v rules atoms (l ∷ ls) lines db cites old =
    let next = spent_assumed log f v rules atoms ls lines (db ++ (l ∷ []) ∷ []) (cites ++ hint.Line 0 ∷ []) (spending_assumed log f v rules atoms db cites lines (l ∷ []) old) in
    subst (λ (ds : List (List Lit)). IsSpending log f v rules atoms ds (cites ++ hint.Line 0 ∷ unwritten ls) lines) (append_assoc db ((l ∷ []) ∷ []) (ones ls))
    (subst (λ (hs : List Hint). IsSpending log f v rules atoms ((db ++ (l ∷ []) ∷ []) ++ ones ls) hs lines) (append_assoc cites (hint.Line 0 ∷ []) (unwritten ls)) next)

module _ (cores : CoresAreCores) (nodes_law : NodesAreSubtrees) (p : Problem) (posed : IsPosed p) where
  -- the order atoms are differences of nodes within the limits
  pub posed_orders : All (IsOrderAmong p.nodes) p.atoms
  posed_orders =
      orders-more (length posed.log.rows + 1) p.nodes p.atoms (omega (arith, posed.fits.nodes))
      (orders-of-rows cores nodes_law posed.log posed.form posed.value p posed.fits posed.formula)

  of_log : (log : Logged) (f : Form) (v : Bool) → IsLog log → Fits (sought_of log f v) p → AreOfLog (sought_of log f v) p.atoms
  of_log log f v valid fits = record {
    valid = valid;
    in_range = atoms-in-range cores nodes_law log f v p fits;
    orders = orders-in-range (sought_of log f v) p.nodes p.atoms posed_orders (atoms-in-range cores nodes_law log f v p fits);
  }

  -- what is recorded before the first line
  recorded : All IsRuleInRange p.rules → (log : Logged) (f : Form) (v : Bool) → IsLog log → Fits (sought_of log f v) p → IsRecord log f v p.atoms p.db (map hint.Rule p.rules) []
  recorded ranges log f v valid fits = begun log f v p (of_log log f v valid fits) fits (rules_spelled (sought_of log f v) p fits ranges)

  -- the empty trail and the edges of the problem, over clauses of its atoms
  pub run_begun : NewTrailIsInStep → (links : List (Option (Edge × Edge))) (t : Assigned) (g : Constraints) → AreLinks p.atoms links → t.vars ≡ length p.atoms
      → t.entries ≡ [] → t.levels ≡ [] → t.watching.watches ≡ [] → IsTrail t → g.nodes ≡ p.nodes → g.edges ≡ p.edges
      → (db : List (List Lit)) → All (All (λ l. l.var < length p.atoms)) db → IsRun db links p.edges t g
  run_begun law links t g linked assigned none flat unwatched trail same held db below = record {
    trail = trail;
    step = law t db links p.edges g none flat unwatched
        (subst (λ (n : ℕ). All (All (λ (l : Lit). l.var < n)) db) (sym assigned) below)
        (links_fit t g p.atoms links assigned (rw same posed_orders) linked) held;
    closed = λ m deep. absurd (let levels : length t.levels ≡ 0 = ap length flat in omega (arith, deep, levels));
  }

  -- the clauses of assumed literals are of its atoms, as its own are
  assumed_within : (assumed : List Lit) → All (λ l. l.var < length p.atoms) assumed → All (All (λ l. l.var < length p.atoms)) (p.db ++ ones assumed)
  assumed_within assumed below = All-append (All (λ (l : Lit). l.var < length p.atoms)) p.db (ones assumed)
      (fits_within (sought_of posed.log posed.form posed.value) p posed.fits)
      (All-map (All (λ (l : Lit). l.var < length p.atoms)) one assumed
      (λ k d low. All-cons (λ (l : Lit). l.var < length p.atoms) (get_or assumed k d) [] (below k d low) (All-nil (λ (l : Lit). l.var < length p.atoms))))

  -- the search before the first conflict, of the parts of the problem, assumed orders and a run over its clauses
  pub started : (s : SearchState) (assumed : List Lit) → s.theory.bounds ≡ p.bounds → s.theory.atoms ≡ p.atoms → s.theory.nodes ≡ p.nodes → AreLinks p.atoms s.theory.links
      → (IsTrue s.theory.whole → assumed ≡ []) → (assumed ≡ [] → HasAllLinks p.atoms s.theory.links)
      → s.linked.lits.items ≡ [] → s.linked.seen ≡ 0 → s.trail.vars ≡ length p.atoms → s.graph.nodes ≡ p.nodes → length p.edges + length p.atoms ≤ s.graph.capacity
      → IsGround p s.ground → s.derived.db ≡ p.db ++ ones assumed → s.derived.cites ≡ map hint.Rule p.rules ++ unwritten assumed → s.derived.lines ≡ []
      → All IsRuleInRange p.rules → All (λ l. l.var < length p.atoms) assumed → length assumed ≤ length p.atoms
      → ((db : List (List Lit)) → All (All (λ l. l.var < length p.atoms)) db → IsRun db s.theory.links p.edges s.trail s.graph) → IsSearch p s 0
  started s assumed bounds atoms nodes linked empty all unlinked unseen assigned same room ground own cites lines ranges below few run = record {
    search_for = record {
      theory_of = record {
        posed = posed;
        bounds = bounds;
        atoms = atoms;
        nodes = nodes;
        orders = rw atoms (orders-more p.nodes MAX_NODES p.atoms posed.fits.system.few_nodes posed_orders);
        within = rw (nodes, atoms) posed_orders;
        links_are = rw atoms linked;
        all_links = λ whole. rw atoms (all (empty whole));
      };
      assigned = assigned;
      nodes = same;
      room = room;
      linked = record { within = omega (arith, unseen); lits = unlinked ∙ rw unseen refl };
      ground = ground;
      clauses = (ones assumed, own);
      settled = λ whole.
          subst (All IsSettled) (sym (cites ∙ ap (λ (ls : List Lit). map hint.Rule p.rules ++ unwritten ls) (empty whole) ∙ append-nil (map hint.Rule p.rules)))
          (All-map IsSettled hint.Rule p.rules (λ k d low. refl));
      derives = λ log f v valid fits.
          rw (own, cites, lines) (recorded_assumed log f v p.atoms assumed [] p.db (map hint.Rule p.rules) (recorded ranges log f v valid fits));
    };
    spent = record {
      few_clauses =
          let size : length s.derived.db ≡ length (p.db ++ ones assumed) = ap length own in
          omega (arith, size, length-append p.db (ones assumed), length-map assumed one, few);
      few_lines = let size : length s.derived.lines ≡ 0 = ap length lines in omega (arith, size);
      lesson_count = rw lines refl;
      spending = λ log f v valid fits.
          rw (own, cites, lines) (spent_assumed log f v p.rules p.atoms assumed [] p.db (map hint.Rule p.rules) (spending_begun log f v p fits));
    };
    run = rw own (run (p.db ++ ones assumed) (assumed_within assumed below));
  }

-- The record with the Cycle line of an assumed order: that of the walk which the edge of its negation closes with those of the bounds.
use Rattle.std.proofs.Common.{◌≡◌, ◌∙◌, sym, ap, refl, set, subst, ℕ, ◌+◌, ◌^◌, ◌<◌, Bool, true, List, [], ◌∷◌, ◌++◌, length, map, Option, Some, None, arith}
use Rattle.std.specs.Prelude.{is_some, All}
use Rattle.std.proofs.lemmas.List.{length-map}
use Rattle.std.proofs.lemmas.List.Elements.{All-append, All-cons, All-nil}
use Rattle.mt_model.specs.declared.bound.Bound.{Bound}
use Rattle.mt_model.specs.declared.step.Step.{Step}
use Rattle.mt_model.specs.Form.{Form}
use Rattle.mt_model.specs.Log.{Logged}
use Rattle.mt_model.specs.Walks.{Conflict}
use Rattle.neg_cycle.specs.declared.system.Edge.{Edge}
use Rattle.neg_cycle.specs.Systems.{IsEdge, IsNegativeCycle, VisitsOnce}
use Rattle.difference_graph.specs.Graphs.{Constraints, IsSolved}
use Rattle.skew_bounds.specs.Edges.{AreEdges}
use Rattle.skew_bounds.proofs.Settled.{places-of-cycle}
use Rattle.clause_db.specs.declared.lit.Lit.{Lit}
use Rattle.clause_db.specs.Clauses.{clause_at}
use Rattle.clause_db.specs.Literals.{negation}
use Rattle.propagate.specs.Links.{edge_in as sensed_edge, edges_at, edges_of}
use Rattle.axiom_rules.specs.declared.literal.Atom.{Atom}
use Rattle.axiom_rules.specs.declared.literal.Literal.{Literal}
use Rattle.axiom_rules.specs.Parts.{each_once}
use Rattle.proof_log.specs.declared.line.Hint.{Hint}
use Rattle.proof_log.specs.declared.line.Hint.TheVariants as hint
use Rattle.proof_log.specs.declared.line.Line.{Line}
use Rattle.proof_log.specs.declared.line.Line.TheVariants as line
use Rattle.proof_log.specs.Derivations.{clause_of_line}
use Rattle.proof_log.specs.Spelled.{IsSpelledCycle}
use Rattle.cdcl_core.specs.Orders.{AreLinks, atom_at, linked, order_edges, read_lit}
use Rattle.cdcl_core.specs.Recording.{IsRecord, read_clause}
use Rattle.cdcl_core.specs.Walking.{denied_in, step_in}
use Rattle.cdcl_core.proofs.Counts.{few_steps}
use Rattle.cdcl_core.proofs.Cycles.{walk_conflict}
use Rattle.cdcl_core.proofs.Decisions.{edges_read}
use Rattle.cdcl_core.proofs.Denied.{walk_denied}
use Rattle.cdcl_core.proofs.Pairs.{atom_there}
use Rattle.cdcl_core.proofs.Records.{record_settled}
use Rattle.cdcl_core.proofs.Spelling.{steps_spelled}
use Rattle.cdcl_core.proofs.Stuck.{once_whole}

-- what has an edge in a sense has edges
has_both : (o : Option (Edge × Edge)) (b : Bool) (e : Edge) → sensed_edge o b ≡ Some e → is_some o ≡ true
has_both None b e is = absurd (cc)
has_both (Some both) b e is = refl

-- one literal after none that is left out
one_left : (links : List (Option (Edge × Edge))) (l : Lit) → is_some (edges_at links l.var) ≡ true → linked links (l ∷ []) ≡ l ∷ []
one_left links l some = rw some refl

one_edge : (links : List (Option (Edge × Edge))) (l : Lit) (e : Edge) → sensed_edge (edges_at links l.var) l.positive ≡ Some e → edges_of links (l ∷ []) ≡ e ∷ []
one_edge links l e is = rw is refl

-- a clause of one literal has it once
one_once : (l : Literal) → each_once (l ∷ []) ≡ l ∷ []
one_once l = once_whole (l ∷ []) (λ i j d less below. absurd (omega (arith, less, below)))

module _ (log : Logged) (f : Form) (v : Bool) (atoms : List Atom) (db : List (List Lit)) (cites : List Hint) (lines : List Line) (bounds : List Bound) (g : Constraints)
    (lit : Lit) (edge : Edge) (steps : List Step) (at : ℕ) (old : IsRecord log f v atoms db cites lines) (solved : IsSolved g) (are : AreEdges log bounds g.edges)
    (low : lit.var < length atoms) (of_literal : sensed_edge (order_edges (atom_at atoms lit.var)) (negation lit).positive ≡ Some edge) (is_edge : IsEdge g.nodes edge)
    (cycle : IsNegativeCycle (g.edges ++ edge ∷ []) g.cycle) (visits : VisitsOnce (g.edges ++ edge ∷ []) g.cycle) where
  abbrev links : List (Option (Edge × Edge))
  links = map order_edges atoms

  abbrev lits : List Lit
  lits = negation lit ∷ []

  links_are : AreLinks atoms links
  links_are = record { count = length-map atoms order_edges; each = λ w a both var is. sym (edges_read atoms w a var) ∙ is }

  here : edges_at links lit.var ≡ order_edges (atom_at atoms lit.var)
  here = edges_read atoms lit.var (atom_at atoms lit.var) (atom_there atoms lit.var low)

  orders_are : linked links lits ≡ lits
  orders_are = one_left links (negation lit) (ap is_some here ∙ has_both (order_edges (atom_at atoms lit.var)) (negation lit).positive edge of_literal)

  edges_are : edges_of links lits ≡ edge ∷ []
  edges_are = one_edge links (negation lit) edge (ap (λ o. sensed_edge o (negation lit).positive) here ∙ of_literal)

  orders_low : All (λ (l : Lit). l.var < length atoms) (linked links lits)
  orders_low = subst (All (λ (l : Lit). l.var < length atoms)) (sym orders_are) (All-cons (λ (l : Lit). l.var < length atoms) (negation lit) [] low (All-nil (λ (l : Lit). l.var < length atoms)))

  within : All (λ p. p < length (g.edges ++ edge ∷ [])) g.cycle
  within = places-of-cycle (g.edges ++ edge ∷ []) g.cycle cycle.closed

  each_edge : All (IsEdge g.nodes) (g.edges ++ edge ∷ [])
  each_edge = All-append (IsEdge g.nodes) g.edges (edge ∷ []) solved.system.each (All-cons (IsEdge g.nodes) edge [] is_edge (All-nil (IsEdge g.nodes)))

  module _ (same : map (step_in bounds atoms lits) g.cycle ≡ map Some steps) (said : denied_in (length bounds) lits g.cycle ≡ lit ∷ []) where
    conflict : Conflict log steps
    conflict = walk_conflict log bounds g.edges atoms links lits are links_are old.of_log.orders orders_low g.cycle steps (rw edges_are cycle) (rw orders_are same)

    cycle_spelled : IsSpelledCycle steps
    cycle_spelled = record {
      count =
          let few = few_steps g.nodes (g.edges ++ edge ∷ []) g.cycle each_edge within visits in
          let most = solved.system.few_nodes in
          let sizes = ap length same in
          let places = length-map g.cycle (step_in bounds atoms lits) in
          let own = length-map steps Some in
          omega (arith, few, most, sizes, places, own);
      each = steps_spelled log old.of_log.valid steps conflict.edges conflict.found;
    }

    clause_is : clause_of_line (line.Cycle steps) ≡ read_clause atoms (lit ∷ [])
    clause_is =
        let denied_is = walk_denied log bounds g.edges atoms links lits are old.of_log.orders orders_low g.cycle steps (rw edges_are within) (rw orders_are same) in
        ap each_once (denied_is ∙ ap (λ ls. map (read_lit atoms) (denied_in (length bounds) ls g.cycle)) orders_are ∙ ap (map (read_lit atoms)) said) ∙ one_once (read_lit atoms lit)

    pub order_settled : at < length db → clause_at db at ≡ lit ∷ [] → length lines + 1 < 2 ^ 32
        → IsRecord log f v atoms db (set cites at (hint.Line (length lines + 1))) (lines ++ line.Cycle steps ∷ [])
    order_settled stands clause few =
        record_settled log f v atoms db cites lines (line.Cycle steps) at old stands cycle_spelled conflict (rw clause clause_is) (rw clause (omega arith)) few

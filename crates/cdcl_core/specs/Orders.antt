-- Order atoms as differences of nodes: node e + 1 is row e. A variable stands for the atom at its place.
use Rattle.std.specs.Prelude.{◌≡◌, ℕ, ◌+◌, ◌<◌, List, [], ◌∷◌, ◌++◌, length, filter, Bool, true, false, Option, Some, None, is_some, slice_index_or, ℤ, pos, ◌-ℤ◌, neg_ℤ}
use Rattle.mt_model.specs.declared.limits.TheConstants.{MAX_ORDER}
use Rattle.mt_model.specs.declared.step.Step.{Step}
use Rattle.mt_model.specs.declared.step.Step.TheVariants as step
use Rattle.mt_model.specs.Log.{IsWithin}
use Rattle.neg_cycle.specs.declared.system.Edge.{Edge}
use Rattle.neg_cycle.specs.Systems.{IsEdge, IsNegativeCycle, VisitsOnce}
use Rattle.difference_graph.specs.Graphs.{Constraints}
use Rattle.clause_db.specs.declared.lit.Lit.{Lit}
use Rattle.propagate.specs.Links.{edge_in, edges_at}
use Rattle.axiom_rules.specs.declared.literal.Atom.{Atom}
use Rattle.axiom_rules.specs.declared.literal.Atom.TheVariants.{Order, Node, First, Same, Wit, Span, Gap}
use Rattle.axiom_rules.specs.declared.literal.Literal.{Literal}
use Rattle.axiom_rules.specs.Atoms.{IsVar}

-- the atom of a variable
abbrev pub atom_at : List Atom → ℕ → Atom
atom_at atoms v = slice_index_or atoms v (First 0)

-- a literal of a variable, read as one of its atom
abbrev pub read_lit : List Atom → Lit → Literal
read_lit atoms l = record { atom = atom_at atoms l.var; positive = l.positive }

-- t_e - t_f <= c, for two rows whose nodes are among so many, the smaller first; c and the bound of the negation are bounds
-- that an order step may have
pub record IsOrderOf (nodes e f : ℕ) (c : ℤ) : Type 0 where
  pub smaller_first : e < f
  pub second : f + 1 < nodes
  pub bound : IsWithin MAX_ORDER c
  pub negated : IsWithin MAX_ORDER (neg_ℤ c -ℤ pos 1)

-- the atom, where it is an order, is one of two rows whose nodes are among so many; one of one instant has its smaller event first
abbrev pub IsOrderAmong : ℕ → Atom → Type 0
IsOrderAmong nodes (Order e f c) = IsOrderOf nodes e f c
IsOrderAmong nodes (Node k e) = Unit {0}
IsOrderAmong nodes (First e) = Unit {0}
IsOrderAmong nodes (Same e x) = e < x
IsOrderAmong nodes (Wit k i j) = Unit {0}
IsOrderAmong nodes (Span k i j) = Unit {0}
IsOrderAmong nodes (Gap k i m) = Unit {0}

-- the edges of an order: that it holds, x_(e+1) - x_(f+1) <= c, and that it doesn't, x_(f+1) - x_(e+1) <= -c - 1
abbrev pub order_edges : Atom → Option (Edge × Edge)
order_edges (Order e f c) = Some (record { from = e + 1; to = f + 1; bound = c }, record { from = f + 1; to = e + 1; bound = neg_ℤ c -ℤ pos 1 })
order_edges (Node k e) = None
order_edges (First e) = None
order_edges (Same e x) = None
order_edges (Wit k i j) = None
order_edges (Span k i j) = None
order_edges (Gap k i m) = None

-- the held edges close a walk of negative sum with the edge of an order in this sense, and the graph gives the walk
abbrev pub RefusesOrder : Constraints → Atom → Bool → Type 0
RefusesOrder g atom positive = (edge : Edge) × (edge_in (order_edges atom) positive ≡ Some edge) × IsEdge g.nodes edge
    × IsNegativeCycle (g.edges ++ edge ∷ []) g.cycle × VisitsOnce (g.edges ++ edge ∷ []) g.cycle

-- an order with its sense, as a step
abbrev pub sensed_step : Bool → Atom → Option Step
sensed_step true (Order e f c) = Some (step.Order e f c)
sensed_step false (Order e f c) = Some (step.Order f e (neg_ℤ c -ℤ pos 1))
sensed_step _ (Node k e) = None
sensed_step _ (First e) = None
sensed_step _ (Same e x) = None
sensed_step _ (Wit k i j) = None
sensed_step _ (Span k i j) = None
sensed_step _ (Gap k i m) = None

-- the step of an order literal; no other literal has one
abbrev pub order_step : Literal → Option Step
order_step l = sensed_step l.positive l.atom

-- each variable that has edges has those of its atom
pub record AreLinks (atoms : List Atom) (links : List (Option (Edge × Edge))) : Type 0 where
  pub count : length links ≡ length atoms
  pub each : (v : ℕ) (a : Atom) (both : Edge × Edge) → IsVar atoms v a → edges_at links v ≡ Some both → order_edges a ≡ Some both

-- each variable of an order atom has edges
abbrev pub HasAllLinks : List Atom → List (Option (Edge × Edge)) → Type 0
HasAllLinks atoms links = (v : ℕ) (a : Atom) → IsVar atoms v a → edges_at links v ≡ order_edges a

-- those of the literals that have an edge, in order
abbrev pub linked : List (Option (Edge × Edge)) → List Lit → List Lit
linked links lits = filter (λ l. is_some (edges_at links l.var)) lits

-- The edges of literals.
use Rattle.std.specs.Prelude.{ℕ, List, Bool, true, false, Option, Some, None, filter_map, slice_index_or}
use Rattle.neg_cycle.specs.declared.system.Edge.{Edge}
use Rattle.clause_db.specs.declared.lit.Lit.{Lit}

-- the edges of a variable, if it has any
abbrev pub edges_at : List (Option (Edge × Edge)) → ℕ → Option (Edge × Edge)
edges_at links v = slice_index_or links v None

-- of a variable's edges the first is that of the positive literal, the second that of the negative one
abbrev pub edge_in : Option (Edge × Edge) → Bool → Option Edge
edge_in None positive = None
edge_in (Some both) true = Some both.0
edge_in (Some both) false = Some both.1

-- the edge of a literal, if it has one
abbrev pub edge_of : List (Option (Edge × Edge)) → Lit → Option Edge
edge_of links l = edge_in (edges_at links l.var) l.positive

-- the edges of those of the literals that have one, in order
abbrev pub edges_of : List (Option (Edge × Edge)) → List Lit → List Edge
edges_of links lits = filter_map (edge_of links) lits

-- Walks over the edges of bounds and, after them, those of order literals. A place of a walk is that of an edge.
use Rattle.std.specs.Prelude.{ℕ, ◌-◌, ◌<◌, nat_lt, if◌then◌else◌, List, length, false, Option, Some, None, IsSome, All, slice_index_or}
use Rattle.std.specs.List.{filter_map}
use Rattle.mt_model.specs.declared.bound.Bound.{Bound}
use Rattle.mt_model.specs.declared.step.Step.{Step}
use Rattle.mt_model.specs.Bounds.{step_of}
use Rattle.neg_cycle.specs.declared.system.TheConstants.{MAX_NODES}
use Rattle.skew_bounds.specs.Edges.{bound_at}
use Rattle.clause_db.specs.declared.lit.Lit.{Lit}
use Rattle.clause_db.specs.Literals.{negation}
use Rattle.axiom_rules.specs.declared.literal.Atom.{Atom}
use Rattle.cdcl_core.specs.Orders.{IsOrderAmong, atom_at, order_step, read_lit}

-- the literal at a place of a list
abbrev pub lit_at : List Lit → ℕ → Lit
lit_at lits k = slice_index_or lits k (record { var = 0; positive = false })

-- each literal is one of an order atom that is held
pub record IsHeldOrder (atoms : List Atom) (l : Lit) : Type 0 where
  pub within : l.var < length atoms
  pub among : IsOrderAmong MAX_NODES (atom_at atoms l.var)
  pub steps : IsSome (order_step (read_lit atoms l))

abbrev pub AreOrders : List Atom → List Lit → Type 0
AreOrders atoms orders = All (IsHeldOrder atoms) orders

-- the step at a place: that of a bound, or of one of the literals
abbrev pub step_in : List Bound → List Atom → List Lit → ℕ → Option Step
step_in bounds atoms orders p = if nat_lt p (length bounds) then Some (step_of (bound_at bounds p)) else order_step (read_lit atoms (lit_at orders (p - length bounds)))

-- the negation of the literal at a place, where that isn't one of the bounds, which are so many
abbrev pub denied_at : ℕ → List Lit → ℕ → Option Lit
denied_at base orders p = if nat_lt p base then None else Some (negation (lit_at orders (p - base)))

-- the clause that not all literals of a walk hold
abbrev pub denied_in : ℕ → List Lit → List ℕ → List Lit
denied_in base orders walk = filter_map (denied_at base orders) walk

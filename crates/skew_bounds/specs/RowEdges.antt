-- The edges of a log's bounds, row by row.
use Rattle.std.specs.Prelude.{◌≡◌, ℕ, List, length, Option, Some, IfSome, option_map, slice_get}
use Rattle.neg_cycle.specs.declared.system.Edge.{Edge as SystemEdge}
use Rattle.neg_cycle.specs.Systems.{IsEdge}
use Rattle.mt_model.specs.declared.step.Step.{Step}
use Rattle.mt_model.specs.declared.step.Step.TheVariants as step
use Rattle.mt_model.specs.Log.{Logged}
use Rattle.mt_model.specs.Walks.{edge_of, node_count_of}
use Rattle.skew_bounds.specs.declared.row_edges.RowEdges.{RowEdges}
use Rattle.skew_bounds.specs.Edges.{edge_in}

-- it is the edge of a step, where the log has that step
pub record IsEdgeOf (log : Logged) (s : Step) (edge : Option SystemEdge) : Type 0 where
  pub same : option_map edge_in edge ≡ edge_of log s
  pub within : IfSome edge (IsEdge (node_count_of log))

-- they are the edges of the bounds of row e
pub record AreRowEdges (log : Logged) (e : ℕ) (row : RowEdges) : Type 0 where
  pub low : IsEdgeOf log (step.Low e) row.low
  pub high : IsEdgeOf log (step.High e) row.high
  pub rise : IsEdgeOf log (step.Rise e) row.rise
  pub message : IsEdgeOf log (step.Message e) row.message
  pub late : IsEdgeOf log (step.Late e) row.late
  pub under : IsEdgeOf log (step.Under e) row.under
  pub over : IsEdgeOf log (step.Over e) row.over

-- they are the edges of the bounds of each row
pub record IsEdgeTableOf (log : Logged) (table : List RowEdges) : Type 0 where
  pub count : length table ≡ length log.rows
  pub rows : (e : ℕ) (row : RowEdges) → slice_get table e ≡ Some row → AreRowEdges log e row

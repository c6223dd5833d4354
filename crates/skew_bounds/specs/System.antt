-- The bounds of a log as a system of difference constraints.
use Rattle.std.specs.Prelude.{◌≡◌, All}
use Rattle.neg_cycle.specs.Systems.{IsEdge}
use Rattle.mt_model.specs.Bounds.{bounds_of}
use Rattle.mt_model.specs.Clocks.{readings_of}
use Rattle.mt_model.specs.Log.{Logged}
use Rattle.mt_model.specs.Walks.{node_count_of}
use Rattle.skew_bounds.specs.declared.system.BoundSystem.{BoundSystem}
use Rattle.skew_bounds.specs.Edges.{AreEdges}

-- the bounds of the log with the edge of each, between the zero moment, the rows and the clocks; and the readings of its rows
pub record IsSystemOf (log : Logged) (system : BoundSystem) : Type 0 where
  pub bounds : system.bounds ≡ bounds_of log
  pub edges : AreEdges log system.bounds system.edges
  pub readings : system.readings ≡ readings_of log
  pub within : All (IsEdge (node_count_of log)) system.edges

-- What is asked.
use Rattle.std.specs.Prelude.{◌≡◌, ◌≤◌, ◌+◌, ℕ, List, length, None}
use Rattle.mt_model.specs.Form.{Form}
use Rattle.mt_model.specs.Log.{Logged}
use Rattle.mt_model.specs.State.{unknown_host}
use Rattle.formula_arena.specs.Nodes.{nodes_of}
use Rattle.formula_arena.specs.declared.arena.TheConstants.{MAX_NODES}
use Rattle.skew_bounds.specs.declared.system.BoundSystem.{BoundSystem}
use Rattle.skew_bounds.specs.System.{IsSystemOf}

-- a formula that is asked of a log
pub record Asked : Type 0 where
  pub log : Logged
  pub form : Form

-- the nodes are those of the formula, which has few enough, and the root is the last
pub record HasNodes (f : Form) (nodes : List Form) (root : ℕ) : Type 0 where
  pub all : nodes ≡ nodes_of f
  pub last : root + 1 ≡ length nodes
  pub few : length nodes ≤ MAX_NODES

-- the hosts of the formula are in the log, and it has few enough nodes
pub record HasFewNodes (log : Logged) (f : Form) : Type 0 where
  pub hosts : unknown_host log f ≡ None
  pub few : length (nodes_of f) ≤ MAX_NODES

-- the formula can be asked of the log, and these are the bounds of the log with their edges
pub record IsPut (log : Logged) (f : Form) (system : BoundSystem) : Type 0 where
  pub asked : HasFewNodes log f
  pub bounds : IsSystemOf log system

-- What a replayer judges timings by.
use Rattle.std.specs.Prelude.{◌≡◌, ◌*◌, ◌<◌, ◌≤◌, ℕ, List, length, Bool, Option}
use Rattle.mt_model.specs.declared.bound.Bound.{Bound}
use Rattle.mt_model.specs.declared.reading.Reading.{Reading}
use Rattle.mt_model.specs.Bounds.{bounds_of}
use Rattle.mt_model.specs.Clocks.{readings_of}
use Rattle.mt_model.specs.Form.{Form}
use Rattle.mt_model.specs.Log.{Logged}
use Rattle.formula_arena.specs.declared.arena.TheConstants.{MAX_NODES}
use Rattle.witness_replay.specs.declared.timeline.Moment.{Moment}

-- a log and the core of a formula
pub record Judged : Type 0 where
  pub log : Logged
  pub core : Form

-- the nodes have a root, the bounds and the readings are those of the log, there is a moment for each row, and the table has a place for each node at each row
pub record IsReady (log : Logged) (trees : List Form) (root : ℕ) (bounds : List Bound) (readings : List (Option Reading)) (moments : List Moment) (table : List Bool) : Type 0 where
  pub rooted : root < length trees
  pub few : length trees ≤ MAX_NODES
  pub listed : bounds ≡ bounds_of log
  pub read : readings ≡ readings_of log
  pub each_row : length moments ≡ length log.rows
  pub room : length table ≡ length trees * length log.rows

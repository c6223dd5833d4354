-- Truth values of the rows, and what until and since ask of them.
use Rattle.std.specs.Prelude.{◌≡◌, ◌<◌, ℕ, List, length, Bool, true, false, ◌&&◌, slice_index_or, Option, ℤ}
use Rattle.std.specs.Option.{option_map_or}
use Rattle.mt_model.specs.declared.tree.Interval.{Interval}
use Rattle.mt_model.specs.Frame.{reaches}
use Rattle.mt_model.specs.Log.{Logged}
use Rattle.mt_model.specs.State.{state}
use Rattle.mt_model.specs.Timing.{time_of}
use Rattle.formula_arena.specs.declared.direction.Direction.{Direction}
use Rattle.witness_replay.specs.declared.operators.Operator.{Operator}
use Rattle.witness_replay.specs.Directions.{rows_from, is_near}

-- the value of row e
abbrev pub value_at : List Bool → ℕ → Bool
value_at column e = slice_index_or column e false

-- a value for each of so many rows, which is that of a test
pub record IsColumn (rows : ℕ) (test : ℕ → Bool) (column : List Bool) : Type 0 where
  pub full : length column ≡ rows
  pub each : (e : ℕ) → e < rows → value_at column e ≡ test e

-- the state of a host's proposition at each row
abbrev pub AreStates : Logged → List ℤ → ℕ → List ℕ → List Bool → Type 0
AreStates log t host name column = IsColumn (length t) (λ e. state log t (time_of t e) host name) column

-- a row, where there is one, is near row e, and not after the first gap, where there is one
abbrev pub is_reached : Direction → List ℤ → Interval → Option ℕ → Option ℕ → ℕ → Bool
is_reached d t I witness gap e = option_map_or (λ w. is_near d t I e w && option_map_or (λ g. (rows_from d t).not_after w g) gap true) witness false

-- until, or since with time turned, at row e
abbrev pub reaches_from : Direction → List ℤ → Interval → List Bool → List Bool → ℕ → Bool
reaches_from d t I left right e = reaches (rows_from d t) (is_near d t I) (value_at left) (value_at right) e

-- the operator at row e
abbrev pub reaches_by : Operator → List ℤ → List Bool → List Bool → ℕ → Bool
reaches_by o t left right e = reaches_from o.direction t o.interval left right e

-- The numbers that limit logs, timings and formulas.
use Rattle.std.specs.Prelude.{◌≡◌, pos}
use Rattle.mt_model.specs.declared.limits.TheConstants.{MAX_NAME_LENGTH, MAX_HOSTS, MAX_ROWS, MAX_CLOCKS, MAX_EXTRAS, MAX_WRITTEN_EXTRAS, MAX_LOCAL, MAX_WRITTEN_SKEW, MAX_SKEW, MAX_GAP, MAX_ERROR, MIN_DELAY, MAX_DELAY, MAX_EXTRA, MAX_ORDER, MAX_HEIGHT, TOO_MANY_PROPOSITIONS, MAX_DISTANCE, MAX_TIME}

-- the limits of logs, of true times, and of the bounds of order steps
pub record LogLimits : Type 0 where
  pub name_length : MAX_NAME_LENGTH ≡ 32
  pub hosts : MAX_HOSTS ≡ 64
  pub rows : MAX_ROWS ≡ 1024
  pub clocks : MAX_CLOCKS ≡ 1024
  pub extras : MAX_EXTRAS ≡ 1048576
  pub written_extras : MAX_WRITTEN_EXTRAS ≡ 1048575
  pub local : MAX_LOCAL ≡ pos 4000000000000000000
  pub written_skew : MAX_WRITTEN_SKEW ≡ pos 1000000000000000000
  pub skew : MAX_SKEW ≡ pos 2000000000000000000
  pub gap : MAX_GAP ≡ pos 1000000000000000000
  pub error : MAX_ERROR ≡ pos 1000000000000000000
  pub least_delay : MIN_DELAY ≡ 1
  pub delay : MAX_DELAY ≡ 1000000000000000000
  pub extra : MAX_EXTRA ≡ pos 100000000000000000000
  pub time : MAX_TIME ≡ pos 10000000000000000000
  pub order : MAX_ORDER ≡ pos 1000000000000000000000

-- the limits of formulas
pub record FormulaLimits : Type 0 where
  pub height : MAX_HEIGHT ≡ 200
  pub propositions : TOO_MANY_PROPOSITIONS ≡ 2147483648
  pub distance : MAX_DISTANCE ≡ 1000000000000000000

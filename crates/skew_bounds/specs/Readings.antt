-- Readings of clocks, two by two.
use Rattle.std.specs.Prelude.{◌==◌, Option, Some, None, if◌then◌else◌, ℤ, pos, ◌+ℤ◌, ◌≤ℤ◌}
use Rattle.mt_model.specs.declared.limits.TheConstants.{MAX_ERROR}
use Rattle.mt_model.specs.declared.reading.Reading.{Reading}

-- the error of a reading is in its range
pub record HasError (r : Reading) : Type 0 where
  pub low : pos 0 ≤ℤ r.error
  pub high : r.error ≤ℤ MAX_ERROR

-- the error that two readings have together, where they are of one clock
abbrev pub error_together : Option Reading → Option Reading → Option ℤ
error_together None second = None
error_together (Some r) None = None
error_together (Some r) (Some q) = if r.clock == q.clock then Some (r.error +ℤ q.error) else None

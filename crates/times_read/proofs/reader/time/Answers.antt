use Rattle.std.proofs.Common.{Option, Some, None, ℤ, pos, ◌+ℤ◌, ◌≤ℤ◌}
use Rattle.std.specs.Prelude.{IfSome}
use Rattle.mt_model.specs.declared.limits.TheConstants.{MAX_TIME}
use Rattle.mt_model.specs.Log.{IsWithin}
use Rattle.times_read.proofs.reader.time.Goals as goal

within : (most : ℤ) (o : Option ℤ) → IfSome o (λ z. pos 0 ≤ℤ (z +ℤ most)) → IfSome o (λ z. z ≤ℤ most) → IfSome o (IsWithin most)
within most None low high = tt
within most (Some z) low high = record { low = low; high = high }

pub returns-clause-range : goal.returns-clause-range
returns-clause-range c = within MAX_TIME c.signed_number.result c.signed_number.ensures.low c.signed_number.ensures.high

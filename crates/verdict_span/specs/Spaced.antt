-- Logs in which one row comes at least so long after another.
use Rattle.std.specs.Prelude.{◌≢◌, ℕ, ◌<◌, length, ℤ, neg_ℤ}
use Rattle.mt_model.specs.Log.{Logged, with_extra}
use Rattle.mt_model.specs.declared.limits.TheConstants.{MAX_EXTRAS}

-- the log with the extra bound that row `to` comes at least c after row e
abbrev pub spaced : ℕ → ℕ → ℤ → Logged → Logged
spaced e to c log = with_extra log (record { e = e; f = to; c = neg_ℤ c })

-- these are two rows of the log, which has room for an extra bound between them
pub record CanBeSpaced (log : Logged) (e to : ℕ) : Type 0 where
  pub row : e < length log.rows
  pub other : to < length log.rows
  pub apart : e ≢ to
  pub room : length log.extras < MAX_EXTRAS

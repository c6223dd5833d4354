-- How many clocks are read.
use Rattle.std.specs.Prelude.{ℕ, ◌<◌, List, All}
use Rattle.mt_model.specs.declared.reading.Reading.{Reading}
use Rattle.mt_model.specs.Log.{AreInTurn, IsRead}

-- the clocks below n are read, in the order in which they are first read, and no other ones
pub record AreReadUpTo (readings : List Reading) (n : ℕ) : Type 0 where
  pub in_turn : AreInTurn readings
  pub read : (k : ℕ) → k < n → IsRead k readings
  pub below : All (λ r. r.clock < n) readings

-- Clauses in one list of literals, with the place after the last literal of each.
use Rattle.std.specs.Prelude.{◌≡◌, ℕ, ◌^◌, ◌<◌, List, length, All}
use Rattle.hint_refutation.specs.Pieces.{Rise, last_end, pieces_from}
use Rattle.clause_db.specs.declared.lit.Lit.{Lit}
use Rattle.clause_db.specs.Literals.{HasVarsOnce}

-- the ends part all of the literals into clauses with no variable twice
pub record IsFlat (lits : List Lit) (ends : List ℕ) : Type 0 where
  pub rising : Rise 0 ends (length lits)
  pub whole : last_end 0 ends ≡ length lits
  pub few : length ends < 2 ^ 32
  pub once : All HasVarsOnce (pieces_from 0 lits ends)

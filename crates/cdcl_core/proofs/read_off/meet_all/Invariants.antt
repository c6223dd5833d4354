use Rattle.std.proofs.Common.{◌≡◌, ℕ, ◌<◌, true}
use Rattle.std.specs.List.{list_any}
use Rattle.clause_db.specs.Literals.{value_of}
use Rattle.clause_db.specs.Clauses.{clause_at}
use Rattle.mtl_encode.specs.Models.{value_at}
use Rattle.cdcl_core.proofs.read_off.meet_all.Given as goal

abbrev pub invariant-loop-c : goal.invariant-loop-c
invariant-loop-c l = (k : ℕ) → k < l.c → list_any (value_of (value_at l.values)) (clause_at l.db k) ≡ true

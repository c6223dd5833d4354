use Rattle.std.proofs.Common.{◌≤◌, ◌<◌, length}
use Rattle.std.specs.Prelude.{All}
use Rattle.clause_db.specs.declared.lit.Lit.{Lit}
use Rattle.cdcl_core.proofs.decided.decided_by.Given as goal

abbrev pub invariant-loop-v : goal.invariant-loop-v
invariant-loop-v l = record {
  within : All (λ (m : Lit). m.var < length l.atoms) l.lits.items;
  few : length l.lits.items ≤ l.v;
}

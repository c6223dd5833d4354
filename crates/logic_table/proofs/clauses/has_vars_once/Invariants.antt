use Rattle.std.proofs.Common.{take}
use Rattle.clause_db.specs.Literals.{HasVarsOnce}
use Rattle.logic_table.proofs.clauses.has_vars_once.Given as goal

abbrev pub invariant-loop-place : goal.invariant-loop-place
invariant-loop-place l = HasVarsOnce (take l.place l.lits)

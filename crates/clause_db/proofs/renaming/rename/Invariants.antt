use Rattle.std.proofs.Common.{◌≡◌, ◌++◌, drop, map, take}
use Rattle.clause_db.specs.Renaming.{moved}
use Rattle.clause_db.proofs.renaming.rename.Given as goal

abbrev pub invariant-loop-lit : goal.invariant-loop-lit
invariant-loop-lit l = l.lits ≡ map (moved l.places) (take l.lit-index l.initial.lits) ++ drop l.lit-index l.initial.lits

use Rattle.std.proofs.Common.{◌≡◌, take}
use Rattle.mtl_encode.specs.Growth.{with_atoms}
use Rattle.mtl_encode.specs.Problems.{ReadsAs}
use Rattle.mtl_encode.proofs.clauses.write_lits.Given as goal

abbrev pub invariant-loop-place : goal.invariant-loop-place
invariant-loop-place l = record {
  atoms : l.atoms ≡ with_atoms l.fn.atoms (take l.place l.clause);
  read : ReadsAs l.atoms l.lits.items (take l.place l.clause);
}

use Rattle.std.proofs.Common.{◌≡◌, ◌++◌, map, take}
use Rattle.mtl_encode.proofs.variables.push_others.Given as goal

abbrev pub invariant-loop-other : goal.invariant-loop-other
invariant-loop-other l = l.vars.items ≡ l.fn.vars.items ++ map (λ r. r.var) (take l.other-index l.others)

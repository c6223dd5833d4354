use Rattle.std.proofs.Common.{◌≡◌, ◌++◌, take}
use Rattle.proof_log.specs.Freshness.{learnt}
use Rattle.logic_table.proofs.known.add_learnt.Given as goal

abbrev pub invariant-loop-line : goal.invariant-loop-line
invariant-loop-line l = l.clauses.items ≡ l.fn.clauses.items ++ learnt (take l.line-index l.lines)

use Rattle.std.proofs.Common.{◌≡◌, ◌++◌, take}
use Rattle.proof_log.specs.Freshness.{clauses_of}
use Rattle.logic_table.proofs.known.add_clauses.Given as goal

abbrev pub invariant-loop-rule : goal.invariant-loop-rule
invariant-loop-rule l = l.clauses.items ≡ l.fn.clauses.items ++ clauses_of l.sought (take l.rule-index l.rules)

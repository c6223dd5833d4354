use Rattle.std.proofs.Common.{◌≡◌, take}
use Rattle.proof_log.specs.Freshness.{named_rules}
use Rattle.logic_table.proofs.known.named.Given as goal

abbrev pub invariant-loop-line : goal.invariant-loop-line
invariant-loop-line l = l.rules.items ≡ named_rules (take l.line-index l.lines)

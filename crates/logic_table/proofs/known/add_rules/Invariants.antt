use Rattle.std.proofs.Common.{◌≡◌, ◌++◌, take}
use Rattle.std.specs.List.{filter_map}
use Rattle.proof_log.specs.Freshness.{rule_of_hint}
use Rattle.logic_table.proofs.known.add_rules.Given as goal

abbrev pub invariant-loop-hint : goal.invariant-loop-hint
invariant-loop-hint l = l.rules.items ≡ l.fn.rules.items ++ filter_map rule_of_hint (take l.hint-index l.hints)

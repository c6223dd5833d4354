use Rattle.std.proofs.Common.{take}
use Rattle.std.specs.Prelude.{All}
use Rattle.cdcl_core.specs.Recording.{IsRuleInRange}
use Rattle.cdcl_core.proofs.cites.rules_fit.Given as goal

abbrev pub invariant-loop-rule : goal.invariant-loop-rule
invariant-loop-rule l = All IsRuleInRange (take l.rule-index l.rules)

use Rattle.std.proofs.Common.{arith, rules}
use Rattle.std.proofs.lemmas.List.Elements.{All-more}
use Rattle.cdcl_core.specs.Recording.{IsRuleInRange}
use Rattle.cdcl_core.proofs.cites.rules_fit.Goals as goal

pub loop-rule-preserved : goal.loop-rule-preserved
loop-rule-preserved c =
    All-more IsRuleInRange c.args.rules.now c.loop-rule.rule-index _ (omega arith) c.loop-rule.invariant
    (record { number = c.rule_fits.ensures.number; four = search rules; each = c.rule_fits.ensures.arguments })

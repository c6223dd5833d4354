use Rattle.std.proofs.Common.{◌≡◌, ◌∙◌, ◌+◌, ap, sym, drop, map, rules}
use Rattle.std.specs.Prelude.{fold}
use Rattle.clap.specs.Words.{app_of, rule_of, with_rule}
use Rattle.skew_words.specs.Matched.{operand_rule}
use Rattle.skew_words.specs.Table.{name_of}
use Rattle.skew_words.proofs.TableLemmas.{fold-next}
use Rattle.skew_words.proofs.matches.command.Goals as goal

pub loop-operand-preserved : goal.loop-operand-preserved
loop-operand-preserved c =
    let more : app_of c.in_ok-command-2.command ≡ with_rule (app_of c.loop-operand.command) (rule_of c.positional.result) = search rules in
    let rule = c.positional.ensures.rule ∙ ap operand_rule c.name-name.ensures in
    let next = more ∙ ap (with_rule (app_of c.loop-operand.command)) rule in
    c.loop-operand.invariant ∙ fold-next with_rule (λ o. operand_rule (name_of o)) _ _ _ _ c.loop-operand-test.true
    ∙ sym (ap (λ z. fold with_rule z (map (λ o. operand_rule (name_of o)) (drop (c.loop-operand.operand-index + 1) c.row-row.result.operands.now))) next)

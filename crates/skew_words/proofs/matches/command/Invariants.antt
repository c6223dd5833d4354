use Rattle.std.proofs.Common.{◌≡◌, drop, map}
use Rattle.std.specs.Prelude.{fold}
use Rattle.clap.specs.Words.{app_of, with_rule}
use Rattle.skew_words.specs.Matched.{app_for, operand_rule}
use Rattle.skew_words.specs.Table.{name_of}
use Rattle.skew_words.proofs.matches.command.Given as goal

abbrev pub invariant-loop-operand : goal.invariant-loop-operand
invariant-loop-operand l = app_for l.fn.verb ≡ fold with_rule (app_of l.command) (map (λ o. operand_rule (name_of o)) (drop l.operand-index l.operand-items))

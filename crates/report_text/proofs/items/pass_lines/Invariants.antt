use Rattle.std.proofs.Common.{◌-◌}
use Rattle.proof_log.specs.Spelled.{IsSpelled as IsSpelledLine}
use Rattle.report_text.proofs.LineTexts.{joined}
use Rattle.report_text.proofs.ItemLists.{ArePassedUpTo}
use Rattle.report_text.proofs.LineTexts.{lines-spelled}
use Rattle.report_text.proofs.items.pass_lines.Given as goal

abbrev pub invariant-loop-passed : goal.invariant-loop-passed
invariant-loop-passed l = ArePassedUpTo IsSpelledLine joined lines-spelled l.count l.bytes l.passed l.rest

abbrev pub decreases-loop-passed : goal.decreases-loop-passed
decreases-loop-passed l = l.count - l.passed

use Rattle.std.proofs.Common.{◌-◌}
use Rattle.mt_model.specs.Texts.{step_text}
use Rattle.report_text.specs.Spelled.{IsSpelledBound}
use Rattle.report_text.proofs.ItemLists.{ArePassedUpTo}
use Rattle.report_text.proofs.LineTexts.{bounds-spelled}
use Rattle.report_text.proofs.items.pass_bounds.Given as goal

abbrev pub invariant-loop-passed : goal.invariant-loop-passed
invariant-loop-passed l = ArePassedUpTo IsSpelledBound step_text bounds-spelled l.count l.bytes l.passed l.rest

abbrev pub decreases-loop-passed : goal.decreases-loop-passed
decreases-loop-passed l = l.count - l.passed

use Rattle.std.proofs.Common.{◌≡◌, ◌++◌, length, take}
use Rattle.std.specs.Fmt.{decimal}
use Rattle.proof_log.specs.LinesText.{lines_text}
use Rattle.report_text.specs.ReportText.{ended}
use Rattle.report_text.proofs.printer.push_derivation.Given as goal

abbrev pub invariant-loop-line : goal.invariant-loop-line
invariant-loop-line l = l.text.items ≡ l.fn.text.items ++ (ended (l.words ++ decimal (length l.lines)) ++ lines_text (take l.line-index l.lines))

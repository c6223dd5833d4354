use Rattle.std.proofs.Common.{◌≡◌, take}
use Rattle.proof_log.specs.LinesText.{lines_text}
use Rattle.proof_log.proofs.printer.print_lines.Given as goal

abbrev pub invariant-loop-line : goal.invariant-loop-line
invariant-loop-line l = l.text.items ≡ lines_text (take l.line-index l.lines)

use Rattle.std.proofs.Common.{take}
use Rattle.std.specs.Prelude.{All}
use Rattle.proof_log.specs.Spelled.{IsSpelled as IsSpelledLine}
use Rattle.report_text.proofs.spelling.is_each_spelled.Given as goal

abbrev pub invariant-loop-line : goal.invariant-loop-line
invariant-loop-line l = All IsSpelledLine (take l.line-index l.lines)

use Rattle.std.proofs.Common.{◌≡◌, ◌++◌, take}
use Rattle.proof_log.specs.LinesText.{number_words, spaced}
use Rattle.proof_log.proofs.printer.push_numbers.Given as goal

abbrev pub invariant-loop-number : goal.invariant-loop-number
invariant-loop-number l = l.text.items ≡ l.fn.text.items ++ spaced (number_words (take l.number-index l.numbers))

use Rattle.std.proofs.Common.{◌≡◌, ◌∷◌, ◌++◌, length, take}
use Rattle.std.specs.Fmt.{decimal}
use Rattle.std.specs.List.{flat_map}
use Rattle.proof_log.specs.LinesText.{literal_words, spaced}
use Rattle.proof_log.proofs.printer.push_literals.Given as goal

abbrev pub invariant-loop-literal : goal.invariant-loop-literal
invariant-loop-literal l = l.text.items ≡ l.fn.text.items ++ spaced (decimal (length l.lits) ∷ flat_map literal_words (take l.literal-index l.lits))

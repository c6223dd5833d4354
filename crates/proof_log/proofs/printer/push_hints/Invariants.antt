use Rattle.std.proofs.Common.{◌≡◌, ◌∷◌, ◌++◌, length, take}
use Rattle.std.specs.Fmt.{decimal}
use Rattle.std.specs.List.{flat_map}
use Rattle.proof_log.specs.LinesText.{hint_words, spaced}
use Rattle.proof_log.proofs.printer.push_hints.Given as goal

abbrev pub invariant-loop-hint : goal.invariant-loop-hint
invariant-loop-hint l = l.text.items ≡ l.fn.text.items ++ spaced (decimal (length l.hints) ∷ flat_map hint_words (take l.hint-index l.hints))

use Rattle.std.proofs.Common.{◌≡◌, ◌∷◌, ◌++◌, length, take}
use Rattle.std.specs.Fmt.{decimal}
use Rattle.std.specs.List.{flat_map}
use Rattle.proof_log.specs.LinesText.{spaced, step_words}
use Rattle.proof_log.proofs.printer.push_steps.Given as goal

abbrev pub invariant-loop-step : goal.invariant-loop-step
invariant-loop-step l = l.text.items ≡ l.fn.text.items ++ spaced (decimal (length l.steps) ∷ flat_map step_words (take l.step-index l.steps))

use Rattle.std.proofs.Common.{◌≡◌, ◌-◌, ◌++◌, drop, map, take}
use Rattle.std.specs.Prelude.{slice_index}
use Rattle.proof_trim.specs.Trimmed.{hint_renumbered}
use Rattle.proof_trim.proofs.copy.renumber.Given as goal

abbrev pub invariant-loop-hint : goal.invariant-loop-hint
invariant-loop-hint l = l.hints ≡ map (hint_renumbered (λ n. slice_index l.places (n - 1))) (take l.hint-index l.fn.hints) ++ drop l.hint-index l.fn.hints

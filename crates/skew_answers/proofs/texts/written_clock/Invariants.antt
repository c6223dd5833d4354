use Rattle.std.proofs.Common.{◌≡◌, ◌++◌, take}
use Rattle.std.specs.Prelude.{string_bytes, codes}
use Rattle.std.specs.Fmt.{decimal}
use Rattle.std.specs.List.{flat_map}
use Rattle.skew_answers.proofs.texts.written_clock.Given as goal

abbrev pub invariant-loop-number : goal.invariant-loop-number
invariant-loop-number l = string_bytes l.text ≡ decimal l.fn.event ++ codes ":" ++ flat_map (λ n. codes " " ++ decimal n) (take l.number-index l.clock)

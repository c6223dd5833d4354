use Rattle.std.proofs.Common.{◌≡◌, ◌++◌, length, take}
use Rattle.std.specs.Prelude.{string_bytes, codes}
use Rattle.std.specs.Fmt.{decimal}
use Rattle.std.specs.List.{flat_map}
use Rattle.skew_answers.specs.Texts.{line}
use Rattle.skew_answers.proofs.texts.written_cycle.Given as goal

abbrev pub invariant-loop-event : goal.invariant-loop-event
invariant-loop-event l = string_bytes l.text ≡ line (codes "cycle " ++ decimal (length l.events)) ++ flat_map (λ e. line (decimal e)) (take l.event-index l.events)

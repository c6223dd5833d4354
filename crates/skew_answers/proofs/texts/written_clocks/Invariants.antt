use Rattle.std.proofs.Common.{◌≡◌, []}
use Rattle.std.specs.Prelude.{slice_index_or, string_bytes}
use Rattle.std.specs.List.{flat_map, range_with_len}
use Rattle.skew_answers.specs.Texts.{clock_line}
use Rattle.skew_answers.proofs.texts.written_clocks.Given as goal

abbrev pub invariant-loop-event : goal.invariant-loop-event
invariant-loop-event l = string_bytes l.text ≡ flat_map (λ e. clock_line e (slice_index_or (l.order).clocks e [])) (range_with_len 0 l.event)

use Rattle.std.proofs.Common.{◌≡◌}
use Rattle.std.specs.Prelude.{filter}
use Rattle.std.specs.List.{range_with_len}
use Rattle.axiom_rules.specs.Rules.{is_pulse_row}
use Rattle.mtl_encode.proofs.pulses.pulse_rows.Given as goal

abbrev pub invariant-loop-e : goal.invariant-loop-e
invariant-loop-e l = l.pulses.items ≡ filter (is_pulse_row l.rules.log) (range_with_len 0 l.e)

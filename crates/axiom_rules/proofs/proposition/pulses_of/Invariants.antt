use Rattle.std.proofs.Common.{◌≡◌}
use Rattle.std.specs.Prelude.{filter}
use Rattle.std.specs.List.{range_with_len}
use Rattle.mt_model.specs.State.{is_pulse_at}
use Rattle.axiom_rules.proofs.proposition.pulses_of.Given as goal

abbrev pub invariant-loop-e : goal.invariant-loop-e
invariant-loop-e l = l.list ≡ filter (is_pulse_at l.log l.host l.name) (range_with_len 0 l.e)

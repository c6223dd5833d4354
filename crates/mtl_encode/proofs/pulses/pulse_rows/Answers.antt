use Rattle.std.proofs.Common.{◌≡◌, ◌∙◌, ap, sym, ℕ, length, arith}
use Rattle.std.specs.Prelude.{filter}
use Rattle.std.specs.List.{range_with_len}
use Rattle.axiom_rules.specs.Rules.{is_pulse_row}
use Rattle.axiom_rules.proofs.PulseLemmas.{pulses-none, pulses-some}
use Rattle.mtl_encode.proofs.pulses.pulse_rows.Goals.{then-is_pulse+in_ok-push, else-is_pulse}
use Rattle.mtl_encode.proofs.pulses.pulse_rows.Goals as goal

pub loop-e-preserved : goal.loop-e-preserved
loop-e-preserved c = elim c.if-is_pulse.branch [
  | then-is_pulse+in_ok-push w ↦ pulses-some (is_pulse_row c.args.rules.now.log) c.loop-e.e c.loop-e.pulses.items c.if-is_pulse.pulses.items c.loop-e.invariant
      (sym c.is_pulse.ensures.pulse ∙ w.if-is_pulse.true) (ap (λ x. x.items) w.pulses-is ∙ w.in_ok-push.ensures.items)
  | else-is_pulse w ↦ pulses-none (is_pulse_row c.args.rules.now.log) c.loop-e.e c.loop-e.pulses.items c.if-is_pulse.pulses.items c.loop-e.invariant
      (sym c.is_pulse.ensures.pulse ∙ w.if-is_pulse.false) (ap (λ x. x.items) w.pulses-is)
]

pub returns : goal.returns
returns c =
    let end : c.loop-e.e ≡ length c.args.rules.now.log.rows = omega (arith, c.loop-e-test.false, c.loop-e.auto.e-end, c.events-e-end.ensures.events) in
    c.loop-e.invariant ∙ ap (λ (n : ℕ). filter (is_pulse_row c.args.rules.now.log) (range_with_len 0 n)) end

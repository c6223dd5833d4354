use Rattle.std.proofs.Common.{◌∙◌, sym}
use Rattle.mt_model.specs.State.{is_pulse_at}
use Rattle.axiom_rules.proofs.PulseLemmas.{pulses-none, pulses-some}
use Rattle.axiom_rules.proofs.proposition.pulses_of.Goals.{then-is_pulse+in_ok-push, else-is_pulse}
use Rattle.axiom_rules.proofs.proposition.pulses_of.Goals as goal

pub loop-e-preserved : goal.loop-e-preserved
loop-e-preserved c = elim c.if-is_pulse.branch [
  | then-is_pulse+in_ok-push w ↦ pulses-some
      (is_pulse_at c.args.log.now c.args.host c.args.name.now) c.loop-e.e c.loop-e.list c.if-is_pulse.list c.loop-e.invariant
      (sym c.is_pulse.ensures ∙ w.if-is_pulse.true) (w.list-is ∙ w.in_ok-push.ensures.ok)
  | else-is_pulse w ↦ pulses-none (is_pulse_at c.args.log.now c.args.host c.args.name.now) c.loop-e.e c.loop-e.list c.if-is_pulse.list c.loop-e.invariant
      (sym c.is_pulse.ensures ∙ w.if-is_pulse.false) w.list-is
]

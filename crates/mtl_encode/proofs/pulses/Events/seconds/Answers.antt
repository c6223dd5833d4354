use Rattle.std.proofs.Common.{◌≡◌, ◌∙◌, ap, length, refl, sym, arith}
use Rattle.std.specs.Prelude.{slice_index}
use Rattle.std.proofs.lemmas.List.{length-take}
use Rattle.std.proofs.lemmas.List.FromFn.{length-range_with_len}
use Rattle.mtl_encode.proofs.PulsePairs.{all-enough, first-few, listed-enough}
use Rattle.mtl_encode.proofs.pulses.Events.seconds.Goals as goal

pub slice_bounds-result-end : goal.slice_bounds-result-end
slice_bounds-result-end c =
    let few = first-few c.args.rules.now c.requires.events.some c.args.number c.args.counts c.requires.counts in
    let same : length c.deref-else-wants_pulse.result.now ≡ length c.args.rules.now.log.rows =
    ap length (c.deref-else-wants_pulse.ensures.value ∙ c.requires.events.all) ∙ length-range_with_len 0 (length c.args.rules.now.log.rows) in
    omega (arith, few, same, length-take (slice_index c.args.counts 1) c.deref-else-wants_pulse.result.now)

pub returns-then-wants_pulse : goal.returns-then-wants_pulse
returns-then-wants_pulse c = record {
  enough =
      λ out. sym
      (listed-enough c.args.rules.now out c.args.number c.args.counts c.args.a c.deref.result.now
      (sym c.wants_pulse.ensures ∙ c.if-wants_pulse.true) c.requires.counts (c.deref.ensures.value ∙ c.requires.events.pulses));
}

pub returns-else-wants_pulse : goal.returns-else-wants_pulse
returns-else-wants_pulse c = record {
  enough =
      λ out. all-enough c.args.rules.now out c.args.number c.args.counts c.args.a c.deref-else-wants_pulse.result.now _ c.requires.events.some c.requires.counts
      (c.deref-else-wants_pulse.ensures.value ∙ c.requires.events.all) refl;
}

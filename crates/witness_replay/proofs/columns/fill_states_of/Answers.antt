use Rattle.std.proofs.Common.{◌≡◌, ◌∙◌, ap, sym, ◌<◌, length, arith}
use Rattle.std.proofs.lemmas.Int.{ints}
use Rattle.mt_model.specs.State.{state}
use Rattle.mt_model.specs.Timing.{time_of}
use Rattle.formula_arena.specs.declared.direction.Direction.TheVariants.{Ahead}
use Rattle.witness_replay.specs.Timelines.{moment_at, row_met}
use Rattle.witness_replay.proofs.FilledLemmas.{filled-on}
use Rattle.witness_replay.proofs.LatestLemmas.{pulse-within, state-latest}
use Rattle.witness_replay.proofs.TimelineLemmas.{met-each, met-in, timed}
use Rattle.witness_replay.proofs.columns.fill_states_of.Goals as goal

pub loop-place-preserved : goal.loop-place-preserved
loop-place-preserved c =
    let log = c.args.log.now in
    let t = c.args.timeline.times.now in
    let ms = c.args.timeline.moments.now in
    let p = c.loop-place.place in
    let in_ : p < length t = omega arith in
    let latest = c.advanced-latest.ensures in
    let (_, timed-here) = timed Ahead t ms c.requires.timeline p in_ in
    let value : c.state.result ≡ state log t (time_of t (moment_at ms p).row) c.args.proposition.host c.args.proposition.name.now =
    c.state.ensures
    ∙ sym (state-latest log t ms c.requires.count c.requires.timeline c.args.proposition.host c.args.proposition.name.now (moment_at ms p).time c.advanced-latest.result latest.within latest.by latest.after latest.latest)
    ∙ ap (λ u. state log t u c.args.proposition.host c.args.proposition.name.now) timed-here in
    record {
      latest = latest.latest;
      within = latest.within;
      by = λ k after within j less.
          let up = c.requires.timeline.rising p k (omega (arith, after)) within in
          let early = latest.by j less in
          grind (arith, ints);
      filled = filled-on (row_met Ahead ms) (λ e. state log t (time_of t e) c.args.proposition.host c.args.proposition.name.now) p c.loop-place.column c.state.result
          (let met = met-in Ahead t ms c.requires.timeline p in_ in omega arith) value c.loop-place.invariant.filled;
    }

pub state-requires-clause-pulse_in : goal.state-requires-clause-pulse_in
state-requires-clause-pulse_in c =
    let latest = c.advanced-latest.ensures in
    pulse-within c.args.log.now c.args.timeline.moments.now c.args.proposition.host c.args.proposition.name.now c.advanced-latest.result.places c.advanced-latest.result.pulse latest.within latest.latest.pulse

pub returns : goal.returns
returns c = record {
  full = omega arith;
  each = λ e within.
      let (k, k_in, here) = met-each Ahead c.args.timeline.times.now c.args.timeline.moments.now c.requires.timeline e within in
      rw (← here) (c.loop-place.invariant.filled k (omega arith));
}

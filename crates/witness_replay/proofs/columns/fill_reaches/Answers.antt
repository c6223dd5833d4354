use Rattle.std.proofs.Common.{◌≡◌, ◌-◌, ◌<◌, true, length, arith}
use Rattle.witness_replay.specs.Columns.{reaches_from}
use Rattle.witness_replay.specs.Timelines.{row_met}
use Rattle.witness_replay.proofs.FilledLemmas.{filled-back}
use Rattle.witness_replay.proofs.ReachLemmas.{reached-reaches}
use Rattle.witness_replay.proofs.SweepLemmas.{far-earlier, first-swept, gap-swept}
use Rattle.witness_replay.proofs.TimelineLemmas.{met-each, met-in}
use Rattle.witness_replay.proofs.columns.fill_reaches.Goals as goal

pub loop-place-preserved : goal.loop-place-preserved
loop-place-preserved c =
    let d = c.args.operator.direction in
    let t = c.args.timeline.times.now in
    let ms = c.args.timeline.moments.now in
    let p = c.loop-place.place - 1 in
    let row = c.row_at-e.ensures in
    let in_ : p < length t = omega arith in
    let gaps = c.advanced-gaps.ensures in
    let witnesses = c.advanced-witnesses.ensures in
    let gap = gap-swept d t ms c.requires.timeline c.args.left.now c.row_at-e.result c.advanced-gaps.result gaps.swept gaps.far gaps.near in
    let witness = first-swept d t ms c.requires.timeline true c.args.right.now c.args.operator.interval.low c.row_at-e.result c.advanced-witnesses.result witnesses.swept witnesses.far witnesses.near in
    let value : c.is_reached.result ≡ reaches_from d t c.args.operator.interval c.args.left.now c.args.right.now c.row_at-e.result =
    rw (c.is_reached.ensures, c.row-witness.ensures, c.row-gap.ensures) (reached-reaches d t c.args.operator.interval c.args.left.now c.args.right.now _ _ c.row_at-e.result witness gap) in
    record {
      gaps = gaps.swept;
      witnesses = witnesses.swept;
      gaps_far = λ q less. far-earlier d t ms c.requires.timeline 0 q p c.advanced-gaps.result.place (omega (arith, less)) in_ (rw row at gaps.far);
      witnesses_far = λ q less. far-earlier d t ms c.requires.timeline c.args.operator.interval.low q p c.advanced-witnesses.result.place (omega (arith, less)) in_ (rw row at witnesses.far);
      filled = λ k low within. rw row (filled-back (row_met d ms) (reaches_from d t c.args.operator.interval c.args.left.now c.args.right.now) p c.loop-place.column c.is_reached.result
          (let met = met-in d t ms c.requires.timeline p in_ in omega arith) (rw row at value) (length t)
          (λ k' low' within'. c.loop-place.invariant.filled k' (omega (arith, low')) within') k low within);
    }

pub returns : goal.returns
returns c = record {
  full = omega arith;
  each = λ e within.
      let (k, k_in, here) = met-each c.args.operator.direction c.args.timeline.times.now c.args.timeline.moments.now c.requires.timeline e within in
      rw (← here) (c.loop-place.invariant.filled k (omega (arith)) k_in);
}

use Rattle.std.proofs.Common.{arith}
use Rattle.std.proofs.lemmas.Int.{to_z-of_z}
use Rattle.std.proofs.lemmas.List.Edits.{map_over_more}
use Rattle.mt_model.specs.Log.{widened_resync}
use Rattle.mt_model.proofs.widening.widen_resyncs.Goals as goal

pub loop-resync-preserved : goal.loop-resync-preserved
loop-resync-preserved c =
    let same = c.loop-resync.auto.resyncs in
    let before = simp (to_z-of_z, c.ranges.s) at c.loop-resync.invariant in
    let more = map_over_more (widened_resync c.args.s) c.args.resyncs.now c.loop-resync.resyncs c.loop-resync.resync-index c.resync-item.result (omega arith) before c.resync-item.is in
    let wide = simp (to_z-of_z, c.ranges.s) at c.widen_resync.ensures in
    let is = c.resync-item.is in
    simp (to_z-of_z, c.ranges.s) (rw (wide, ← is) more)

use Rattle.std.proofs.Common.{arith}
use Rattle.std.proofs.lemmas.Int.{to_z-of_z}
use Rattle.std.proofs.lemmas.List.Edits.{map_over_more}
use Rattle.mt_model.specs.Log.{widened_host}
use Rattle.mt_model.proofs.widening.widen_hosts.Goals as goal

pub loop-host-preserved : goal.loop-host-preserved
loop-host-preserved c =
    let same = c.loop-host.auto.hosts in
    let before = simp (to_z-of_z, c.ranges.s) at c.loop-host.invariant in
    let more = map_over_more (widened_host c.args.s) c.args.hosts.now c.loop-host.hosts c.loop-host.host-index c.host-item.result (omega arith) before c.host-item.is in
    let wide = simp (to_z-of_z, c.ranges.s) at c.widen_host.ensures in
    let is = c.host-item.is in
    simp (to_z-of_z, c.ranges.s) (rw (wide, ← is) more)

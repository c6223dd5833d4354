use Rattle.std.proofs.lemmas.Int.{to_z-of_z}
use Rattle.mt_model.proofs.GreaterSkews.{least-room, log-widened, skews-within}
use Rattle.mt_model.proofs.log.Log.widened.Goals as goal

pub widened_hosts-requires-clause-small : goal.widened_hosts-requires-clause-small
widened_hosts-requires-clause-small c =
    let room = rw (← c.self.view_is) at c.requires.high in
    simp (to_z-of_z, c.ranges.s) (least-room c.args.s c.requires.low c.self.inside.hosts c.self.invariant.some_hosts c.self.invariant.hosts room)

pub widened_resyncs-requires-clause-small : goal.widened_resyncs-requires-clause-small
widened_resyncs-requires-clause-small c =
    let room = rw (← c.self.view_is) at c.requires.high in
    simp (to_z-of_z, c.ranges.s) (least-room c.args.s c.requires.low c.self.inside.hosts c.self.invariant.some_hosts c.self.invariant.hosts room)

pub widened_resyncs-requires-clause-skews : goal.widened_resyncs-requires-clause-skews
widened_resyncs-requires-clause-skews c = skews-within c.args.s c.requires.low _ _ c.self.inside.resyncs c.self.invariant.resyncs.each

pub invariant_of-result : goal.invariant_of-result
invariant_of-result c =
    let room = rw (← c.self.view_is) at c.requires.high in
    let later = rw (← c.self.view_is) at c.requires.resyncs in
    let wide = simp (to_z-of_z, c.ranges.s) at c.widened_hosts.ensures in
    let after = simp (to_z-of_z, c.ranges.s) at c.widened_resyncs.ensures in
    rw (wide, after)
    (log-widened c.args.s c.requires.low (record {
      hosts = c.self.inside.hosts;
      rows = c.self.inside.rows;
      resyncs = c.self.inside.resyncs;
      clocks = c.self.inside.clocks;
      readings = c.self.inside.readings;
      extras = c.self.inside.extras;
    }) c.self.invariant room later)

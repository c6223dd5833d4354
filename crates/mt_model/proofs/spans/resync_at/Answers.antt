use Rattle.mt_model.proofs.Resyncs.{valid-resync}
use Rattle.mt_model.proofs.spans.resync_at.Goals as goal

pub returns-clause-valid : goal.returns-clause-valid
returns-clause-valid c =
    let is = rw (c.host_at.ensures.host, c.resyncs.ensures.same) at c.last_resync.ensures in
    valid-resync c.args.log.now c.resyncs.ensures.valid c.args.e c.last_resync.result is

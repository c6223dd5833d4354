use Rattle.mt_model.proofs.ReadingTurns.{valid-reading}
use Rattle.mt_model.proofs.log.Log.reading_at.Goals as goal

pub returns-clause-valid : goal.returns-clause-valid
returns-clause-valid c =
    let is = rw (c.host_at.ensures.host, c.readings.ensures.same) at c.last_reading.ensures in
    valid-reading c.args.self.now c.readings.ensures.valid c.args.e c.last_reading.result is

use Rattle.std.proofs.Common.{length}
use Rattle.std.proofs.lemmas.Result.{err_from_is_err_and}
use Rattle.times_read.specs.TimesOf.{times_of}
use Rattle.skew_commands.specs.ReplayOutcome.{ReplayOfTimes}
use Rattle.skew_commands.specs.Stops.{TellsTimesFault}
use Rattle.skew_commands.specs.Tests.{OnTimes}
use Rattle.skew_commands.proofs.Steps.{At, reason-weaker, times-read, times-refused}
use Rattle.skew_commands.proofs.replaying.replay_of_bytes.Goals as goal

pub returns-in_err-timing-clause-outcome : goal.returns-in_err-timing-clause-outcome
returns-in_err-timing-clause-outcome c = λ f core.
    let p = err_from_is_err_and c.from_residual.result c.from_residual.ensures.1 in
    let log = c.args.log.now in
    let bytes = c.args.bytes.now in
    rw (p.1, p.2)
    (reason-weaker c.in_err-timing.field-0.0 (TellsTimesFault (times_of (length log.rows) bytes)) (At (OnTimes bytes log (ReplayOfTimes log f)))
    (times-refused bytes log (ReplayOfTimes log f)) c.in_err-timing.ensures.refused)

pub returns-clause-outcome : goal.returns-clause-outcome
returns-clause-outcome c = λ f core.
    let log = c.args.log.now in
    let reply = c.in_ok-replay_of_times.field-0 in
    let given = rw (c.as_slice.ensures.items, c.requires) at (c.in_ok-replay_of_times.ensures.outcome f core) in
    times-read c.args.bytes.now log (ReplayOfTimes log f) c.in_ok-timing.timing reply.text.items reply.status c.in_ok-timing.ensures.times given

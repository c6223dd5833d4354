use Rattle.std.proofs.lemmas.Result.{err_from_is_err_and}
use Rattle.skew_commands.specs.declared.limits.TheConstants.{TIMES_LIMIT}
use Rattle.skew_commands.specs.declared.refusal.Named.TheVariants as named
use Rattle.skew_commands.specs.ReplayOutcome.{ReplayOfTimes}
use Rattle.skew_commands.specs.Tests.{OnTimes}
use Rattle.skew_commands.proofs.Possible.{length-refused, longer}
use Rattle.skew_commands.proofs.Steps.{file-given, file-stopped}
use Rattle.skew_commands.proofs.replaying.replay_of_file.Goals as goal

pub returns-in_err-file-clause-outcome : goal.returns-in_err-file-clause-outcome
returns-in_err-file-clause-outcome g c = λ tells f core.
    let p = err_from_is_err_and c.from_residual.result c.from_residual.ensures.1 in
    let log = c.args.log.now in
    rw (p.1, p.2)
    (file-stopped (g.S.Shelf.files c.args.shelf.now) c.args.times.now TIMES_LIMIT named.Times
    (λ file. OnTimes file log (ReplayOfTimes log f)) tells c.in_err-file.field-0.0 c.in_err-file.ensures.refused)

pub returns-clause-outcome : goal.returns-clause-outcome
returns-clause-outcome g c = λ tells f core.
    let log = c.args.log.now in
    let given = rw c.deref.ensures.value at (c.replay_of_bytes.ensures.outcome f core) in
    file-given (g.S.Shelf.files c.args.shelf.now) c.args.times.now TIMES_LIMIT named.Times
    (λ file. OnTimes file log (ReplayOfTimes log f)) c.in_ok-file.file.items c.replay_of_bytes.result
    (c.in_ok-file.ensures.whole tells) c.in_ok-file.ensures.within given

pub returns-in_err-file-clause-possible : goal.returns-in_err-file-clause-possible
returns-in_err-file-clause-possible g c = λ f core.
    let p = err_from_is_err_and c.from_residual.result c.from_residual.ensures.1 in
    let log = c.args.log.now in
    let long = longer TIMES_LIMIT in
    record {
      bytes = long.0;
      given =
          λ files name is. rw (p.1, p.2)
          (length-refused files name TIMES_LIMIT named.Times (λ file. OnTimes file log (ReplayOfTimes log f)) long.0 is long.1 c.in_err-file.field-0.0 c.in_err-file.ensures.too_long);
    }

pub returns-clause-possible : goal.returns-clause-possible
returns-clause-possible g c = λ f core.
    let log = c.args.log.now in
    let file = c.in_ok-file.file.items in
    let given = rw c.deref.ensures.value at (c.replay_of_bytes.ensures.outcome f core) in
    record {
      bytes = file;
      given = λ files name is. file-given files name TIMES_LIMIT named.Times (λ file. OnTimes file log (ReplayOfTimes log f)) file c.replay_of_bytes.result is c.in_ok-file.ensures.within given;
    }

use Rattle.std.proofs.Common.{inl, inr}
use Rattle.std.proofs.lemmas.Result.{err_from_is_err_and}
use Rattle.mt_model.specs.Form.{form_of}
use Rattle.skew_commands.specs.declared.limits.TheConstants.{TIMES_LIMIT}
use Rattle.skew_commands.specs.declared.refusal.Named.TheVariants as named
use Rattle.skew_commands.specs.ReplayOutcome.{ReplayOfTimes}
use Rattle.skew_commands.specs.Tests.{OnTimes}
use Rattle.skew_commands.proofs.Possible.{third-unread, third-uncounted}
use Rattle.skew_commands.proofs.Steps.{third-answered}
use Rattle.skew_commands.proofs.replaying.replay_of_question.Goals as goal

pub returns-clause-outcome : goal.returns-clause-outcome
returns-clause-outcome g c = λ tells.
    let q = c.args.question.now in
    let f = form_of q.formula in
    third-answered (g.S.Shelf.files c.args.shelf.now) c.args.times.now TIMES_LIMIT named.Times q.text.items f q.log
    (λ file. OnTimes file q.log (ReplayOfTimes q.log f)) c.in_ok-known_hosts.ensures.known c.in_ok-replayer.ensures.few
    c.replay_of_file.result (c.replay_of_file.ensures.outcome tells f (rw c.in_ok-replayer.ensures.core))

pub returns-in_err-known_hosts-clause-openings : goal.returns-in_err-known_hosts-clause-openings
returns-in_err-known_hosts-clause-openings g c = (0, λ past told. told)

pub returns-in_err-replayer-clause-openings : goal.returns-in_err-replayer-clause-openings
returns-in_err-replayer-clause-openings g c = (0, λ past told. told)

pub returns-clause-openings : goal.returns-clause-openings
returns-clause-openings g c = (1, c.replay_of_file.ensures.once)

pub returns-clause-never : goal.returns-clause-never
returns-clause-never g c = λ steady tells holds failed. c.replay_of_file.ensures.never steady tells (holds c.in_ok-known_hosts.ensures.known c.in_ok-replayer.ensures.few) failed

pub returns-in_err-known_hosts-clause-possible : goal.returns-in_err-known_hosts-clause-possible
returns-in_err-known_hosts-clause-possible g c =
    let p = err_from_is_err_and c.from_residual.result c.from_residual.ensures.1 in
    let q = c.args.question.now in
    let f = form_of q.formula in
    let refused = rw c.deref.ensures.value at c.in_err-known_hosts.ensures.refused in
    rw (p.1, p.2) (third-unread TIMES_LIMIT named.Times q.text.items f q.log (λ file. OnTimes file q.log (ReplayOfTimes q.log f)) c.in_err-known_hosts.field-0.0 refused)

pub returns-in_err-replayer-clause-possible : goal.returns-in_err-replayer-clause-possible
returns-in_err-replayer-clause-possible g c =
    let p = err_from_is_err_and c.from_residual-in_err-replayer.result c.from_residual-in_err-replayer.ensures.1 in
    let q = c.args.question.now in
    let f = form_of q.formula in
    rw (p.1, p.2)
    (third-uncounted TIMES_LIMIT named.Times q.text.items f q.log
    (λ file. OnTimes file q.log (ReplayOfTimes q.log f)) c.in_ok-known_hosts.ensures.known c.in_err-replayer.field-0.0 c.in_err-replayer.ensures.refused)

pub returns-clause-possible : goal.returns-clause-possible
returns-clause-possible g c =
    let q = c.args.question.now in
    let f = form_of q.formula in
    let some = c.replay_of_file.ensures.possible f (rw c.in_ok-replayer.ensures.core) in
    record {
      bytes = some.bytes;
      given =
          λ files name is. third-answered files name TIMES_LIMIT named.Times q.text.items f q.log
          (λ file. OnTimes file q.log (ReplayOfTimes q.log f)) c.in_ok-known_hosts.ensures.known c.in_ok-replayer.ensures.few
          c.replay_of_file.result (some.given files name is);
    }

pub returns-in_err-known_hosts-clause-in_turn : goal.returns-in_err-known_hosts-clause-in_turn
returns-in_err-known_hosts-clause-in_turn g c = inl (0, λ past told. told)

pub returns-in_err-replayer-clause-in_turn : goal.returns-in_err-replayer-clause-in_turn
returns-in_err-replayer-clause-in_turn g c = inl (0, λ past told. told)

pub returns-clause-in_turn : goal.returns-clause-in_turn
returns-clause-in_turn g c = inr (c.in_ok-known_hosts.ensures.known, c.in_ok-replayer.ensures.few)

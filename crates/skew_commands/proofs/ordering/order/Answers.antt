use Rattle.std.proofs.lemmas.Result.{err_from_is_err_and}
use Rattle.skew_commands.specs.OrderOutcome.{OrderOfLog}
use Rattle.skew_commands.proofs.Possible.{some-log-faulty, some-log-long, some-log-read}
use Rattle.skew_commands.proofs.Steps.{log-stopped}
use Rattle.skew_commands.proofs.ordering.order.Goals as goal

pub returns-in_err-log-clause-outcome : goal.returns-in_err-log-clause-outcome
returns-in_err-log-clause-outcome g c = λ tells.
    let p = err_from_is_err_and c.from_residual-in_err-log.result c.from_residual-in_err-log.ensures.1 in
    let refused = rw c.deref.ensures.value at c.in_err-log.ensures.refused in
    rw (p.1, p.2)
    (log-stopped (g.S.Shelf.files c.args.shelf.now) c.args.log.now OrderOfLog c.in_ok-file.file.items c.in_err-log.field-0.0 (c.in_ok-file.ensures.whole tells) c.in_ok-file.ensures.within refused)

pub returns-in_err-file-clause-possible : goal.returns-in_err-file-clause-possible
returns-in_err-file-clause-possible g c =
    let p = err_from_is_err_and c.from_residual.result c.from_residual.ensures.1 in
    rw (p.1, p.2) (some-log-long OrderOfLog c.in_err-file.field-0.0 c.in_err-file.ensures.too_long)

pub returns-in_err-log-clause-possible : goal.returns-in_err-log-clause-possible
returns-in_err-log-clause-possible g c =
    let p = err_from_is_err_and c.from_residual-in_err-log.result c.from_residual-in_err-log.ensures.1 in
    let refused = rw c.deref.ensures.value at c.in_err-log.ensures.refused in
    rw (p.1, p.2) (some-log-faulty OrderOfLog c.in_ok-file.file.items c.in_err-log.field-0.0 c.in_ok-file.ensures.within refused)

pub returns-clause-possible : goal.returns-clause-possible
returns-clause-possible g c =
    let reply = c.in_ok-order_of_log.field-0 in
    let read = rw c.deref.ensures.value at c.in_ok-log.ensures.log in
    some-log-read OrderOfLog c.in_ok-file.file.items c.in_ok-log.log reply.text.items reply.status c.in_ok-file.ensures.within read c.in_ok-order_of_log.ensures.outcome

use Rattle.std.proofs.lemmas.Result.{err_from_is_err_and}
use Rattle.skew_cli.proofs.JsonSteps.{json-converted, json-faulty, some-json-converted, some-json-faulty, some-json-long}
use Rattle.skew_cli.proofs.json.json.Goals as goal

pub returns-in_err-log-clause-outcome : goal.returns-in_err-log-clause-outcome
returns-in_err-log-clause-outcome g c = λ tells.
    let p = err_from_is_err_and c.from_residual-in_err-log.result c.from_residual-in_err-log.ensures.1 in
    let refused = rw c.deref.ensures.value at c.in_err-log.ensures.refused in
    rw (p.1, p.2) (json-faulty (g.S.Shelf.files c.args.shelf.now) c.args.name.now c.in_ok-file.file.items (c.in_ok-file.ensures.whole tells) c.in_ok-file.ensures.within c.in_err-log.field-0.0 refused)

pub returns-clause-outcome : goal.returns-clause-outcome
returns-clause-outcome g c = λ tells.
    let reply = c.in_ok-converted.field-0 in
    let is = rw c.deref.ensures.value at c.in_ok-log.ensures.log in
    json-converted (g.S.Shelf.files c.args.shelf.now) c.args.name.now c.in_ok-file.file.items
    (c.in_ok-file.ensures.whole tells) c.in_ok-file.ensures.within c.in_ok-log.log reply.text.items reply.status is c.in_ok-converted.ensures.outcome

pub returns-in_err-file-clause-possible : goal.returns-in_err-file-clause-possible
returns-in_err-file-clause-possible g c =
    let p = err_from_is_err_and c.from_residual.result c.from_residual.ensures.1 in
    rw (p.1, p.2) (some-json-long c.in_err-file.field-0.0 c.in_err-file.ensures.too_long)

pub returns-in_err-log-clause-possible : goal.returns-in_err-log-clause-possible
returns-in_err-log-clause-possible g c =
    let p = err_from_is_err_and c.from_residual-in_err-log.result c.from_residual-in_err-log.ensures.1 in
    let refused = rw c.deref.ensures.value at c.in_err-log.ensures.refused in
    rw (p.1, p.2) (some-json-faulty c.in_ok-file.file.items c.in_ok-file.ensures.within c.in_err-log.field-0.0 refused)

pub returns-clause-possible : goal.returns-clause-possible
returns-clause-possible g c =
    let reply = c.in_ok-converted.field-0 in
    let is = rw c.deref.ensures.value at c.in_ok-log.ensures.log in
    some-json-converted c.in_ok-file.file.items c.in_ok-file.ensures.within c.in_ok-log.log reply.text.items reply.status is c.in_ok-converted.ensures.outcome

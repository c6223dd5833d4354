use Rattle.std.proofs.Common.{◌+◌, ap, inr, take}
use Rattle.std.proofs.lemmas.List.{take_rest}
use Rattle.proof_log.proofs.ReadingLines.{faulty-line, line-found, line-more, none-found, up-to}
use Rattle.proof_log.proofs.reader.read_lines.Goals as goal

pub returns-in_default-2 : goal.returns-in_default-2
returns-in_default-2 c =
    let rest = c.loop-rest.rest.now in
    let end = c.in-Some.end in
    let found = c.in-Some.ensures in
    let none = none-found (take end rest) c.in_ok-line.field-0 c.in_default-2.is c.in_ok-line.ensures.line in
    record { answer = inr (faulty-line rest end found.0 found.1 c.args.bytes.now c.loop-rest.lines c.loop-rest.invariant none (c.len.result + 1) (ap (λ k. k + 1) c.len.ensures.count)) }

pub loop-rest-preserved : goal.loop-rest-preserved
loop-rest-preserved c =
    let rest = c.loop-rest.rest.now in
    let end = c.in-Some.end in
    let found = c.in-Some.ensures in
    let line = line-found (take end rest) c.in_ok-line.field-0 c.in-Some-2.line c.in-Some-2.is c.in_ok-line.ensures.line in
    up-to c.args.bytes.now _ _ _ c.push.new.self
    (line-more rest end found.0 found.1 c.args.bytes.now c.loop-rest.lines c.loop-rest.invariant c.in-Some-2.line line) c.in_ok-push.ensures.ok
    (take_rest rest (end + 1))

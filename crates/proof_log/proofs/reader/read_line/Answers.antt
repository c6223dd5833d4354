use Rattle.std.proofs.Common.{◌∙◌, sym, rules}
use Rattle.proof_log.specs.LinesOf.{HasAtomsOnce}
use Rattle.proof_log.proofs.LineReading.{line-of, no-line, twice}
use Rattle.proof_log.proofs.reader.read_line.Goals as goal

pub returns-in_default : goal.returns-in_default
returns-in_default c = record { line = no-line c.args.bytes.now (sym c.in_ok-line.ensures ∙ c.in_default.is) }

pub returns-then-once : goal.returns-then-once
returns-then-once c =
    let once : HasAtomsOnce c.in-Some.line = c.in_ok-once.ensures.0 (search (rules, c.if-once.true)) in
    record { line = line-of c.args.bytes.now c.in-Some.line (sym c.in_ok-line.ensures ∙ c.in-Some.is) once }

pub returns-else-once : goal.returns-else-once
returns-else-once c =
    record { line = twice c.args.bytes.now c.in-Some.line (sym c.in_ok-line.ensures ∙ c.in-Some.is) (λ once. let is = c.in_ok-once.ensures.1 once in search (rules, is, c.if-once.false)) }

use Rattle.proof_log.specs.declared.line.Line.TheVariants as line
use Rattle.proof_log.specs.Reading.{counted_in, made, step_in, words_after}
use Rattle.proof_log.proofs.Giving.{made-back}
use Rattle.proof_log.proofs.PassedLines.{by-rest, no-steps, none-given}
use Rattle.proof_log.proofs.passing.is_cycle.Goals as goal

pub returns : goal.returns
returns c =
    let reading = counted_in step_in (words_after c.args.words.now) in
    let (steps, is) = c.in-Some.ensures in
    by-rest (made line.Cycle reading) (line.Cycle steps) c.in-Some.rest.now (made-back line.Cycle reading steps (words_after c.in-Some.rest.now) is) tt c.is_empty.result c.is_empty.ensures

pub returns-in_default : goal.returns-in_default
returns-in_default c =
    (λ no. absurd (cc), λ gives. absurd (none-given (made line.Cycle (counted_in step_in (words_after c.args.words.now))) (no-steps (words_after c.args.words.now) c.in_default.ensures) gives))

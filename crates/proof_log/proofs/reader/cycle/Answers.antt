use Rattle.std.proofs.Common.{◌≡◌, ◌<◌, sym, arith, Some, length}
use Rattle.std.proofs.lemmas.Bool.Decides.{nat_tests}
use Rattle.proof_log.specs.declared.line.Line.TheVariants as line
use Rattle.proof_log.specs.Reading.{counted_in, made, step_in, words_after}
use Rattle.proof_log.proofs.Giving.{made-back}
use Rattle.proof_log.proofs.LineReading.{whole-going_on}
use Rattle.proof_log.proofs.reader.cycle.Goals as goal

pub returns-else-is_empty : goal.returns-else-is_empty
returns-else-is_empty c =
    let rest = c.in-Some.rest.now in
    let reading = counted_in step_in (words_after c.args.words.now) in
    let read : reading ≡ Some (c.read_steps.new.steps, words_after rest) = rw c.in-Some.is at c.in_ok-rest.ensures in
    let some : 0 < length rest = let test = c.if-is_empty.false in let is = c.is_empty.ensures in grind (arith, nat_tests) in
    sym (whole-going_on (made line.Cycle reading) (line.Cycle c.read_steps.new.steps) rest (made-back line.Cycle reading c.read_steps.new.steps (words_after rest) read) some)

use Rattle.std.proofs.Common.{◌≡◌, ◌<◌, sym, arith, Some, length}
use Rattle.std.proofs.lemmas.Bool.Decides.{nat_tests}
use Rattle.proof_log.specs.declared.line.Line.TheVariants as line
use Rattle.proof_log.specs.Reading.{counted_in, hint_in, learn_in, literal_in, words_after}
use Rattle.proof_log.proofs.LineReading.{learn-is, whole-going_on}
use Rattle.proof_log.proofs.reader.learn.Goals as goal

pub returns-else-is_empty : goal.returns-else-is_empty
returns-else-is_empty c =
    let words = words_after c.args.words.now in
    let after = words_after c.in-Some.after.now in
    let rest = c.in-Some-2.rest.now in
    let lits = c.read_literals.new.lits in
    let hints = c.read_hints.new.hints in
    let first : counted_in literal_in words ≡ Some (lits, after) = rw c.in-Some.is at c.in_ok-after.ensures in
    let second : counted_in hint_in after ≡ Some (hints, words_after rest) = rw c.in-Some-2.is at c.in_ok-rest.ensures in
    let some : 0 < length rest = let test = c.if-is_empty.false in let is = c.is_empty.ensures in grind (arith, nat_tests) in
    sym (whole-going_on (learn_in words) (line.Learn lits hints) rest (learn-is words after (words_after rest) lits hints first second) some)

use Rattle.std.proofs.Common.{◌≡◌, ◌<◌, length, None, arith}
use Rattle.std.proofs.lemmas.Bool.Decides.{nat_tests}
use Rattle.proof_log.specs.declared.line.Line.TheVariants as line
use Rattle.proof_log.specs.Reading.{counted_in, learn_in, literal_in, words_after}
use Rattle.proof_log.proofs.LineReading.{learn-is}
use Rattle.proof_log.proofs.PassedLines.{by-atoms, longer-given, no-hints_after, no-literals, none-given}
use Rattle.proof_log.proofs.passing.is_learn.Goals as goal

pub returns-in_default : goal.returns-in_default
returns-in_default c =
    let ws = words_after c.args.words.now in
    let none : counted_in literal_in ws ≡ None = rw c.in_default.is at c.in_ok-after.ensures in
    (λ no. absurd (cc), λ gives. absurd (none-given (learn_in ws) (no-literals ws none) gives))

pub returns-in_default-pass_hints : goal.returns-in_default-pass_hints
returns-in_default-pass_hints c =
    let ws = words_after c.args.words.now in
    let (lits, first, held) = rw c.in-Some.is at c.in_ok-after.ensures in
    (λ no. absurd (cc), λ gives. absurd (none-given (learn_in ws) (no-hints_after ws lits (words_after c.in-Some.after.now) first c.in_default-pass_hints.ensures) gives))

pub returns-then-is_empty : goal.returns-then-is_empty
returns-then-is_empty c =
    let ws = words_after c.args.words.now in
    let (lits, first, held) = rw c.in-Some.is at c.in_ok-after.ensures in
    let (hints, second) = c.in-Some-pass_hints.ensures in
    let empty : length c.in-Some-pass_hints.rest.now ≡ 0 = let test = c.if-is_empty.true in let is = c.is_empty.ensures in grind (arith, nat_tests) in
    by-atoms ws
    (words_after c.in-Some.after.now) c.in-Some-pass_hints.rest.now lits hints c.pass_atoms.new.atoms.items c.are_apart.result first second held empty
    (rw c.deref_mut.ensures.value at c.are_apart.ensures)

pub returns : goal.returns
returns c =
    let ws = words_after c.args.words.now in
    let after = words_after c.in-Some.after.now in
    let rest = c.in-Some-pass_hints.rest.now in
    let (lits, first, held) = rw c.in-Some.is at c.in_ok-after.ensures in
    let (hints, second) = c.in-Some-pass_hints.ensures in
    let some : 0 < length rest = let test = c.if-is_empty.false in let is = c.is_empty.ensures in grind (arith, nat_tests) in
    (λ no. absurd (cc), λ gives. absurd (longer-given (learn_in ws) (line.Learn lits hints) rest (learn-is ws after (words_after rest) lits hints first second) some gives))

use Rattle.std.proofs.Common.{◌≡◌, ap, ◌+◌, [], ◌∷◌, IsTrue, length, length-append, arith, rules}
use Rattle.proof_log.specs.declared.line.Line.{Line}
use Rattle.proof_log.specs.Parts.{AreWordsOf}
use Rattle.proof_log.specs.Spelled.{IsSpelled}
use Rattle.proof_check.specs.Judging.{IsNext}
use Rattle.proof_check.specs.Keeping.{Kept}
use Rattle.proof_check.proofs.TextLemmas.{counted_right, counted_wrong, taken_all, taken_more, taken_wrong}
use Rattle.proof_check.proofs.taking.check_lines_of.Goals as goal

pub returns-then-not-branch-clause-answer : goal.returns-then-not-branch-clause-answer
returns-then-not-branch-clause-answer c =
    let wrong : (line : Line) → IsSpelled line → AreWordsOf c.in-Some.words line → IsNext c.args.rules.now c.loop-words.kept.closed line → ⊥ =
    λ line spelled are next. let holds = (c.in_ok-takes.ensures.good line spelled are).1 next in search rules in
    let number : c.len.result + 1 ≡ length c.loop-words.kept.closed + 1 = omega (arith, c.len.ensures.count) in
    taken_wrong c.args.rules.now c.args.text.now c.loop-words.kept.closed c.loop-words.rest.now c.loop-words.learn_lines c.loop-words.invariant.0
    c.in-Some.words c.in-Some.after.now c.in-Some.ensures.head wrong
    (c.len.result + 1) number

pub loop-words-preserved : goal.loop-words-preserved
loop-words-preserved c =
    let holds : IsTrue c.in_ok-takes.field-0 = search rules in
    let grown = c.in_ok-takes.ensures.grown holds in
    let size : length c.takes.new.kept.closed ≡ length c.loop-words.kept.closed + 1 = omega
    (arith, ap (λ (k : Kept). length k.closed) grown.1, length-append c.loop-words.kept.closed (grown.0 ∷ [])) in (
      taken_more c.args.rules.now c.args.text.now c.loop-words.kept.closed c.loop-words.rest.now c.loop-words.learn_lines c.loop-words.invariant.0
          c.in-Some.words c.in-Some.after.now c.in-Some.ensures.head
          (λ line spelled are. (c.in_ok-takes.ensures.good line spelled are).0 holds) c.in-Some.ensures.shorter c.takes.new.kept.closed size
          (λ line spelled are. ap (λ (k : Kept). k.closed) (c.in_ok-takes.ensures.kept line spelled are holds)) c.learn_lines_with-learn_lines.result
          c.learn_lines_with-learn_lines.ensures.learn c.learn_lines_with-learn_lines.ensures.few,
      ap (λ (k : Kept). k.pending) grown.1,
    )

pub returns-clause-answer : goal.returns-clause-answer
returns-clause-answer c =
    taken_all c.args.rules.now c.args.text.now c.loop-words.kept.closed c.loop-words.rest.now c.loop-words.learn_lines c.loop-words.invariant.0
    c.in_default.ensures.head c.check_of-check.result c.check_of-check.ensures.refutes c.check_of-check.ensures.derives

pub returns-clause-learn : goal.returns-clause-learn
returns-clause-learn c =
    counted_right c.args.rules.now c.args.text.now c.loop-words.kept.closed c.loop-words.rest.now c.loop-words.learn_lines c.loop-words.invariant.0
    c.in_default.ensures.head c.check_of-check.result c.check_of-check.ensures.refutes c.check_of-check.ensures.derives

pub returns-then-not-branch-clause-learn : goal.returns-then-not-branch-clause-learn
returns-then-not-branch-clause-learn c =
    let number : c.len.result + 1 ≡ length c.loop-words.kept.closed + 1 = omega (arith, c.len.ensures.count) in
    counted_wrong c.args.rules.now c.args.text.now c.loop-words.kept.closed c.loop-words.rest.now c.loop-words.learn_lines c.loop-words.invariant.0 (c.len.result + 1) number

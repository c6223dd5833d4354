use Rattle.std.proofs.Common.{◌≡◌, ◌∙◌, ◌+◌, IsTrue, Some, None, subst, sym, length, take, arith, rules}
use Rattle.std.specs.Prelude.{All}
use Rattle.std.proofs.lemmas.List.Elements.{All-more}
use Rattle.proof_log.specs.Spelled.{IsSpelled}
use Rattle.proof_check.proofs.AnswerLemmas.{line_there, no_line}
use Rattle.proof_check.proofs.taking.count_spelled.Goals as goal

pub returns-then-not-branch : goal.returns-then-not-branch
returns-then-not-branch c = record {
  within = omega arith;
  spelled = c.loop-i.invariant;
  next = λ line at is.
      let there = line_there c.args.lines.now c.loop-i.i c.index-lines-i.result c.loop-i-test.true c.index-lines-i.is in
      let same : line ≡ c.index-lines-i.result = cc in
      let yes = c.in_ok-has_spelling.ensures.spelled.1 (subst IsSpelled same is) in
      search rules;
}

pub loop-i-preserved : goal.loop-i-preserved
loop-i-preserved c =
    let yes : IsTrue c.in_ok-has_spelling.field-0 = search rules in
    let spelled = c.in_ok-has_spelling.ensures.spelled.0 yes in
    All-more IsSpelled c.args.lines.now c.loop-i.i c.index-lines-i.result c.loop-i-test.true c.loop-i.invariant (subst IsSpelled c.index-lines-i.is spelled)

pub returns : goal.returns
returns c = record {
  within = omega arith;
  spelled = (let all : c.loop-i.i ≡ length c.args.lines.now = omega arith in subst (λ k. All IsSpelled (take k c.args.lines.now)) all c.loop-i.invariant);
  next = λ line at is. (let none = no_line c.args.lines.now (length c.args.lines.now + 1) (omega arith) in let never : None ≡ Some line = sym none ∙ at in absurd (cc));
}

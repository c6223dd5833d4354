use Rattle.std.proofs.Common.{◌≡◌, subst, sym, ◌+◌, length, arith, rules}
use Rattle.std.specs.Prelude.{All, IsTrue}
use Rattle.proof_trim.specs.Naming.{IsEarlier}
use Rattle.proof_trim.specs.Needed.{LookBackTo}
use Rattle.proof_trim.proofs.Forward.{back-more, first-here}
use Rattle.proof_trim.proofs.NamedHints.{back-earlier, earlier-back}
use Rattle.proof_trim.proofs.NamedLists.{line-here}
use Rattle.proof_trim.proofs.text_needed.first_forward_in.Goals as goal

pub returns-then-not-are_earlier : goal.returns-then-not-are_earlier
returns-then-not-are_earlier c = record {
  first = λ lines are.
      let i = c.loop-i.i in
      let (l, stands) = line-here lines c.args.numbers.now c.args.ends.now are i c.loop-i-test.true in
      let same = c.numbers_at.ensures.named lines l are stands in
      first-here lines i l stands (c.loop-i.invariant lines are) (λ back.
      let yes : IsTrue c.are_earlier.result = c.are_earlier.ensures.1 (subst (All (IsEarlier (i + 1))) (sym same) (back-earlier (i + 1) l back)) in
      search rules);
}

pub loop-i-preserved : goal.loop-i-preserved
loop-i-preserved c = λ lines are.
    let i = c.loop-i.i in
    let (l, stands) = line-here lines c.args.numbers.now c.args.ends.now are i c.loop-i-test.true in
    let same = c.numbers_at.ensures.named lines l are stands in
    let yes : IsTrue c.are_earlier.result = search rules in
    back-more lines i l stands (c.loop-i.invariant lines are) (earlier-back (i + 1) l (subst (All (IsEarlier (i + 1))) same (c.are_earlier.ensures.0 yes)))

pub returns : goal.returns
returns
    c = record {
      first = λ lines are. subst (λ n. LookBackTo lines n)
          (let last : c.loop-i.i ≡ length lines = omega (arith, are.count, c.loop-i-test.false, c.loop-i.auto.i-end) in last) (c.loop-i.invariant lines are);
    }

use Rattle.std.proofs.Common.{refl, subst, take, None}
use Rattle.std.proofs.lemmas.Bool.{iff_false}
use Rattle.proof_check.proofs.TakeLemmas.{IsOpen, next_other, next_true, open_again, open_all, open_first, open_past}
use Rattle.proof_check.proofs.refutation.left_of.Goals.{in-None, in-Some+else-ne}
use Rattle.proof_check.proofs.refutation.left_of.Goals as goal

pub loop-literal-preserved-then-denies_at : goal.loop-literal-preserved-then-denies_at
loop-literal-preserved-then-denies_at c =
    open_past c.args.assumed.now c.args.clause.now c.loop-literal.literal-index _ _ c.loop-literal-test.true refl c.loop-literal.open c.loop-literal.invariant (c.denies_at.ensures c.if-denies_at.true)

pub loop-literal-preserved-then-has : goal.loop-literal-preserved-then-has
loop-literal-preserved-then-has c = open_past c.args.assumed.now c.args.clause.now c.loop-literal.literal-index _ c.negated.result c.loop-literal-test.true c.negated.ensures.literal
    c.loop-literal.open c.loop-literal.invariant (c.has.ensures.0 c.if-has.true)

pub returns-then-has-2 : goal.returns-then-has-2
returns-then-has-2 c = next_true c.args.assumed.now c.args.clause.now c.loop-literal.literal-index _ c.negated.result c.loop-literal-test.true c.negated.ensures.literal
    (iff_false c.has.ensures c.if-has.false) (c.has-in-loop-literal.ensures.0 c.if-has-2.true)

pub returns-in-None-open : goal.returns-in-None-open
returns-in-None-open c = open_all c.args.assumed.now c.args.clause.now c.loop-literal.literal-index None c.loop-literal.auto.literal-index-end c.loop-literal-test.false
    (subst (IsOpen c.args.assumed.now (take c.loop-literal.literal-index c.args.clause.now)) c.in-None-open.is c.loop-literal.invariant)

pub returns-then-ne : goal.returns-then-ne
returns-then-ne c = next_other c.args.assumed.now c.args.clause.now c.loop-literal.literal-index _ c.negated.result c.loop-literal-test.true c.negated.ensures.literal
    c.loop-literal.open c.in-Some.other c.ne.result c.in-Some.is c.loop-literal.invariant (iff_false c.has.ensures c.if-has.false) c.ne.ensures c.if-ne.true

pub loop-literal-preserved : goal.loop-literal-preserved
loop-literal-preserved c = elim c.match-open.branch [
  | in-None w ↦ open_first c.args.assumed.now c.args.clause.now c.loop-literal.literal-index _ c.negated.result c.loop-literal-test.true c.negated.ensures.literal
      c.loop-literal.open c.match-open.open w.in-None.is w.open-is c.loop-literal.invariant (iff_false c.has.ensures c.if-has.false) (iff_false c.has-in-loop-literal.ensures c.if-has-2.false)
  | in-Some+else-ne w ↦ open_again c.args.assumed.now c.args.clause.now c.loop-literal.literal-index _ c.negated.result c.loop-literal-test.true c.negated.ensures.literal
      c.loop-literal.open c.match-open.open w.in-Some.other w.ne.result w.in-Some.is w.open-is c.loop-literal.invariant w.ne.ensures w.if-ne.false
]

use Rattle.std.proofs.Common.{rules}
use Rattle.std.proofs.lemmas.List.{take_rest}
use Rattle.mt_model.specs.Log.{SendSame}
use Rattle.mt_model.proofs.Pairs.{pair_found, pairs_more}
use Rattle.mt_model.proofs.validity.sent_once.Goals as goal

pub returns-then-repeats : goal.returns-then-repeats
returns-then-repeats c =
    let found = rw take_rest at (c.repeats.ensures.0 (search (rules, c.if-repeats.true))) in
    (λ e. absurd (cc), λ all. absurd (pair_found SendSame c.args.rows.now c.loop-i.i c.index-rows-i.result c.loop-i-test.true c.index-rows-i.is found all))

pub loop-i-preserved : goal.loop-i-preserved
loop-i-preserved c = pairs_more SendSame c.args.rows.now c.loop-i.i c.index-rows-i.result c.loop-i-test.true c.index-rows-i.is c.loop-i.invariant
    (λ any. let yes = c.repeats.ensures.1 (rw take_rest any) in search (rules, yes, c.if-repeats.false))

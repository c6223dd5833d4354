use Rattle.std.proofs.Common.{subst, length, ◌+◌}
use Rattle.proof_log.specs.declared.line.Hint.TheVariants as hint
use Rattle.proof_log.specs.Reading.{words_after}
use Rattle.proof_check.specs.Judging.{IsHintTaken}
use Rattle.proof_check.specs.Keeping.{lines_with}
use Rattle.proof_check.proofs.HintWords.{hints_end, hints_false, hints_more, hints_none, hints_stuck}
use Rattle.proof_check.proofs.judge.are_refuting.Goals as goal

pub returns-in_default : goal.returns-in_default
returns-in_default c =
    λ hints spelled all is. absurd
    (hints_none c.args.rules.now (lines_with c.args.kept.now.closed) (length c.args.kept.now.closed + 1) c.args.assumed.now
    (words_after c.args.words.now) c.args.count c.loop-i.i
    (words_after c.loop-i.rest.now) c.loop-i.assumed c.loop-i-test.true c.loop-i.invariant c.in_default.ensures.hint hints
    (record { spelled = spelled; all = all; words_are = is }) (hint.Line 0))

pub loop-i-preserved : goal.loop-i-preserved
loop-i-preserved c =
    λ hints given. hints_more c.args.rules.now (lines_with c.args.kept.now.closed) (length c.args.kept.now.closed + 1) c.args.assumed.now
    (words_after c.args.words.now) c.args.count c.loop-i.i (words_after c.loop-i.rest.now) c.loop-i.assumed c.loop-i-test.true c.loop-i.invariant
    c.refuters_give.ensures.law c.assumed_is_set.ensures.law c.steps_are_forced.ensures.law c.in-Some.hint (words_after c.in-Some.after.now) c.in-Some.ensures.hint c.take_hint.new.assumed
    (subst
    (IsHintTaken c.args.rules.now (lines_with c.args.kept.now.closed) (length c.args.kept.now.closed + 1) c.in-Some.hint c.loop-i.assumed c.take_hint.new.assumed)
    c.in-Gives.is c.in_ok-take_hint.ensures)
    hints given

pub returns-in-False : goal.returns-in-False
returns-in-False c =
    λ hints spelled all is. hints_false c.args.rules.now (lines_with c.args.kept.now.closed) (length c.args.kept.now.closed + 1) c.args.assumed.now
    (words_after c.args.words.now) c.args.count c.loop-i.i (words_after c.loop-i.rest.now) c.loop-i.assumed c.loop-i-test.true c.loop-i.invariant
    c.refuters_give.ensures.law c.assumed_is_set.ensures.law c.steps_are_forced.ensures.law c.in-Some.hint (words_after c.in-Some.after.now) c.in-Some.ensures.hint c.take_hint.new.assumed
    (subst
    (IsHintTaken c.args.rules.now (lines_with c.args.kept.now.closed) (length c.args.kept.now.closed + 1) c.in-Some.hint c.loop-i.assumed c.take_hint.new.assumed)
    c.in-False.is c.in_ok-take_hint.ensures)
    hints
    (record { spelled = spelled; all = all; words_are = is })

pub returns-in-Stuck : goal.returns-in-Stuck
returns-in-Stuck c =
    λ hints spelled all is. hints_stuck c.args.rules.now (lines_with c.args.kept.now.closed) (length c.args.kept.now.closed + 1) c.args.assumed.now
    (words_after c.args.words.now) c.args.count c.loop-i.i (words_after c.loop-i.rest.now) c.loop-i.assumed c.loop-i-test.true c.loop-i.invariant
    c.refuters_give.ensures.law c.assumed_is_set.ensures.law c.steps_are_forced.ensures.law c.in-Some.hint (words_after c.in-Some.after.now) c.in-Some.ensures.hint c.take_hint.new.assumed
    (subst
    (IsHintTaken c.args.rules.now (lines_with c.args.kept.now.closed) (length c.args.kept.now.closed + 1) c.in-Some.hint c.loop-i.assumed c.take_hint.new.assumed)
    c.in-Stuck.is c.in_ok-take_hint.ensures)
    hints
    (record { spelled = spelled; all = all; words_are = is })

pub returns : goal.returns
returns c =
    λ hints spelled all is. hints_end c.args.rules.now (lines_with c.args.kept.now.closed) (length c.args.kept.now.closed + 1) c.args.assumed.now
    (words_after c.args.words.now) c.args.count c.loop-i.i (words_after c.loop-i.rest.now) c.loop-i.assumed c.loop-i-test.false c.loop-i.invariant hints
    (record { spelled = spelled; all = all; words_are = is })

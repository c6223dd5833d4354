use Rattle.proof_log.specs.Reading.{words_after}
use Rattle.proof_check.specs.Places.{blank}
use Rattle.proof_check.proofs.WordLemmas.{lits_more, lits_none, lits_read, no_lits_read}
use Rattle.proof_check.proofs.judge.push_literals.Goals as goal

pub loop-i-init : goal.loop-i-init
loop-i-init c = no_lits_read c.args.kept.now (words_after c.args.words.now) c.read_count-count.result.0 (words_after c.read_count-count.result.1.now) c.read_count-count.ensures.number

pub returns-in_default-clause-literals : goal.returns-in_default-clause-literals
returns-in_default-clause-literals c = λ lits after spelled is.
    lits_none c.args.kept.now (words_after c.args.words.now) c.read_count-count.result.0 c.loop-i._i
    (words_after c.loop-i.rest.now) c.loop-i.kept c.loop-i-test.true c.loop-i.invariant c.in_default.ensures.literal lits after spelled is blank

pub loop-i-preserved : goal.loop-i-preserved
loop-i-preserved c =
    lits_more c.args.kept.now (words_after c.args.words.now) c.read_count-count.result.0 c.loop-i._i (words_after c.loop-i.rest.now) c.loop-i.kept c.loop-i-test.true c.loop-i.invariant
    c.in-Some.literal (words_after c.in-Some.after.now) c.in-Some.ensures.literal c.push.new.self c.in_ok-push.ensures.ok

pub returns-clause-literals : goal.returns-clause-literals
returns-clause-literals c = λ lits after spelled is.
    lits_read c.args.kept.now (words_after c.args.words.now) c.read_count-count.result.0 c.loop-i._i
    (words_after c.loop-i.rest.now) c.loop-i.kept c.loop-i-test.false c.loop-i.invariant lits after spelled is

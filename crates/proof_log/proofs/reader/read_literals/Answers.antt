use Rattle.std.proofs.Common.{◌<◌, length, None, arith}
use Rattle.proof_log.specs.Reading.{literal_in, words_after}
use Rattle.proof_log.proofs.Items.{all-read, counted, none-read, one-read, stopped, uncounted}
use Rattle.proof_log.proofs.reader.read_literals.Goals as goal

pub loop-rest-preserved : goal.loop-rest-preserved
loop-rest-preserved c =
    let before = c.loop-rest.invariant in
    let more : length c.loop-rest.lits < c.in-Some.count = omega (arith, c.len.ensures.count, c.loop-rest-test.true) in
    let next =
    one-read literal_in before.0 c.in-Some.count c.loop-rest.lits (words_after c.loop-rest.rest.now) c.in-Some-next_literal.literal
    (words_after c.in-Some-next_literal.after.now) before.2 more c.in-Some-next_literal.ensures in
    (before.0, before.1, rw c.in_ok-push.ensures.ok next)

pub loop-rest-init : goal.loop-rest-init
loop-rest-init c = (words_after c.in-Some.first.now, c.in-Some.ensures, rw c.requires (none-read literal_in (words_after c.in-Some.first.now) c.in-Some.count))

pub returns : goal.returns
returns c =
    let before = c.loop-rest.invariant in
    counted literal_in (words_after c.args.words.now) before.0 c.in-Some.count _ before.1
    (all-read literal_in before.0 c.in-Some.count c.loop-rest.lits (words_after c.loop-rest.rest.now) before.2 (omega (arith, c.len.ensures.count, c.loop-rest-test.false)))

pub returns-in_default : goal.returns-in_default
returns-in_default c = uncounted literal_in (words_after c.args.words.now) c.in_default.ensures

pub returns-in_default-next_literal : goal.returns-in_default-next_literal
returns-in_default-next_literal c =
    let before = c.loop-rest.invariant in
    let more : length c.loop-rest.lits < c.in-Some.count = omega (arith, c.len.ensures.count, c.loop-rest-test.true) in
    counted literal_in (words_after c.args.words.now) before.0 c.in-Some.count None before.1
    (stopped literal_in before.0 c.in-Some.count c.loop-rest.lits (words_after c.loop-rest.rest.now) before.2 more c.in_default-next_literal.ensures)

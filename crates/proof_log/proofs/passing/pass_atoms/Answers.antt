use Rattle.std.proofs.Common.{◌<◌, ◌≤◌, length, rules}
use Rattle.proof_log.specs.Reading.{literal_in, words_after}
use Rattle.proof_log.proofs.Items.{uncounted}
use Rattle.proof_log.proofs.PassedLines.{all-kept, no-more_kept, none-kept, one-kept}
use Rattle.proof_log.proofs.passing.pass_atoms.Goals as goal

pub loop-rest-init : goal.loop-rest-init
loop-rest-init c = none-kept (words_after c.args.words.now) (words_after c.in-Some.first.now) c.in-Some.count _ c.requires c.in-Some.ensures

pub loop-rest-preserved : goal.loop-rest-preserved
loop-rest-preserved c =
    let more : length c.loop-rest.atoms.items < c.in-Some.count = search (rules, c.loop-rest-test.true) in
    one-kept (words_after c.args.words.now)
    (words_after c.loop-rest.rest.now) c.in-Some.count c.loop-rest.atoms.items c.loop-rest.invariant c.in-Some-next_literal.literal
    (words_after c.in-Some-next_literal.after.now) _ more c.in-Some-next_literal.ensures c.in_ok-push.ensures.items

pub returns : goal.returns
returns c =
    let full : c.in-Some.count ≤ length c.loop-rest.atoms.items = search (rules, c.loop-rest-test.false) in
    all-kept (words_after c.args.words.now) (words_after c.loop-rest.rest.now) c.in-Some.count c.loop-rest.atoms.items c.loop-rest.invariant full

pub returns-in_default : goal.returns-in_default
returns-in_default c = uncounted literal_in (words_after c.args.words.now) c.in_default.ensures

pub returns-in_default-next_literal : goal.returns-in_default-next_literal
returns-in_default-next_literal c =
    let more : length c.loop-rest.atoms.items < c.in-Some.count = search (rules, c.loop-rest-test.true) in
    no-more_kept (words_after c.args.words.now) (words_after c.loop-rest.rest.now) c.in-Some.count c.loop-rest.atoms.items c.loop-rest.invariant more c.in_default-next_literal.ensures

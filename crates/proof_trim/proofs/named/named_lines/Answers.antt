use Rattle.std.proofs.Common.{◌≡◌, ◌∙◌, ap, length, ◌++◌, [], ◌∷◌, drop, rules}
use Rattle.proof_trim.proofs.LineTexts.{line-after}
use Rattle.proof_trim.proofs.NamedLists.{all-named, none-named, one-named}
use Rattle.proof_trim.proofs.named.named_lines.Goals as goal

pub loop-words-init : goal.loop-words-init
loop-words-init c = λ lines is. rw (c.new-numbers.ensures.items, c.in_ok-ends.ensures.items) (none-named c.args.text.now lines is)

pub loop-words-preserved : goal.loop-words-preserved
loop-words-preserved c = λ lines is.
    let so_far = c.loop-words.invariant lines is in
    let ends = c.loop-words.ends.items in
    let n = length ends in
    let head = c.in-Some.ensures.head (drop n lines) so_far.rest_is in
    let next = line-after lines n c.loop-words.rest.now c.in-Some.after.now c.in-Some.words so_far.rest_is head in
    let new = c.add_line.new.numbers.items in
    let size : c.len.result ≡ length new = search rules in
    one-named lines c.loop-words.numbers.items ends c.loop-words.rest.now so_far head.line c.in-Some.after.now next new c.push.new.self.items
    (c.in_ok-add_line.ensures head.line head.spelled head.words) (c.in_ok-push.ensures.items ∙ ap (λ k. ends ++ k ∷ []) size)

pub loop-words-smaller : goal.loop-words-smaller
loop-words-smaller c =
    let (lines, is) = c.requires.lines in
    let so_far = c.loop-words.invariant lines is in
    let n = length c.loop-words.ends.items in
    let head = c.in-Some.ensures.head (drop n lines) so_far.rest_is in
    (line-after lines n c.loop-words.rest.now c.in-Some.after.now c.in-Some.words so_far.rest_is head).shorter

pub returns : goal.returns
returns c = record { named = λ lines is. all-named lines c.loop-words.numbers.items c.loop-words.ends.items c.loop-words.rest.now (c.loop-words.invariant lines is) c.in_default.ensures.head }

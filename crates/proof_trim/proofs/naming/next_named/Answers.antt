use Rattle.std.proofs.Common.{◌∙◌, sym}
use Rattle.proof_trim.proofs.NextNamedLine.{more-scanned, next-found, none-scanned}
use Rattle.proof_trim.proofs.naming.next_named.Goals as goal

pub loop-word-init : goal.loop-word-init
loop-word-init c = none-scanned c.args.words.now

pub loop-word-preserved : goal.loop-word-preserved
loop-word-preserved c =
    let next = c.in-Some.ensures in
    more-scanned c.args.words.now c.loop-word.rest.now c.loop-word.invariant c.in-Some.word.now c.in-Some.after.now next.word next.bytes next.shorter
    (sym c.is_line_word.ensures ∙ c.if-is_line_word.false)

pub loop-word-smaller : goal.loop-word-smaller
loop-word-smaller c = c.in-Some.ensures.shorter

pub returns-then-is_line_word : goal.returns-then-is_line_word
returns-then-is_line_word c =
    let here = c.in-Some.ensures in
    let then_ = c.in-Some-next_word.ensures in
    rw c.number_of-line.ensures
    (next-found c.args.words.now c.loop-word.rest.now c.loop-word.invariant c.in-Some.word.now c.in-Some.after.now here.word here.bytes here.shorter
    (sym c.is_line_word.ensures ∙ c.if-is_line_word.true)
    c.in-Some-next_word.number.now c.in-Some-next_word.after.now then_.word then_.bytes then_.shorter)

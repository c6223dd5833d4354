use Rattle.std.proofs.Common.{◌≡◌, ◌∙◌, sym, length, arith}
use Rattle.std.specs.Prelude.{string_bytes}
use Rattle.skew_words.proofs.OperandLemmas.{given-all, given-mark, given-more, given-none, given-option}
use Rattle.skew_words.proofs.given.split_at_option.Goals as goal

pub loop-i-init : goal.loop-i-init
loop-i-init c = given-none string_bytes c.args.words.now

pub returns-then-is_mark : goal.returns-then-is_mark
returns-then-is_mark c =
    given-mark string_bytes c.args.words.now c.loop-i.i c.index-words-i.result (sym c.index-words-i.is) c.loop-i-test.true c.loop-i.invariant (sym c.is_mark.ensures ∙ c.if-is_mark.true)

pub returns-then-is_dashed : goal.returns-then-is_dashed
returns-then-is_dashed c =
    given-option string_bytes c.args.words.now c.loop-i.i c.index-words-i.result (sym c.index-words-i.is) c.loop-i-test.true c.loop-i.invariant
    (sym c.is_mark.ensures ∙ c.if-is_mark.false) (sym c.is_dashed.ensures ∙ c.if-is_dashed.true)

pub loop-i-preserved : goal.loop-i-preserved
loop-i-preserved c =
    given-more string_bytes c.args.words.now c.loop-i.i c.index-words-i.result (sym c.index-words-i.is) c.loop-i-test.true c.loop-i.invariant
    (sym c.is_mark.ensures ∙ c.if-is_mark.false) (sym c.is_dashed.ensures ∙ c.if-is_dashed.false)

pub returns : goal.returns
returns c =
    let all : c.loop-i.i ≡ length c.args.words.now = omega arith in
    given-all string_bytes c.args.words.now (rw all at c.loop-i.invariant)

use Rattle.std.proofs.Common.{◌≡◌, ◌∙◌, sym, ap, refl, Some, length, arith}
use Rattle.std.specs.Prelude.{string_bytes}
use Rattle.skew_words.proofs.OperandLemmas.{cut-words, uncut-words, read-all, read-mark, read-more, read-none, read-option}
use Rattle.skew_words.proofs.operands.Operands.among.Goals as goal

pub loop-i-init : goal.loop-i-init
loop-i-init c = read-none string_bytes c.args.words.now

pub returns-then-is_mark : goal.returns-then-is_mark
returns-then-is_mark c =
    let operands =
    read-mark string_bytes c.args.words.now c.loop-i.i c.index-words-i.result (sym c.index-words-i.is) c.loop-i-test.true c.loop-i.invariant (sym c.is_mark.ensures ∙ c.if-is_mark.true) in
    record { operands = rw operands (ap Some (cut-words string_bytes c.args.front.now c.args.words.now c.loop-i.i)) }

pub returns-then-is_dashed : goal.returns-then-is_dashed
returns-then-is_dashed c = record {
  operands =
      rw
      (read-option string_bytes c.args.words.now c.loop-i.i c.index-words-i.result (sym c.index-words-i.is) c.loop-i-test.true c.loop-i.invariant
      (sym c.is_mark.ensures ∙ c.if-is_mark.false) (sym c.is_dashed.ensures ∙ c.if-is_dashed.true))
      refl;
}

pub loop-i-preserved : goal.loop-i-preserved
loop-i-preserved c =
    read-more string_bytes c.args.words.now c.loop-i.i c.index-words-i.result (sym c.index-words-i.is) c.loop-i-test.true c.loop-i.invariant
    (sym c.is_mark.ensures ∙ c.if-is_mark.false) (sym c.is_dashed.ensures ∙ c.if-is_dashed.false)

pub returns : goal.returns
returns c =
    let all : c.loop-i.i ≡ length c.args.words.now = omega arith in
    record { operands = rw (read-all string_bytes c.args.words.now (rw all at c.loop-i.invariant)) (ap Some (uncut-words string_bytes c.args.front.now c.args.words.now)) }

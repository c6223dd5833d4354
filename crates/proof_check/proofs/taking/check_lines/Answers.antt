use Rattle.std.proofs.Common.{◌≡◌, ◌∙◌, ◌<◌, length, take, arith}
use Rattle.proof_log.specs.LinesText.{lines_text}
use Rattle.proof_check.proofs.FrontLemmas.{all_answered, front_answered}
use Rattle.proof_check.proofs.taking.check_lines.Goals as goal

pub returns-then-spelled-lines : goal.returns-then-spelled-lines
returns-then-spelled-lines c =
    let lines = c.args.lines.now in
    let n = c.in_ok-spelled.spelled in
    let is : c.as_slice.result.now ≡ lines_text (take n lines) = c.as_slice.ensures.value ∙ c.in_ok-text.ensures.text in
    let all : n ≡ length lines = omega arith in
    all_answered c.args.rules.now lines n c.in_ok-spelled.ensures c.as_slice.result.now is c.in_ok-front.field-0.check c.in_ok-front.ensures.answer all

pub returns : goal.returns
returns c =
    let lines = c.args.lines.now in
    let n = c.in_ok-spelled.spelled in
    let is : c.as_slice.result.now ≡ lines_text (take n lines) = c.as_slice.ensures.value ∙ c.in_ok-text.ensures.text in
    let low : n < length lines = omega (arith, c.in_ok-spelled.ensures.within) in
    front_answered c.args.rules.now lines n c.in_ok-spelled.ensures c.as_slice.result.now is c.in_ok-front.field-0.check c.in_ok-front.ensures.answer low
    c.with_unspelled.result c.with_unspelled.ensures

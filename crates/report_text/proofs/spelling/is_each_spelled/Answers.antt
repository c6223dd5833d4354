use Rattle.std.proofs.Common.{subst, refl, arith}
use Rattle.std.specs.Prelude.{All}
use Rattle.std.proofs.lemmas.List.{take_all}
use Rattle.std.proofs.lemmas.List.Elements.{All-more}
use Rattle.proof_log.specs.Spelled.{IsSpelled as IsSpelledLine}
use Rattle.report_text.proofs.spelling.is_each_spelled.Goals as goal

pub loop-line-preserved : goal.loop-line-preserved
loop-line-preserved c =
    let spelled : IsSpelledLine c.line-item.result = c.in_ok-spelled.ensures.spelled.0 c.if-not-spelled.false in
    All-more IsSpelledLine c.args.lines.now c.loop-line.line-index c.line-item.result c.loop-line-test.true c.loop-line.invariant (subst IsSpelledLine c.line-item.is spelled)

pub returns : goal.returns
returns c = (λ yes. subst (All IsSpelledLine) (take_all c.loop-line.line-index c.args.lines.now (omega (arith, c.loop-line-test.false))) c.loop-line.invariant, λ all. refl)

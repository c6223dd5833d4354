use Rattle.std.proofs.Common.{arith, []}
use Rattle.proof_log.specs.declared.line.Line.TheVariants as line
use Rattle.proof_log.specs.Spelled.{IsSpelled as IsSpelledLine}
use Rattle.report_text.proofs.ItemLists.{all-passed, one-passed, passed-stopped}
use Rattle.report_text.proofs.LineTexts.{joined, lines-spelled}
use Rattle.report_text.proofs.Sections.{no-steps}
use Rattle.report_text.proofs.items.pass_lines.Goals as goal

pub returns-in_default : goal.returns-in_default
returns-in_default c =
    passed-stopped IsSpelledLine joined lines-spelled
    (line.Cycle []) no-steps c.args.count c.args.bytes.now c.loop-passed.passed c.loop-passed.rest.now c.loop-passed.invariant c.loop-passed-test.true
    (rw c.in_default.is at c.in_ok-after.ensures)

pub loop-passed-preserved : goal.loop-passed-preserved
loop-passed-preserved c =
    one-passed IsSpelledLine joined lines-spelled c.args.count c.args.bytes.now c.loop-passed.passed c.loop-passed.rest.now
    (rw c.in-Some.is at c.in_ok-after.ensures).0 c.in-Some.after.now c.loop-passed.invariant c.loop-passed-test.true
    (rw c.in-Some.is at c.in_ok-after.ensures).1

pub returns : goal.returns
returns c = all-passed IsSpelledLine joined lines-spelled c.args.count c.args.bytes.now c.loop-passed.passed c.loop-passed.rest.now c.loop-passed.invariant (omega (arith, c.loop-passed-test.false))

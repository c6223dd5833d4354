use Rattle.std.proofs.Common.{◌∙◌, ◌++◌, ap, length}
use Rattle.std.specs.Fmt.{decimal}
use Rattle.proof_log.specs.LinesText.{line_text}
use Rattle.report_text.specs.ReportText.{ended}
use Rattle.report_text.proofs.Walks.{item-more}
use Rattle.report_text.proofs.printer.push_derivation.Goals as goal

pub loop-line-preserved : goal.loop-line-preserved
loop-line-preserved c =
    let first = ended (c.args.words.now ++ decimal (length c.args.lines.now)) in
    let added = c.in_ok-push_line.ensures.text ∙ ap (λ l. c.loop-line.text.items ++ line_text l) c.line-item.is in
    item-more line_text c.args.text.now.items c.loop-line.text.items c.push_line.new.text.items first c.args.lines.now c.loop-line.line-index c.line-item.result
    c.loop-line-test.true c.loop-line.invariant added

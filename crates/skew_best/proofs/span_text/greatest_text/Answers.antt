use Rattle.std.proofs.Common.{rules, ◌≡◌, ◌++◌, codes, length}
use Rattle.std.specs.Fmt.{decimal, signed_decimal}
use Rattle.proof_log.specs.LinesText.{lines_text}
use Rattle.report_text.specs.ReportText.{ended, last_line, section_text}
use Rattle.skew_best.proofs.Joining.{joined}
use Rattle.skew_best.proofs.span_text.greatest_text.Goals as goal

pub returns : goal.returns
returns c =
    let words : c.as_bytes.result.now ≡ codes "span " ++ signed_decimal c.args.d = search rules in
    let begun = rw words at c.in_ok-text.ensures in
    joined c.in_ok-text.text.items c.push_derivation.new.text.items c.push_ended.new.text.items (ended (codes "span " ++ signed_decimal c.args.d)) (section_text c.args.value c.args.witness.now)
    (ended (codes "beyond refuted " ++ decimal (length c.args.beyond.now)) ++ lines_text c.args.beyond.now) (ended last_line) begun c.in_ok-push_derivation.ensures.text c.in_ok-push_ended.ensures.text

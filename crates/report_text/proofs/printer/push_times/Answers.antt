use Rattle.std.proofs.Common.{◌≡◌, ◌++◌, [], get_or, pos, rules}
use Rattle.report_text.specs.ReportText.{time_text}
use Rattle.report_text.proofs.Walks.{item-more}
use Rattle.report_text.proofs.printer.push_times.Goals as goal

pub loop-time-preserved : goal.loop-time-preserved
loop-time-preserved c =
    let added : c.push_time.new.text.items ≡ c.loop-time.text.items ++ time_text (get_or c.args.times.now c.loop-time.time-index (pos 0)) = search rules in
    item-more time_text c.args.text.now.items c.loop-time.text.items c.push_time.new.text.items [] c.args.times.now c.loop-time.time-index (pos 0) c.loop-time-test.true c.loop-time.invariant added

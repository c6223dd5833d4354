use Rattle.std.proofs.Common.{◌≡◌, ◌++◌, take}
use Rattle.std.specs.List.{flat_map}
use Rattle.report_text.specs.ReportText.{time_text}
use Rattle.report_text.proofs.printer.push_times.Given as goal

abbrev pub invariant-loop-time : goal.invariant-loop-time
invariant-loop-time l = l.text.items ≡ l.fn.text.items ++ flat_map time_text (take l.time-index l.times)

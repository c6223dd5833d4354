use Rattle.std.proofs.Common.{◌≡◌, ◌++◌, codes, length, take}
use Rattle.std.specs.Fmt.{decimal}
use Rattle.std.specs.List.{flat_map}
use Rattle.report_text.specs.ReportText.{bound_text, ended}
use Rattle.report_text.proofs.printer.push_walk.Given as goal

abbrev pub invariant-loop-step : goal.invariant-loop-step
invariant-loop-step l = l.text.items ≡ l.fn.text.items ++ (ended (codes "inconsistent " ++ decimal (length l.steps)) ++ flat_map bound_text (take l.step-index l.steps))

use Rattle.std.proofs.Common.{◌≡◌, take}
use Rattle.std.specs.Prelude.{string_bytes}
use Rattle.skew_answers.specs.Texts.{times_text}
use Rattle.skew_answers.proofs.texts.written_times.Given as goal

abbrev pub invariant-loop-time : goal.invariant-loop-time
invariant-loop-time l = string_bytes l.text ≡ times_text (take l.time-index l.times)

use Rattle.std.proofs.Common.{◌≡◌, ◌++◌, length, take}
use Rattle.std.specs.Prelude.{string_bytes, codes}
use Rattle.std.specs.Fmt.{decimal}
use Rattle.std.specs.List.{flat_map}
use Rattle.mt_model.specs.Texts.{step_text}
use Rattle.skew_answers.specs.Texts.{line}
use Rattle.skew_answers.proofs.texts.written_steps.Given as goal

abbrev pub invariant-loop-step : goal.invariant-loop-step
invariant-loop-step l = string_bytes l.text ≡ line (codes "inconsistent " ++ decimal (length l.steps)) ++ flat_map (λ s. line (step_text s)) (take l.step-index l.steps)

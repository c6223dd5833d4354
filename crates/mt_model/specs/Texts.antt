-- Steps as text.
use Rattle.std.specs.Prelude.{ℕ, List, ◌++◌, codes}
use Rattle.std.specs.Fmt.{decimal, signed_decimal}
use Rattle.mt_model.specs.declared.step.Step.{Step}
use Rattle.mt_model.specs.declared.step.Step.TheVariants.{Low, High, Rise, Message, Late, Under, Over, Extra, Order}

-- the word of a step, and its numbers
abbrev pub step_text : Step → List ℕ
step_text (Low e) = codes "low " ++ decimal e
step_text (High e) = codes "high " ++ decimal e
step_text (Rise e) = codes "rise " ++ decimal e
step_text (Message e) = codes "message " ++ decimal e
step_text (Late e) = codes "late " ++ decimal e
step_text (Under e) = codes "under " ++ decimal e
step_text (Over e) = codes "over " ++ decimal e
step_text (Extra k) = codes "extra " ++ decimal k
step_text (Order e f c) = codes "order " ++ decimal e ++ codes " " ++ decimal f ++ codes " " ++ signed_decimal c

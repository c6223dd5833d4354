use Rattle.std.proofs.Common.{◌∙◌, ap, ◌∷◌, ◌++◌, [], append_assoc}
use Rattle.proof_log.specs.LinesText.{newline}
use Rattle.proof_trim.proofs.text_copy.push_line.Goals as goal

pub returns : goal.returns
returns c = λ l is are. c.in_ok-push.ensures.items ∙ ap (λ t. t ++ newline ∷ []) (c.in_ok-push_words.ensures l is are) ∙ append_assoc c.args.left.now.items _ (newline ∷ [])

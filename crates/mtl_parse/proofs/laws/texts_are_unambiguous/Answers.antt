use Rattle.std.proofs.Common.{◌∙◌, sym}
use Rattle.mtl_parse.proofs.Judging.{one_answer}
use Rattle.mtl_parse.proofs.laws.texts_are_unambiguous.Goals as goal

pub returns : goal.returns
returns c = λ text r s p q. sym (one_answer text r p) ∙ one_answer text s q

use Rattle.mtl_parse.proofs.BlanksAndTokens.{other-texts}
use Rattle.mtl_parse.proofs.laws.other_texts_have_faults.Goals as goal

pub returns : goal.returns
returns c = other-texts

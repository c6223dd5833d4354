use Rattle.mtl_parse.proofs.Completeness.{same_formula}
use Rattle.mtl_parse.proofs.laws.tokens_are_unambiguous.Goals as goal

pub returns : goal.returns
returns c = same_formula

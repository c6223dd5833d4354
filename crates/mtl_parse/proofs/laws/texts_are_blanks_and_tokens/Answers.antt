use Rattle.mtl_parse.proofs.BlanksAndTokens.{blanks-and-tokens}
use Rattle.mtl_parse.proofs.laws.texts_are_blanks_and_tokens.Goals as goal

pub returns : goal.returns
returns c = blanks-and-tokens

use Rattle.mt_model.specs.Name.{is_digit}
use Rattle.mtl_parse.proofs.Digits.{run_passes}
use Rattle.mtl_parse.proofs.token.lexeme_at.Goals as goal

pub number_lexeme-requires-clause-digits : goal.number_lexeme-requires-clause-digits
number_lexeme-requires-clause-digits c = rw c.digits_at.ensures (run_passes is_digit c.args.bytes.now)

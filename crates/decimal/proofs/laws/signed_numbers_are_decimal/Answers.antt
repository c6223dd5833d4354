use Rattle.decimal.proofs.Written.{signed-decimal}
use Rattle.decimal.proofs.laws.signed_numbers_are_decimal.Goals as goal

pub returns : goal.returns
returns c = record { decimal = signed-decimal }

use Rattle.decimal.proofs.Written.{numbers-decimal}
use Rattle.decimal.proofs.laws.numbers_are_decimal.Goals as goal

pub returns : goal.returns
returns c = record { decimal = numbers-decimal }

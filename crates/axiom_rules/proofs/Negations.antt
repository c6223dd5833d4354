-- The negation of a bound, less 1.
use Rattle.std.proofs.Common.{ℤ, pos, ◌-ℤ◌, FitsSigned, arith}
use Rattle.std.proofs.lemmas.Int.{ints}
use Rattle.std.specs.Int.{w128}
use Rattle.mt_model.specs.Log.{IsWithin}

pub negation-fits : (c : ℤ) → IsWithin (pos 18446744073709551616) c → FitsSigned w128 (pos 0 -ℤ c)
negation-fits c within = grind (arith, ints)

pub negation_less-fits : (c : ℤ) → IsWithin (pos 18446744073709551616) c → FitsSigned w128 ((pos 0 -ℤ c) -ℤ pos 1)
negation_less-fits c within = grind (arith, ints)

use Rattle.std.proofs.Common.{◌≡◌, drop}
use Rattle.std.specs.Prelude.{map}
use Rattle.mtl_parse.specs.FormulaOf.{first_empty_interval}
use Rattle.mtl_parse.specs.States.{placed_in}
use Rattle.mtl_parse.proofs.tokens.first_empty_interval.Given as goal

abbrev pub invariant-loop-i : goal.invariant-loop-i
invariant-loop-i l = first_empty_interval (map placed_in (drop l.i l.tokens)) ≡ first_empty_interval (map placed_in l.tokens)

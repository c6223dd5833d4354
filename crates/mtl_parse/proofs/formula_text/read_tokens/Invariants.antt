use Rattle.std.proofs.Common.{◌≡◌, drop}
use Rattle.std.specs.Prelude.{map}
use Rattle.mtl_parse.specs.Machine.{begin, capped, read_all}
use Rattle.mtl_parse.specs.States.{placed_in, state_in}
use Rattle.mtl_parse.proofs.formula_text.read_tokens.Given as goal

abbrev pub invariant-loop-placed : goal.invariant-loop-placed
invariant-loop-placed l = read_all capped (state_in l.parser) (map placed_in (drop l.placed-index l.tokens)) ≡ read_all capped begin (map placed_in l.tokens)

use Rattle.std.specs.Prelude.{map}
use Rattle.mtl_parse.specs.States.{placed_in}
use Rattle.mtl_parse.proofs.Scanning.{Scanned}
use Rattle.mtl_parse.proofs.tokens.tokens_of.Given as goal

abbrev pub invariant-loop-i : goal.invariant-loop-i
invariant-loop-i l = Scanned l.bytes (map placed_in l.tokens.items) l.belong l.i

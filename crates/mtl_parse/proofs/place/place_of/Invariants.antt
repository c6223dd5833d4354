use Rattle.mtl_parse.proofs.PlacesAfter.{Remains}
use Rattle.mtl_parse.proofs.place.place_of.Given as goal

abbrev pub invariant-loop-i : goal.invariant-loop-i
invariant-loop-i l = Remains l.bytes l.fn.index l.belong l.i l.last l.left

use Rattle.std.proofs.Common.{◌≡◌, take, eqb, false}
use Rattle.std.specs.Prelude.{slice_index}
use Rattle.std.specs.List.{list_any}
use Rattle.neg_cycle.specs.Search.{nodes_of}
use Rattle.neg_cycle.proofs.search.visit.Given as goal

abbrev pub invariant-loop-i : goal.invariant-loop-i
invariant-loop-i l = record {
  here : l.here ≡ slice_index (nodes_of l.edges l.walk.start l.walk.places.items) l.i;
  before : list_any (eqb l.node) (take l.i (nodes_of l.edges l.walk.start l.walk.places.items)) ≡ false;
}

use Rattle.std.proofs.Common.{◌≡◌, ◌+◌, ◌-◌, ◌<◌, ◌≤◌, ◌^◌, ◌∷◌, [], ◌++◌, length, true, Some, vec_len}
use Rattle.mt_port.specs.Port.{Opens, file_of}
use Rattle.mt_port.proofs.whole.read_all.Given as goal

abbrev pub invariant-loop-bytes : goal.invariant-loop-bytes
invariant-loop-bytes g l = record {
  is_open : g.S.Shelf.is_open l.shelf ≡ true;
  size : length l.buf ≡ 4096;
  within : vec_len l.bytes ≤ l.limit;
  bytes : g.S.Shelf.tells l.fn.shelf ≡ true → file_of (g.S.Shelf.files l.fn.shelf) l.name ≡ Some (l.bytes.items ++ g.S.Shelf.left l.shelf);
  quiet : g.S.Shelf.faults l.shelf ≡ g.S.Shelf.faults l.fn.shelf;
  in_range : g.S.Shelf.faults l.shelf < 2 ^ 64;
  steady : g.S.Shelf.steady l.fn.shelf → g.S.Shelf.steady l.shelf;
  files : g.S.Shelf.files l.shelf ≡ g.S.Shelf.files l.fn.shelf;
  once : Opens (l.name ∷ []) (g.S.Shelf.openings l.fn.shelf) (g.S.Shelf.openings l.shelf);
  telling : g.S.Shelf.tells l.shelf ≡ g.S.Shelf.tells l.fn.shelf;
}

abbrev pub decreases-loop-bytes : goal.decreases-loop-bytes
decreases-loop-bytes g l = l.limit + 1 - vec_len l.bytes

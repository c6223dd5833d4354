use Rattle.std.proofs.Common.{◌≡◌, ◌≤◌, length, take, vec_len}
use Rattle.std.specs.Prelude.{vec_capacity}
use Rattle.propagate.specs.Stored.{AreValues, IsTable}
use Rattle.propagate.proofs.stored.forget.Given as goal

abbrev pub invariant-entries : goal.invariant-entries
invariant-entries l = record {
  table : IsTable l.entries.items l.places.items;
  values : AreValues l.entries.items l.places.items l.values.items;
  front : l.entries.items ≡ take (length l.entries.items) l.fn.entries.items;
  count : length l.places.items ≡ length l.fn.places.items;
  capacity : vec_capacity l.entries ≡ vec_capacity l.fn.entries;
  rest : l.start ≤ length l.entries.items;
}

abbrev pub decreases-entries : goal.decreases-entries
decreases-entries l = vec_len l.entries

use Rattle.std.proofs.Common.{◌≡◌, map, length}
use Rattle.std.specs.Prelude.{All, IfSome}
use Rattle.std.specs.List.{range_with_len}
use Rattle.mt_model.specs.Log.{IsReading}
use Rattle.mt_model.specs.Timing.{reading_of}
use Rattle.mt_model.proofs.log.Log.readings_by_row.Given as goal

abbrev pub invariant-loop-e : goal.invariant-loop-e
invariant-loop-e l = record {
  list : l.list ≡ map (reading_of l.self) (range_with_len 0 l.e);
  valid : All (λ r. IfSome r (IsReading (length l.self.hosts) (length l.self.rows) (length l.self.clocks))) l.list;
}

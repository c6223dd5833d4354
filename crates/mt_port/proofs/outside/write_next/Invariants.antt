-- the writes that were broken off have added nothing
use Rattle.std.proofs.Common.{◌-◌, ◌≤◌}
use Rattle.std.specs.Io.KnownBytes.{Keeps}
use Rattle.mt_port.specs.Calls.{BreakOff}
use Rattle.mt_port.proofs.outside.write_next.Given as goal

abbrev pub invariant-loop-broken_off : goal.invariant-loop-broken_off
invariant-loop-broken_off g l = record {
  kept : Keeps (g.W.Outlet.holds l.fn.writer) (g.W.Outlet.holds l.writer);
  within : l.broken_off ≤ 65536;
  broken : BreakOff (λ a r b. g.W.Outlet.writes a l.piece r b) l.broken_off l.fn.writer l.writer;
}

abbrev pub decreases-loop-broken_off : goal.decreases-loop-broken_off
decreases-loop-broken_off g l = 65536 - l.broken_off

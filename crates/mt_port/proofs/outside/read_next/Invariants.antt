-- the reads that were broken off have taken nothing
use Rattle.std.proofs.Common.{◌≡◌, ◌-◌, ◌≤◌, length}
use Rattle.std.specs.Io.KnownBytes.{Keeps}
use Rattle.mt_port.specs.Calls.{BreakOff, Reading}
use Rattle.mt_port.proofs.outside.read_next.Given as goal

abbrev pub invariant-loop-broken_off : goal.invariant-loop-broken_off
invariant-loop-broken_off g l = record {
  size : length l.buf ≡ length l.fn.buf;
  kept : Keeps (g.R.Inlet.left l.fn.reader) (g.R.Inlet.left l.reader);
  within : l.broken_off ≤ 65536;
  broken : BreakOff (Reading g.R.Inlet.reads) l.broken_off (l.fn.reader, l.fn.buf) (l.reader, l.buf);
}

abbrev pub decreases-loop-broken_off : goal.decreases-loop-broken_off
decreases-loop-broken_off g l = 65536 - l.broken_off

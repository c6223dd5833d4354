use Rattle.log_read.specs.LogText.{resyncs_at}
use Rattle.log_read.proofs.PushedLines.{IsPushedUpTo}
use Rattle.log_read.proofs.writer.push_resyncs_at.Given as goal

abbrev pub invariant-loop-resync : goal.invariant-loop-resync
invariant-loop-resync l = IsPushedUpTo (λ i resyncs. resyncs_at l.hosts resyncs l.place) l.resyncs l.fn.text.items l.text.items l.resync-index

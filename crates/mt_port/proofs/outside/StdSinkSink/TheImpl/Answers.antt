-- What the trait asks of a sink that tells nothing holds of every answer.
use Rattle.mt_port.proofs.Untold.{if_ok, on_err}
use Rattle.mt_port.proofs.outside.StdSinkSink.TheImpl.Goals as goal

pub write-tells : goal.write-tells
write-tells g c = record {
  count = c.ensures.count;
  some = c.ensures.some;
  taken = if_ok _ c.result;
  kept = on_err _ c.result;
  telling = cc;
  cause = c.ensures.cause;
  in_range = c.ensures.in_range;
}

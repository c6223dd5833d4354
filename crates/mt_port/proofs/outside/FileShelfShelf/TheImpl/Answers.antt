-- What the traits ask of a shelf that tells nothing holds of every answer.
use Rattle.std.proofs.Common.{◌∙◌}
use Rattle.mt_port.proofs.Counted.{one_more_counted}
use Rattle.mt_port.proofs.Untold.{if_ok, on_err, on_ok}
use Rattle.mt_port.proofs.outside.FileShelfShelf.TheImpl.Goals as goal

pub open-tells : goal.open-tells
open-tells g c = record {
  opened = c.ensures.opened;
  closed = c.ensures.closed;
  at_start = on_ok _ c.result;
  files = cc;
  telling = cc;
  opening = λ past counted. one_more_counted _ _ c.args.name.now past c.ensures.opening counted;
  cause = c.ensures.cause;
  in_range = c.ensures.in_range;
  steady = λ no. no;
  never = λ no. absurd no;
}

pub read-tells : goal.read-tells
read-tells g c = record {
  «open» = c.ensures.«open»;
  count = c.ensures.count;
  bytes = if_ok _ c.result;
  place = on_err _ c.result;
  files = cc;
  telling = cc;
  openings = λ past counted. c.ensures.openings ∙ counted;
  cause = c.ensures.cause;
  in_range = c.ensures.in_range;
  steady = λ no. no;
  never = λ no. absurd no;
}

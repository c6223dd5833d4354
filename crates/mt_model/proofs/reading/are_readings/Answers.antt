use Rattle.std.proofs.Common.{rules}
use Rattle.mt_model.proofs.reading.are_readings.Goals as goal

pub returns-then-in_order : goal.returns-then-in_order
returns-then-in_order c = (
  λ all_read. let all = c.are_all_read.ensures.0 all_read in record {
    each = c.are_each-each.ensures.0 (search (rules, c.if-in_order.true));
    in_order = c.in_order-in_order.ensures.0 (search (rules, c.if-in_order.true));
    in_turn = all.0;
    read = all.1;
  },
  λ are. c.are_all_read.ensures.1 (are.in_turn, are.read),
)

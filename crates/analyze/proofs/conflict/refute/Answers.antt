use Rattle.std.proofs.Common.{◌≡◌, [], reverse}
use Rattle.analyze.proofs.Ends.{refute_denied, used_for, none_aside}
use Rattle.analyze.proofs.conflict.refute.Goals as goal

pub returns : goal.returns
returns c =
    let t = c.args.trail.now in
    let db = c.args.db.now in
    let trail = c.trails_are_in_order.ensures.trail in
    let aside = c.in_ok-work.work.aside.items in
    let from_first = reverse c.in_ok-work.work.hints.items in
    let w = c.in_ok-work.ensures.work in
    let none : aside ≡ [] = none_aside t db trail c.args.conflict _ aside from_first w c.requires.level in
    record {
      refute = rw c.in_order.ensures.order (rw none at (refute_denied t db trail c.args.conflict _ aside from_first w));
      used = rw c.in_order.ensures.order (rw none at (used_for t db trail c.args.conflict _ aside from_first w));
      last = rw c.in_order.ensures.order w.ends;
    }

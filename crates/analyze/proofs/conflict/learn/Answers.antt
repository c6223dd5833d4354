use Rattle.std.proofs.Common.{◌≡◌, ◌∙◌, map, reverse}
use Rattle.analyze.specs.Resolving.{denied}
use Rattle.analyze.proofs.Ends.{falsified, variables, once, asserting, jumped, unit_below, refute_denied, used_for, some_aside, two_above}
use Rattle.analyze.proofs.conflict.learn.Goals as goal

pub returns : goal.returns
returns c =
    let t = c.args.trail.now in
    let db = c.args.db.now in
    let trail = c.trails_are_in_order.ensures.trail in
    let aside = c.in_ok-work.work.aside.items in
    let from_first = reverse c.in_ok-work.work.hints.items in
    let w = c.in_ok-work.ensures.work in
    let some = some_aside t db trail c.args.conflict _ aside from_first w c.requires.level in
    let lits : c.from_vec.result ≡ map (denied t.entries) aside = c.from_vec.ensures.items ∙ (rw c.deref.ensures.value at c.in_ok-lits.ensures.literals) in
    let hints : c.from_vec-2.result ≡ from_first = c.from_vec-2.ensures.items ∙ c.in_order-hints.ensures.order in
    let one = rw c.deref-2.ensures.value at c.jump-jump.ensures.one in
    let more = rw c.deref-2.ensures.value at c.jump-jump.ensures.more in
    record {
      asserting = rw lits (asserting t trail aside w.are_aside some);
      jump = rw lits (jumped t trail aside c.jump-jump.result w.are_aside some one more);
      falsified = rw lits (falsified t trail aside w.are_aside);
      variables = rw lits (variables t trail aside w.are_aside);
      once = rw lits (once t trail aside w.are_aside);
      refute = rw (lits, hints) (refute_denied t db trail c.args.conflict _ aside from_first w);
      used = rw (lits, hints) (used_for t db trail c.args.conflict _ aside from_first w);
      last = rw hints w.ends;
      below = rw lits (unit_below t trail aside w.are_aside some);
      two_above = two_above t db trail c.args.conflict _ aside from_first w c.jump-jump.result one more;
    }

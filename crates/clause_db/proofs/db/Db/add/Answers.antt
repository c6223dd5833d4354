use Rattle.std.proofs.Common.{◌≡◌, ◌+◌, length, arith, ap}
use Rattle.hint_refutation.proofs.Pieces.{pieces_count}
use Rattle.clause_db.proofs.FlatLemmas.{flat_push, clauses_push}
use Rattle.clause_db.proofs.db.Db.add.Goals as goal

pub invariant_of-self-2 : goal.invariant_of-self-2
invariant_of-self-2 c =
    let old = c.self.inside in
    let count = pieces_count 0 old.lits.items old.ends.items in
    let end : c.in-Some.end ≡ length old.lits.items + length c.args.lits.now = omega (arith, c.in-Some.ensures.end, c.len-2.ensures, old.lits.ok.0) in
    rw (c.in_ok-extend_from_slice.ensures.items, c.in_ok-push.ensures.items, c.in_ok-reserve.ensures.items)
    (flat_push old.lits.items c.args.lits.now old.ends.items c.in-Some.end c.self.invariant c.requires.once (omega (arith, c.requires.room, count, ap length c.self.view_is)) end)

pub returns-clause-ok : goal.returns-clause-ok
returns-clause-ok c =
    let old = c.self.inside in
    let end : c.in-Some.end ≡ length old.lits.items + length c.args.lits.now = omega (arith, c.in-Some.ensures.end, c.len-2.ensures, old.lits.ok.0) in
    rw (c.in_ok-extend_from_slice.ensures.items, c.in_ok-push.ensures.items, c.in_ok-reserve.ensures.items, ← c.self.view_is)
    (clauses_push old.lits.items c.args.lits.now old.ends.items c.in-Some.end c.self.invariant end)

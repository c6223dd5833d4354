use Rattle.std.proofs.Common.{◌∙◌, sym, arith}
use Rattle.mtl_encode.proofs.HeldLemmas.{held-more, not-true}
use Rattle.mtl_encode.proofs.held.Held.add.Goals as goal

pub returns : goal.returns
returns c = record {
  held =
      held-more c.args.rules.now c.args.self.now (record { clauses = c.push.new.self; instances = c.insert.new.self }) c.args.rule c.requires.held c.in_ok-push.ensures.gains
      (not-true _ (sym c.in_ok-insert.ensures.added ∙ c.if-not-branch.false)) c.in_ok-insert.ensures.keys (c.has_room.ensures.rules c.if-not-has_room.false)
      (omega (arith, rw c.as_slice.ensures at c.in_ok-push.ensures.atoms, c.has_room.ensures.atoms c.if-not-has_room.false, c.len.ensures.value));
}

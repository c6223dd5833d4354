use Rattle.std.proofs.Common.{◌≡◌, arith, length}
use Rattle.hint_refutation.proofs.Pieces.{rise_push}
use Rattle.proof_check.proofs.KeptPieces.{kept_close}
use Rattle.proof_check.proofs.kept.Clauses.close.Goals as goal

pub invariant_of-self-2 : goal.invariant_of-self-2
invariant_of-self-2 c =
    let old = c.self.inside in
    let end : c.len-end.result ≡ length old.literals.items = omega (arith, c.len-end.ensures) in
    rw (c.in_ok-push.ensures.items, end) (rise_push 0 old.ends.items (length old.literals.items) c.self.invariant)

pub returns : goal.returns
returns c =
    let old = c.self.inside in
    let end : c.len-end.result ≡ length old.literals.items = omega (arith, c.len-end.ensures) in
    record { ok = rw (c.in_ok-push.ensures.items, end, ← c.self.view_is) (kept_close old.literals.items old.ends.items) }

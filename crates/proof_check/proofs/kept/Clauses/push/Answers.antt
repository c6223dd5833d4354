use Rattle.std.proofs.Common.{[], ◌∷◌, arith, length, length-append}
use Rattle.hint_refutation.proofs.Pieces.{rise_more}
use Rattle.proof_check.proofs.KeptPieces.{kept_push}
use Rattle.proof_check.proofs.kept.Clauses.push.Goals as goal

pub invariant_of-self-2 : goal.invariant_of-self-2
invariant_of-self-2 c =
    let old = c.self.inside in
    rw c.in_ok-push.ensures.items (rise_more 0 old.ends.items (length old.literals.items) _ c.self.invariant (omega (arith, length-append old.literals.items (c.args.literal ∷ []))))

pub returns : goal.returns
returns c = record { ok = rw (c.in_ok-push.ensures.items, ← c.self.view_is) (kept_push c.self.inside.literals.items c.self.inside.ends.items c.args.literal c.self.invariant) }

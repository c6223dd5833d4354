use Rattle.std.proofs.Common.{◌≡◌, inl, inr, [], true, arith}
use Rattle.std.specs.List.{list_any}
use Rattle.std.proofs.lemmas.List.Elements.{All-from_get_or}
use Rattle.clause_db.specs.Literals.{value_of}
use Rattle.mtl_encode.specs.Models.{value_at}
use Rattle.cdcl_core.proofs.Scanned.{below_or_last}
use Rattle.cdcl_core.proofs.read_off.meet_all.Goals as goal

pub loop-c-preserved : goal.loop-c-preserved
loop-c-preserved c = λ k low. elim (below_or_last k c.loop-c.c low) [
  | inl less ↦ c.loop-c.invariant k less
  | inr is ↦ grind (arith, is, c.lits.ensures.clause, c.is_met.ensures, c.new.ensures.place, c.if-not-is_met.false)
]

pub returns : goal.returns
returns c =
    λ yes. All-from_get_or (λ lits. list_any (value_of (value_at c.args.values.now)) lits ≡ true) c.args.db.now []
    (λ k below. c.loop-c.invariant k (omega (arith, below, c.loop-c-test.false, c.len-c-end.ensures.count)))

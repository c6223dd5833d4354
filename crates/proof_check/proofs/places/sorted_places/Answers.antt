use Rattle.std.proofs.Common.{refl, rules}
use Rattle.std.proofs.lemmas.Fn.{always_returns_same}
use Rattle.proof_check.specs.Places.{literal_at}
use Rattle.proof_check.proofs.PlaceLemmas.{sorted_from}
use Rattle.proof_check.proofs.places.sorted_places.Goals as goal

pub returns : goal.returns
returns c =
    let lits = c.args.lits.now in
    let sorted = c.in_ok-sort_by_key.ensures.sorted (literal_at lits) (always_returns_same _ _ _ (λ a r q k. search rules)) in
    let stable = c.in_ok-sort_by_key.ensures.stable (literal_at lits) (always_returns_same _ _ _ (λ a r q k. search rules)) in
    sorted_from lits _ c.sort_by_key.new.self.items refl (rw c.in_ok-places.ensures at c.in_ok-sort_by_key.ensures.permutation) sorted (rw c.in_ok-places.ensures at stable)

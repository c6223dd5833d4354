-- The levels below the present one don't reach what a conflict teaches.
use Rattle.std.proofs.Common.{◌≡◌, ◌≢◌, ◌∙◌, ap, sym, ℕ, ◌-◌, List, ◌∷◌, length, map}
use Rattle.std.specs.Prelude.{Contains}
use Rattle.std.proofs.lemmas.List.Elements.{All-contains, All-map}
use Rattle.hint_refutation.specs.Propagation.{IsConsistent, Misses}
use Rattle.hint_refutation.proofs.Lists.{all_from, contains_unmap}
use Rattle.hint_refutation.proofs.Propagated.{settled-closed}
use Rattle.clause_db.specs.declared.lit.Lit.{Lit}
use Rattle.clause_db.specs.Literals.{negation}
use Rattle.propagate.specs.declared.entry.Entry.{Entry}
use Rattle.propagate.specs.Trails.{Assigned, IsTrail, entry_at, literals, up_to}
use Rattle.propagate.specs.Closed.{ClosedAt}
use Rattle.analyze.specs.Asserting.{IsUnitBelow}
use Rattle.analyze.proofs.Order.{apart_from_negation, distinct}
use Rattle.cdcl_core.proofs.Conflicts.{low_at}

module _ (t : Assigned) (trail : IsTrail t) where
  abbrev low : ℕ → List Lit
  low m = literals (up_to m t.entries)

  -- no literal and its negation are both of these levels
  consistent : (m : ℕ) → IsConsistent negation (low m)
  consistent m = all_from (λ l. Contains (low m) (negation l) → ⊥) (low m) (λ l has denied.
      let (j, j_in, at_j, below_j) = low_at t.entries m l has in
      let (k, k_in, at_k, below_k) = low_at t.entries m (negation l) denied in
      let same : j ≡ k = distinct t trail j k j_in k_in (ap (λ (x : Lit). x.var) at_j ∙ sym (ap (λ (x : Lit). x.var) at_k)) in
      apart_from_negation l (sym at_j ∙ ap (λ (i : ℕ). (entry_at t.entries i).lit) same ∙ at_k))

  -- where the levels below leave nothing to propagate, propagation from the negations of the other literals doesn't reach the first
  pub misses_below : (known : List (List Lit)) (first : Lit) (others : List Lit) → ClosedAt t known (length t.levels - 1) → IsUnitBelow t (first ∷ others)
      → Misses negation known (map negation others) first
  misses_below known first others closed unit = record {
    set = low (length t.levels - 1);
    closed = settled-closed Lit negation known (low (length t.levels - 1)) (consistent (length t.levels - 1)) closed;
    has = All-map (Contains (low (length t.levels - 1))) negation others unit.1;
    lacks = λ has.
        let (e, held, is) = contains_unmap (λ (x : Entry). x.lit) (up_to (length t.levels - 1) t.entries) first has in
        All-contains (λ (x : Entry). x.lit.var ≢ first.var) (up_to (length t.levels - 1) t.entries) e unit.0 held (ap (λ (x : Lit). x.var) is);
  }

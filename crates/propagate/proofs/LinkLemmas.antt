-- Links that are made and set.
use Rattle.std.proofs.Common.{◌≡◌, refl, ℕ, zero, suc, ◌⊎◌, inl, inr, List, [], ◌∷◌, set, replicate, Option, Some, None, Bool, true, false, length-set}
use Rattle.std.specs.Prelude.{IfSome}
use Rattle.std.proofs.lemmas.List.{length-replicate}
use Rattle.neg_cycle.specs.declared.system.Edge.{Edge}
use Rattle.neg_cycle.specs.Systems.{IsEdge}
use Rattle.propagate.specs.Links.{edge_in, edges_at}
use Rattle.propagate.specs.Laws.{SetLinksAreLinked}

none_at : (n v : ℕ) → edges_at (replicate n None) v ≡ None
none_at zero v = refl
none_at (suc n) zero = refl
none_at (suc n) (suc v) = none_at n v

both_fit : (P : Edge → Type 0) (a b : Edge) (positive : Bool) → P a → P b → IfSome (edge_in (Some (a, b)) positive) P
both_fit P a b true first second = first
both_fit P a b false first second = second

-- the edges of a variable after a set, where they are those that were set or the old ones
at_set : (links : List (Option (Edge × Edge))) (v w : ℕ) (pair : Option (Edge × Edge)) → (edges_at (set links v pair) w ≡ pair) ⊎ (edges_at (set links v pair) w ≡ edges_at links w)
at_set [] v w pair = inr refl
at_set (l ∷ links) zero zero pair = inl refl
at_set (l ∷ links) zero (suc w) pair = inr refl
at_set (l ∷ links) (suc v) zero pair = inr refl
at_set (l ∷ links) (suc v) (suc w) pair = at_set links v w pair

pub set_links : SetLinksAreLinked
set_links = record {
  none = λ t n g le. record {
    variables = rw (length-replicate n (the_none n)) le;
    edges = λ l. rw (none_at n l.var) tt;
  };
  after = λ t links g v a b first second old. record {
    variables = rw (length-set links v (Some (a, b))) old.variables;
    edges = λ l. elim (at_set links v l.var (Some (a, b))) [
      | inl here ↦ rw here (both_fit (IsEdge g.nodes) a b l.positive first second)
      | inr other ↦ rw other (old.edges l)
    ];
  };
} where
  the_none : ℕ → Option (Edge × Edge)
  the_none n = None

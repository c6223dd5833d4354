-- A walk of three edges, the last two of which are held.
use Rattle.std.proofs.Common.{◌≡◌, sym, refl, ℕ, ◌<◌, arith, List, [], ◌∷◌, ◌++◌, length, pos}
use Rattle.std.proofs.lemmas.Int.{ints}
use Rattle.std.proofs.lemmas.List.{get_or_append_left, get_or_push, length_push}
use Rattle.neg_cycle.specs.declared.system.Edge.{Edge}
use Rattle.neg_cycle.specs.Systems.{IsNegativeCycle, edge_at}
use Rattle.cdcl_core.specs.Closing.{AreClosed}

abbrev none : Edge
none = record { from = 0; to = 0; bound = pos 0 }

module _ (es : List Edge) (e : Edge) (p q : ℕ) (in-p : p < length es) (in-q : q < length es) (closed : AreClosed e (edge_at es p) (edge_at es q)) where
  abbrev xs : List Edge
  xs = es ++ e ∷ []

  at-new : edge_at xs (length es) ≡ e
  at-new = get_or_push es e none (length es) refl

  at-p : edge_at xs p ≡ edge_at es p
  at-p = get_or_append_left es (e ∷ []) none p in-p

  at-q : edge_at xs q ≡ edge_at es q
  at-q = get_or_append_left es (e ∷ []) none q in-q

  pub cycle-of : IsNegativeCycle xs (length es ∷ p ∷ q ∷ [])
  cycle-of = record {
    closed = (
      omega (arith, length_push es e),
      refl,
      (omega (arith, in-p, length_push es e), rw (at-new, at-p) (sym closed.first), (omega (arith, in-q, length_push es e), rw (at-p, at-q) (sym closed.second), rw (at-q, at-new) closed.third)),
    );
    negative = rw (at-new, at-p, at-q) (omega (arith, ints, closed.negative));
  }

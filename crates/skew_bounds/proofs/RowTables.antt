-- Tables of edges, row by row.
use Rattle.std.proofs.Common.{◌≡◌, ◌∙◌, refl, sym, subst, arith, ℕ, zero, suc, ◌+◌, ◌<◌, ◌≤◌, ◌⊎◌, inl, inr, Bool, true, false, List, [], ◌∷◌, ◌++◌, length, Option, Some, None, get_or}
use Rattle.std.specs.Prelude.{if◌then◌else◌, slice_get}
use Rattle.std.proofs.lemmas.Bool.Decides.{nat_tests}
use Rattle.std.proofs.lemmas.List.{length_push}
use Rattle.std.proofs.lemmas.Option.{slice_get-get_or, slice_get_past}
use Rattle.mt_model.specs.Log.{Logged}
use Rattle.mt_model.specs.Walks.{Edge, is_row}
use Rattle.skew_bounds.specs.declared.row_edges.RowEdges.{RowEdges}
use Rattle.skew_bounds.specs.RowEdges.{AreRowEdges, IsEdgeTableOf}

-- the edges of the first k rows
pub record AreFirstRows (log : Logged) (table : List RowEdges) (k : ℕ) : Type 0 where
  pub count : length table ≡ k
  pub rows : (e : ℕ) (row : RowEdges) → slice_get table e ≡ Some row → AreRowEdges log e row

-- what stands in a list with an item more stood there before, or is that item
at-end : {X : Type 0} (xs : List X) (x y : X) (j : ℕ) → slice_get (xs ++ x ∷ []) j ≡ Some y → (slice_get xs j ≡ Some y) ⊎ ((length xs ≡ j) × (x ≡ y))
at-end [] x y zero is = inr (refl, cc)
at-end [] x y (suc j) is = absurd (cc)
at-end (z ∷ xs) x y zero is = inl is
at-end (z ∷ xs) x y (suc j) is = elim (at-end xs x y j is) [ inl old ↦ inl old | inr new ↦ let n : length (z ∷ xs) ≡ suc j = omega (arith, new.0) in inr (n, new.1) ]

pub one-more : (log : Logged) (table : List RowEdges) (k : ℕ) (row : RowEdges) → AreFirstRows log table k → AreRowEdges log k row → AreFirstRows log (table ++ row ∷ []) (k + 1)
one-more log table k row first is = record {
  count = omega (arith, length_push table row, first.count);
  rows = λ e other found. elim (at-end table row other e found) [
    | inl old ↦ first.rows e other old
    | inr new ↦ subst (λ r. AreRowEdges log e r) new.1 (subst (λ n. AreRowEdges log n row) (sym first.count ∙ new.0) is)
  ];
}

-- no step of a row that the log lacks has an edge
lacks : (b : Bool) (x : Option Edge) → b ≡ false → None ≡ (if b then x else None)
lacks true x is = absurd (cc)
lacks false x is = refl

pub past : (log : Logged) (e : ℕ) → length log.rows ≤ e → AreRowEdges log e (record { low = None; high = None; rise = None; message = None; late = None; under = None; over = None })
past log e over =
    let out : is_row log e ≡ false = grind (arith, nat_tests) in
    let gone : slice_get log.rows e ≡ None = slice_get_past log.rows e over in
    record {
      low = record { same = lacks (is_row log e) _ out; within = search };
      high = record { same = lacks (is_row log e) _ out; within = search };
      rise = record { same = lacks (is_row log e) _ out; within = search };
      message = record { same = rw gone refl; within = search };
      late = record { same = rw gone refl; within = search };
      under = record { same = lacks (is_row log e) _ out; within = search };
      over = record { same = lacks (is_row log e) _ out; within = search };
    }

-- the edges of a row at its place in a table
pub at-place : (log : Logged) (table : List RowEdges) → IsEdgeTableOf log table → (e : ℕ) (d : RowEdges) → e < length table → AreRowEdges log e (get_or table e d)
at-place log table is e d below = is.rows e (get_or table e d) (slice_get-get_or table e d below)

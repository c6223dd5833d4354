-- A column that is filled row by row, in the order in which rows are met.
use Rattle.std.proofs.Common.{◌≡◌, ◌∙◌, refl, ℕ, ◌+◌, ◌<◌, ◌≤◌, Bool, List, length, false, inl, inr, arith}
use Rattle.std.specs.Prelude.{slice_set}
use Rattle.std.proofs.lemmas.Bool.{cases_eq}
use Rattle.std.proofs.lemmas.List.{get_or-set_same, get_or-set_other}
use Rattle.witness_replay.specs.Columns.{value_at}

module _ (row : ℕ → ℕ) (test : ℕ → Bool) (p : ℕ) (column : List Bool) (value : Bool) (in_ : row p < length column) (is : value ≡ test (row p)) where
  -- the value of a row, where that of place p is written
  filled-at : (k : ℕ) → ((k ≡ p → ⊥) → value_at column (row k) ≡ test (row k)) → value_at (slice_set column (row p) value) (row k) ≡ test (row k)
  filled-at k filled = elim (cases_eq (row k) (row p)) [
    | inl same ↦ rw same (get_or-set_same column (row p) value false in_ ∙ is)
    | inr other ↦ get_or-set_other column (row p) (row k) value false other ∙ filled (λ here. other (rw here refl))
  ]

  -- where the values from place p + 1 on are those of a test
  pub filled-back : (places : ℕ) → ((k : ℕ) → p + 1 ≤ k → k < places → value_at column (row k) ≡ test (row k))
      → (k : ℕ) → p ≤ k → k < places → value_at (slice_set column (row p) value) (row k) ≡ test (row k)
  filled-back places filled k low within = filled-at k (λ other. filled k (omega (arith, low, other)) within)

  -- where those before place p are
  pub filled-on : ((k : ℕ) → k < p → value_at column (row k) ≡ test (row k)) → (k : ℕ) → k < p + 1 → value_at (slice_set column (row p) value) (row k) ≡ test (row k)
  filled-on filled k less = filled-at k (λ other. filled k (omega (arith, less, other)))

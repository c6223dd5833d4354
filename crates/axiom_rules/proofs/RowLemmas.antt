-- There is no rule beyond the table.
use Rattle.std.proofs.Common.{◌≡◌, refl, ℕ, zero, suc, ◌+◌, ◌<◌, None, arith}
use Rattle.std.proofs.lemmas.Option.{slice_get_past}
use Rattle.axiom_rules.specs.Clauses.{row_of, rows}

above : (n k : ℕ) → k < n → (n ≡ k + 1 → ⊥) → k + 1 < n
above n k low differs = omega (arith, low, differs)

-- a number that is none of 1 to 28
pub row-absent : (n : ℕ) → (n ≡ 1 → ⊥) → (n ≡ 2 → ⊥) → (n ≡ 3 → ⊥) → (n ≡ 4 → ⊥) → (n ≡ 5 → ⊥) → (n ≡ 6 → ⊥) → (n ≡ 7 → ⊥) → (n ≡ 8 → ⊥) → (n ≡ 9 → ⊥)
    → (n ≡ 10 → ⊥) → (n ≡ 11 → ⊥) → (n ≡ 12 → ⊥) → (n ≡ 13 → ⊥) → (n ≡ 14 → ⊥) → (n ≡ 15 → ⊥) → (n ≡ 16 → ⊥) → (n ≡ 17 → ⊥) → (n ≡ 18 → ⊥) → (n ≡ 19 → ⊥)
    → (n ≡ 20 → ⊥) → (n ≡ 21 → ⊥) → (n ≡ 22 → ⊥) → (n ≡ 23 → ⊥) → (n ≡ 24 → ⊥) → (n ≡ 25 → ⊥) → (n ≡ 26 → ⊥) → (n ≡ 27 → ⊥) → (n ≡ 28 → ⊥) → row_of n ≡ None
row-absent zero h1 h2 h3 h4 h5 h6 h7 h8 h9 h10 h11 h12 h13 h14 h15 h16 h17 h18 h19 h20 h21 h22 h23 h24 h25 h26 h27 h28 = refl
row-absent (suc m) h1 h2 h3 h4 h5 h6 h7 h8 h9 h10 h11 h12 h13 h14 h15 h16 h17 h18 h19 h20 h21 h22 h23 h24 h25 h26 h27 h28 =
    let n = suc m in
    let some : 0 < n = omega arith in
    let low : 28 < n =
    above n 27
    (above n 26
    (above n 25
    (above n 24
    (above n 23 (above n 22 (above n 21 (above n 20 (above n 19 (above n 18 (above n 17 (above n 16 (above n 15 (above n 14 (above n 13 (above n 12 (above n 11 (above n 10 (above n 9 (above n 8 (above n 7 (above n 6 (above n 5 (above n 4 (above n 3 (above n 2 (above n 1 (above n 0 some h1) h2) h3) h4) h5) h6) h7) h8) h9) h10) h11) h12) h13) h14) h15) h16) h17) h18) h19) h20) h21) h22) h23) h24) h25)
    h26)
    h27)
    h28 in
    slice_get_past rows m (omega (arith, low))

-- Lines whose hints are looked at one after another.
use Rattle.std.proofs.Common.{◌≡◌, subst, refl, inl, inr, ℕ, suc, ◌+◌, ◌≤◌, Bool, true, false, List, Some, arith}
use Rattle.std.specs.Prelude.{◌⊎◌, nat_lt}
use Rattle.std.proofs.lemmas.Bool.Decides.{nat_tests}
use Rattle.proof_log.specs.declared.line.Line.{Line}
use Rattle.proof_log.specs.Derivations.{line_at}
use Rattle.proof_trim.specs.Needed.{IsFirstForward, LookBackTo, LooksBack}

module _ (lines : List Line) (i : ℕ) (l : Line) (stands : line_at lines (suc i) ≡ Some l) (before : LookBackTo lines i) where
  this-or-earlier : (m : ℕ) → m ≤ i + 1 → (m ≡ suc i) ⊎ (m ≤ i)
  this-or-earlier m within = go (nat_lt i m) refl
    where
      go : (b : Bool) → nat_lt i m ≡ b → (m ≡ suc i) ⊎ (m ≤ i)
      go true e = inl (grind (arith, nat_tests))
      go false e = inr (grind (arith, nat_tests))

  pub back-more : LooksBack (i + 1) l → LookBackTo lines (i + 1)
  back-more back m k within there = elim (this-or-earlier m within) [
    | inl this ↦ (
        let at_i : line_at lines (suc i) ≡ Some k = subst (λ n. line_at lines n ≡ Some k) this there in
        let same : l ≡ k = cc in
        subst (λ n. LooksBack n k) (let e : i + 1 ≡ m = omega (arith, this) in e) (subst (LooksBack (i + 1)) same back)
        )
    | inr earlier ↦ before m k earlier there
  ]

  pub first-here : (LooksBack (i + 1) l → ⊥) → IsFirstForward lines (i + 1)
  first-here
      forward = record {
        before = λ m k less there. before m k (omega (arith, less)) there;
        line = l;
        stands = subst (λ n. line_at lines n ≡ Some l) (let e : suc i ≡ i + 1 = omega arith in e) stands;
        forward = forward;
      }

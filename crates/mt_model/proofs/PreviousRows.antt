-- The previous row of a row is the last one before it of its host.
use Rattle.std.proofs.Common.{◌≡◌, refl, ℕ, zero, suc, ◌<◌, ◌==◌, ◌⊎◌, inl, inr, Bool, true, false, if◌then◌else◌, Option, Some, None, arith}
use Rattle.std.proofs.lemmas.Bool.{eqb-true, eqb-false, cases_eq}
use Rattle.mt_model.specs.Timing.{host_of, last_below}
use Rattle.mt_model.specs.Laws.{PreviousRowIsLast}

either : (b : Bool) (n : ℕ) (o : Option ℕ) (a : ℕ) → (if b then Some n else o) ≡ Some a → ((b ≡ true) × (n ≡ a)) ⊎ ((b ≡ false) × (o ≡ Some a))
either true n o a is = inl (refl, cc)
either false n o a is = inr (refl, is)

neither : (b : Bool) (n : ℕ) (o : Option ℕ) → (if b then Some n else o) ≡ None → (b ≡ false) × (o ≡ None)
neither true n o is = absurd (cc)
neither false n o is = (refl, is)

module _ (test : ℕ → Bool) where
  -- the test passes at a, which is below n, and at no number between them
  pub record IsLastPassed (n a : ℕ) : Type 0 where
    pub below : a < n
    pub passes : test a ≡ true
    pub none_between : (k : ℕ) → a < k → k < n → test k ≡ false

  -- a test that fails at n as well
  one_more : (n a : ℕ) → test n ≡ false → IsLastPassed n a → IsLastPassed (suc n) a
  one_more n a fails last = record {
    below = omega arith;
    passes = last.passes;
    none_between = λ k after before. elim (cases_eq k n) [
      | inl same ↦ rw same fails
      | inr other ↦ last.none_between k after (omega arith)
    ];
  }

  pub last_found : (n a : ℕ) → last_below test n ≡ Some a → IsLastPassed n a
  last_found zero a is = absurd (cc)
  last_found (suc n) a is = elim (either (test n) n (last_below test n) a is) [
    | inl here ↦ rw (← here.1) (record { below = omega arith; passes = here.0; none_between = λ k after before. absurd (omega arith) })
    | inr there ↦ one_more n a there.0 (last_found n a there.1)
  ]

  pub last_absent : (n : ℕ) → last_below test n ≡ None → (k : ℕ) → k < n → test k ≡ false
  last_absent zero is k low = absurd (omega arith)
  last_absent (suc n) is k low =
      let both = neither (test n) n (last_below test n) is in
      elim (cases_eq k n) [
        | inl same ↦ rw same both.0
        | inr other ↦ last_absent n both.1 k (omega arith)
      ]

pub is_last : PreviousRowIsLast
is_last = record {
  found = λ log e f is. let last = last_found (λ e. host_of log e == host_of log f) f e is in record {
    before = last.below;
    same_host = eqb-true _ _ last.passes;
    none_between = λ k after before. eqb-false _ _ (last.none_between k after before);
  };
  absent = λ log f is k low. eqb-false _ _ (last_absent (λ e. host_of log e == host_of log f) f is k low);
}

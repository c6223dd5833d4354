-- A tight table tells the least and the greatest differences of the log's events.
use Rattle.std.proofs.Common.{◌≡◌, refl, ℕ, ◌<◌, ◌≤◌, Bool, true, false, ◌&&◌, length, inl, inr, ◌⊎◌, lt-ltb, arith}
use Rattle.std.specs.Prelude.{nat_lt}
use Rattle.std.proofs.lemmas.Bool.{and_from}
use Rattle.std.proofs.lemmas.Bool.Decides.{nat_tests}
use Rattle.mt_model.specs.Log.{Logged}
use Rattle.skew_bounds.specs.Differences.{Differences}
use Rattle.skew_bounds.specs.Tight.{IsConsistent, IsTight, events_of}
use Rattle.question.specs.Extremes.{AreExtremes, extremes_of}

not-less : (a b : ℕ) → b ≤ a → nat_lt a b ≡ false
not-less a b past = grind (arith, nat_tests)

module _ (log : Logged) (d : Differences) (is : IsTight log d) where
  within : (e f : ℕ) → e < length log.rows → f < length log.rows → (nat_lt e (events_of d) && nat_lt f (events_of d)) ≡ true
  within e f a b =
      let count = is.events in
      and_from (nat_lt e (events_of d)) (nat_lt f (events_of d)) (lt-ltb e (events_of d) (omega (arith, a, count))) (lt-ltb f (events_of d) (omega (arith, b, count)))

  -- some timing has the greatest difference of the first row and itself
  pub tight-consistent : 1 ≤ length log.rows → IsConsistent log
  tight-consistent some = let widest = is.greatest 0 0 (omega (arith, some)) (omega (arith, some)) in record { timing = widest.attained.timing; admissible = widest.attained.admissible }

  none : (a : Bool) → (a && false) ≡ false
  none true = refl
  none false = refl

  beyond : (e f : ℕ) → (length log.rows ≤ e) ⊎ (length log.rows ≤ f) → (nat_lt e (events_of d) && nat_lt f (events_of d)) ≡ false
  beyond e f (inl past) = let count = is.events in rw (not-less e (events_of d) (omega (arith, past, count))) refl
  beyond e f (inr past) = let count = is.events in rw (not-less f (events_of d) (omega (arith, past, count))) (none (nat_lt e (events_of d)))

  pub tight-extremes : AreExtremes log (extremes_of d)
  tight-extremes = record {
    greatest = λ e f a b. rw (within e f a b) (is.greatest e f a b);
    least = λ e f a b. rw (within e f a b) (is.least e f a b);
    greatest_beyond = λ e f past. rw (beyond e f past) refl;
    least_beyond = λ e f past. rw (beyond e f past) refl;
  }

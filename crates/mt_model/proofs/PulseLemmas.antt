-- A proposition is pulsed at an instant exactly where some row that pulses it has that time.
use Rattle.std.proofs.Common.{◌≡◌, ap, refl, ◌∙◌, sym, ℕ, ◌<◌, Bool, true, false, ◌&&◌, ◌||◌, cond, List, [], ◌∷◌, length, ℤ}
use Rattle.std.specs.Prelude.{filter}
use Rattle.std.specs.List.{list_any, range_with_len}
use Rattle.std.specs.Ordering.{int_eq}
use Rattle.std.proofs.lemmas.Bool.{and_from, and_parts}
use Rattle.std.proofs.lemmas.Bool.Decides.{Decides-int_eq}
use Rattle.mt_model.specs.Log.{Logged}
use Rattle.mt_model.specs.State.{is_pulse_at, is_pulsed}
use Rattle.mt_model.specs.Timing.{time_of}
use Rattle.mt_model.proofs.Members.{any_some, some_any}
use Rattle.mt_model.proofs.PositionLemmas.{below, within_has}

-- some element that a filter leaves passes a test
any-filter : {X : Type 0} (p test : X → Bool) (xs : List X) → list_any test (filter p xs) ≡ list_any (λ x. p x && test x) xs
any-filter p test [] = refl
any-filter p test (x ∷ xs) = go (p x) (any-filter p test xs)
  where
    go : (b : Bool) → list_any test (filter p xs) ≡ list_any (λ y. p y && test y) xs → list_any test (cond b (x ∷ filter p xs) (filter p xs)) ≡ ((b && test x) || list_any (λ y. p y && test y) xs)
    go true same = ap (λ rest. test x || rest) same
    go false same = same

module _ (log : Logged) (t : List ℤ) (instant : ℤ) (host : ℕ) (name : List ℕ) where
  -- row e pulses the proposition, and its time is the instant
  abbrev passes : ℕ → Bool
  passes e = is_pulse_at log host name e && int_eq (time_of t e) instant

  pulsed-is : is_pulsed log t instant host name ≡ list_any passes (range_with_len 0 (length log.rows))
  pulsed-is = any-filter (is_pulse_at log host name) (λ e. int_eq (time_of t e) instant) (range_with_len 0 (length log.rows))

  pub pulsed-row : is_pulsed log t instant host name ≡ true → (e : ℕ) × (e < length log.rows) × (is_pulse_at log host name e ≡ true) × (time_of t e ≡ instant)
  pulsed-row h =
      let (e, among, is) = any_some passes (range_with_len 0 (length log.rows)) (sym pulsed-is ∙ h) in
      let (pulse, there) = and_parts (is_pulse_at log host name e) (int_eq (time_of t e) instant) is in
      (e, below (length log.rows) e among, pulse, (Decides-int_eq (time_of t e) instant).0 there)

  pub row-pulsed : (e : ℕ) → e < length log.rows → is_pulse_at log host name e ≡ true → time_of t e ≡ instant → is_pulsed log t instant host name ≡ true
  row-pulsed e within pulse there =
      pulsed-is ∙ some_any passes (range_with_len 0 (length log.rows)) e (within_has (length log.rows) e within)
      (and_from (is_pulse_at log host name e) (int_eq (time_of t e) instant) pulse ((Decides-int_eq (time_of t e) instant).1 there))

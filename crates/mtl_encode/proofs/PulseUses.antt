-- What the rules on pairs of events of which one is a pulse say: whether they are at one instant.
use Rattle.std.proofs.Common.{◌≡◌, ◌∙◌, sym, refl, subst, ℕ, ◌==◌, ◌<◌, Bool, true, false, not, ◌||◌, if◌then◌else◌, List, [], ◌∷◌, length, Ok, Err, inl, inr, ℤ, ◌-ℤ◌, arith}
use Rattle.std.specs.Prelude.{int_le, nat_lt}
use Rattle.std.specs.List.{AllByRecursion, list_any}
use Rattle.std.specs.Ordering.{int_eq}
use Rattle.std.proofs.lemmas.Bool.{eqb-true, or_cases, or_left, or_right, not_from_true}
use Rattle.std.proofs.lemmas.Bool.Decides.{Decides-int_eq, nat_tests}
use Rattle.std.proofs.lemmas.Int.{ints}
use Rattle.mt_model.specs.Timing.{time_of}
use Rattle.mt_model.proofs.Members.{Among}
use Rattle.axiom_rules.specs.declared.fault.RuleFault.TheVariants.{Kind, NoRule}
use Rattle.axiom_rules.specs.declared.literal.Atom.{Atom}
use Rattle.axiom_rules.specs.declared.literal.Atom.TheVariants.{Order, Same}
use Rattle.axiom_rules.specs.declared.part.Part.{Part}
use Rattle.axiom_rules.specs.declared.part.Part.TheVariants.{Known, Says}
use Rattle.axiom_rules.specs.Literals.{no, one_instant, yes}
use Rattle.axiom_rules.specs.Parts.{Written, after, not_after, not_same, same}
use Rattle.axiom_rules.specs.Rules.{at_pulses, is_pulse_row, of_pulse}
use Rattle.axiom_rules.specs.Rules as rule
use Rattle.axiom_rules.specs.Sought.{Sought}
use Rattle.axiom_rules.proofs.PartLemmas.{equal_turned, part_holds}
use Rattle.mtl_encode.specs.Exact.{SatisfiesKept}
use Rattle.question.specs.Extremes.{Extremes}
use Rattle.mtl_encode.specs.Needless.{is_needless}
use Rattle.mtl_encode.proofs.ClauseUses.{first_of, last_of_2}
use Rattle.mtl_encode.proofs.PartUses.{WrittenIsTrue}
use Rattle.mtl_encode.proofs.RuleUses.{after-true, not_after-true, of_events-true}
use Rattle.std.specs.Cmp.{both_ways}

-- what is true just where neither of two times is before the other is that they are equal
equal-times : (a : Bool) (x y : ℤ) → (a ≡ true → int_le x y ≡ true) → (a ≡ true → int_le y x ≡ true) → (int_le x y ≡ true → int_le y x ≡ true → a ≡ true) → a ≡ int_eq x y
equal-times a x y low high equal = both_ways a (int_eq x y)
    (λ holds. (Decides-int_eq x y).1 (meet (low holds) (high holds)))
    (λ is. let same : x ≡ y = (Decides-int_eq x y).0 is in equal (at-most same) (at-least same))
  where
    meet : int_le x y ≡ true → int_le y x ≡ true → x ≡ y
    meet p q = omega (arith, ints)

    at-most : x ≡ y → int_le x y ≡ true
    at-most same = grind (arith, ints)

    at-least : x ≡ y → int_le y x ≡ true
    at-least same = grind (arith, ints)

-- what holds of each element holds of one that stands in the list
pub of-each : {X : Type 0} (P : X → Type 0) (xs : List X) (x : X) → AllByRecursion P xs → Among xs x → P x
of-each P [] x all among = absurd among
of-each P (y ∷ xs) x all (inl here) = subst P here all.0
of-each P (y ∷ xs) x all (inr there) = of-each P xs x all.1 there

module _ (v : Atom → Bool) where
  -- that two events are at one instant may be said either way round
  same-turned : (e x : ℕ) → part_holds v (same e x) ≡ part_holds v (same x e)
  same-turned e x = go (e == x) (x == e) (nat_lt e x) (nat_lt x e) refl refl refl refl
    where
      go : (one other less more : Bool) → e == x ≡ one → x == e ≡ other → nat_lt e x ≡ less → nat_lt x e ≡ more
          → part_holds v (let p : Part = (if one then Known true else Says (yes (if less then Same e x else Same x e))) in p)
          ≡ part_holds v (let p : Part = (if other then Known true else Says (yes (if more then Same x e else Same e x))) in p)
      go true true less more is-one is-other is-less is-more = refl
      go true false less more is-one is-other is-less is-more = absurd (let both : true ≡ false = grind (arith, nat_tests) in cc)
      go false true less more is-one is-other is-less is-more = absurd (let both : true ≡ false = grind (arith, nat_tests) in cc)
      go false false true false is-one is-other is-less is-more = refl
      go false false false true is-one is-other is-less is-more = refl
      go false false true true is-one is-other is-less is-more = absurd (let both : true ≡ false = grind (arith, nat_tests) in cc)
      go false false false false is-one is-other is-less is-more = absurd (let both : true ≡ false = grind (arith, nat_tests) in cc)

  -- or denied
  pub not-same : (e x : ℕ) → part_holds v (not_same e x) ≡ not (part_holds v (same e x))
  not-same e x = go (e == x)
    where
      go : (one : Bool)
          → part_holds v (let p : Part = (if one then Known false else Says (no (one_instant e x))) in p) ≡ not
          (part_holds v (let p : Part = (if one then Known true else Says (yes (one_instant e x))) in p))
      go true = refl
      go false = refl

module _ (s : Sought) (x : Extremes) (v : Atom → Bool) (satisfied : SatisfiesKept s (is_needless x s) v) (t : List ℤ)
    (agrees : (e f : ℕ) (c : ℤ) → v (Order e f c) ≡ int_le (time_of t e -ℤ time_of t f) c) where
  -- events of the log of which one is a pulse
  pub record IsPair (e f : ℕ) : Type 0 where
    pub low : e < length s.log.rows
    pub high : f < length s.log.rows
    pub pulse : is_pulse_row s.log e || is_pulse_row s.log f ≡ true

  turned : (e f : ℕ) → IsPair e f → IsPair f e
  turned e f is = record {
    low = is.high;
    high = is.low;
    pulse = elim (or_cases (is_pulse_row s.log e) (is_pulse_row s.log f) is.pulse) [
      | inl first ↦ or_right (is_pulse_row s.log f) (is_pulse_row s.log e) first
      | inr second ↦ or_left (is_pulse_row s.log f) (is_pulse_row s.log e) second
    ];
  }

  -- what is written of such a pair
  of-pair : (e f : ℕ) (w : Written) → IsPair e f → WrittenIsTrue v (of_pulse s.log e f w) → WrittenIsTrue v w
  of-pair e f w is = subst (λ b. WrittenIsTrue v (let written : Written = (if b then w else Err NoRule) in written)) is.pulse

  -- at one instant neither is after the other
  not-after : (e f : ℕ) → IsPair e f → part_holds v (same e f) ≡ true → int_le (time_of t e) (time_of t f) ≡ true
  not-after e f is at = sym (not_after-true v s.log t s.trees agrees e f) ∙ last_of_2 (part_holds v (not_same e f)) (part_holds v (not_after e f))
      (of-pair e f (Ok (not_same e f ∷ not_after e f ∷ [])) is (of_events-true s (is_needless x s) v satisfied 25 rule.rule_25 refl e f is.low is.high refl))
      (not-same v e f ∙ not_from_true (part_holds v (same e f)) at)

  -- and where neither is, they are at one instant
  at-once : (e f : ℕ) → e < f → IsPair e f → int_le (time_of t e) (time_of t f) ≡ true → int_le (time_of t f) (time_of t e) ≡ true → part_holds v (same e f) ≡ true
  at-once e f less is low high = first_of (part_holds v (same e f)) _
      (of-pair e f (Ok (same e f ∷ after e f ∷ after f e ∷ [])) is
      (subst (λ b. WrittenIsTrue v (let written : Written = (if b then of_pulse s.log e f (Ok (same e f ∷ after e f ∷ after f e ∷ [])) else Err Kind) in written)) smaller
      (of_events-true s (is_needless x s) v satisfied 26 rule.rule_26 refl e f is.low is.high refl)))
      (rw (after-true v s.log t s.trees agrees e f, after-true v s.log t s.trees agrees f e, low, high) refl)
    where
      smaller : nat_lt e f ≡ true
      smaller = grind (arith, nat_tests)

  apart-instant : (e f : ℕ) → e < f → IsPair e f → part_holds v (same e f) ≡ int_eq (time_of t e) (time_of t f)
  apart-instant e f less is = equal-times (part_holds v (same e f)) (time_of t e) (time_of t f) (not-after e f is)
      (λ at. not-after f e (turned e f is) (same-turned v f e ∙ at)) (at-once e f less is)

  eq-itself : (a : ℤ) → int_eq a a ≡ true
  eq-itself a = (Decides-int_eq a a).1 refl

  -- whether a pair is at one instant is said as the times are
  pub instant-exact : (e f : ℕ) → IsPair e f → part_holds v (same e f) ≡ int_eq (time_of t e) (time_of t f)
  instant-exact e f is = go (e == f) (nat_lt e f) refl refl
    where
      greater : e == f ≡ false → nat_lt e f ≡ false → f < e
      greater one less = grind (arith, nat_tests)

      smaller : nat_lt e f ≡ true → e < f
      smaller less = grind (arith, nat_tests)

      itself : e == f ≡ true → part_holds v (same e f) ≡ int_eq (time_of t e) (time_of t f)
      itself one =
          let equal : e ≡ f = eqb-true e f one in
          let known : part_holds v (same e f) ≡ true = rw one refl in
          known ∙ sym (rw equal (eq-itself (time_of t f)))

      go : (one less : Bool) → e == f ≡ one → nat_lt e f ≡ less → part_holds v (same e f) ≡ int_eq (time_of t e) (time_of t f)
      go true less is-one is-less = itself is-one
      go false true is-one is-less = apart-instant e f (smaller is-less) is
      go false false is-one is-less = same-turned v e f ∙ apart-instant f e (greater is-one is-less) (turned e f is) ∙ equal_turned (time_of t f) (time_of t e)

  -- whether an event is at the instant of one of these pulses
  pub pulses-exact : (e : ℕ) → e < length s.log.rows → (pulses : List ℕ) → ((u : ℕ) → Among pulses u → (u < length s.log.rows) × (is_pulse_row s.log u ≡ true))
      → list_any (part_holds v) (at_pulses pulses e) ≡ list_any (λ u. int_eq (time_of t u) (time_of t e)) pulses
  pulses-exact e in_ [] are = refl
  pulses-exact e in_ (u ∷ pulses) are =
      let here = are u (inl refl) in
      let pair : IsPair u e = record { low = here.0; high = in_; pulse = or_left (is_pulse_row s.log u) (is_pulse_row s.log e) here.1 } in
      rw (instant-exact u e pair, pulses-exact e in_ pulses (λ w among. are w (inr among))) refl

-- What is left out where no span is needed, and where the left side is `true`.
use Rattle.std.proofs.Common.{◌≡◌, refl, ℕ, Bool, true, false, ◌||◌, if◌then◌else◌, List, [], ◌∷◌, Option, Some, None}
use Rattle.std.specs.Prelude.{is_ok, not, ◌&&◌, slice_index}
use Rattle.std.specs.Option.{option_map_or}
use Rattle.std.proofs.lemmas.Bool.{and_parts}
use Rattle.axiom_rules.specs.declared.reach.Reach.{Reach}
use Rattle.axiom_rules.specs.declared.rule.Rule.{Rule}
use Rattle.axiom_rules.specs.Clauses.{clause_of, needless_of}
use Rattle.axiom_rules.specs.NodeShapes.{reach_in, shape_at}
use Rattle.axiom_rules.specs.Sought.{Sought}
use Rattle.mtl_encode.proofs.RangeLemmas.{flat-nothing}
use Rattle.axiom_rules.specs.declared.needless.Needless.{Needless}
use Rattle.axiom_rules.specs.declared.needless.Needless.TheVariants.{Reaches}
use Rattle.axiom_rules.specs.declared.needless.OfReach.{OfReach}
use Rattle.axiom_rules.specs.declared.needless.OfReach.TheVariants.{DeadOrFree, NotWithin, NotPast, FreeOrNotBefore, Free}
use Rattle.mtl_encode.specs.Instances.{kept, rule_at, with_one, with_three, with_two}
use Rattle.question.specs.Extremes.{Extremes}
use Rattle.mtl_encode.specs.Needless.{has_constant, is_always_before, is_dead, is_free, is_needless, is_needless_throughout, is_never_before, is_of_free, is_of_span, leaves_out, leaves_out_free, leaves_out_reach, needs_no_span}

-- one of the first two makes the others needless
or-two : (a b c d : Bool) → a || b ≡ true → a || b || c || d ≡ true
or-two true b c d is = refl
or-two false true c d is = refl
or-two false false c d is = absurd (cc)

or-two-of-three : (a b c : Bool) → a || b ≡ true → a || b || c ≡ true
or-two-of-three true b c is = refl
or-two-of-three false true c is = refl
or-two-of-three false false c is = absurd (cc)

module _ (x : Extremes) (s : Sought) (k i j : ℕ) (free : needs_no_span x s k i j ≡ true) where
  pub within-needless : (m : ℕ) → is_needless x s (rule_at 19 k i j m) ≡ true
  within-needless m = go (reach_in (shape_at s k)) free
    where
      go : (o : Option Reach) → option_map_or (λ u. is_dead x u i j || has_constant x s u) o false ≡ true
          → option_map_or (λ u. is_dead x u i j || has_constant x s u || is_always_before x u m i || is_never_before x u m j) o false ≡ true
      go None is = absurd (cc)
      go (Some u) is = or-two (is_dead x u i j) (has_constant x s u) (is_always_before x u m i) (is_never_before x u m j) is

  -- whose test is just this
  pub gap-needless : (m : ℕ) → is_needless x s (rule_at 20 k i j m) ≡ true
  gap-needless m = free

  pub past-needless : (m : ℕ) → is_needless x s (rule_at 21 k i j m) ≡ true
  past-needless m = go (reach_in (shape_at s k)) free
    where
      go : (o : Option Reach) → option_map_or (λ u. is_dead x u i j || has_constant x s u) o false ≡ true
          → option_map_or (λ u. is_dead x u i j || has_constant x s u || is_always_before x u m j) o false ≡ true
      go None is = absurd (cc)
      go (Some u) is = or-two-of-three (is_dead x u i j) (has_constant x s u) (is_always_before x u m j) is

  over-span : (test : Needless) (m : ℕ) → is_of_span test ≡ true → leaves_out x s test (k ∷ i ∷ j ∷ m ∷ []) ≡ true
  over-span (Reaches NotWithin) m of = within-needless m
  over-span (Reaches NotPast) m of = past-needless m
  over-span _ m of = absurd (cc)

  -- rules about the events of a span
  pub spanless : (number m : ℕ) → option_map_or is_of_span (needless_of number) false ≡ true → is_needless x s (rule_at number k i j m) ≡ true
  spanless number m of = go (needless_of number) of
    where
      go : (o : Option Needless) → option_map_or is_of_span o false ≡ true → option_map_or (λ test. leaves_out x s test (k ∷ i ∷ j ∷ m ∷ [])) o false ≡ true
      go None of = absurd (cc)
      go (Some test) of = over-span test m of

-- rules that are all left out
module _ (s : Sought) (out : Rule → Bool) where
  kept-nothing : (rule : Rule) → out rule ≡ true → kept s out rule ≡ []
  kept-nothing rule left = go (is_ok (clause_of s rule)) (out rule) left
    where
      go : (ok gone : Bool) → gone ≡ true → (let rs : List Rule = (if ok && not gone then rule ∷ [] else []) in rs) ≡ []
      go true true left = refl
      go false true left = refl
      go ok false left = absurd (cc)

  pub three-nothing : (number : ℕ) (counts : List ℕ) (a b c : ℕ) → ((d : ℕ) → out (rule_at number a b c d) ≡ true) → with_three s out number counts a b c ≡ []
  three-nothing number counts a b c left = flat-nothing (λ d. kept s out (rule_at number a b c d)) 0 (slice_index counts 3) (λ d low high. kept-nothing (rule_at number a b c d) (left d))

  -- a rule whose instances for a node are all left out
  pub one-left-out : (number : ℕ) (counts : List ℕ) (a : ℕ) → ((b c d : ℕ) → out (rule_at number a b c d) ≡ true) → with_one s out number counts a ≡ []
  one-left-out number counts a left =
      flat-nothing (with_two s out number counts a) 0 (slice_index counts 1) (λ b low-b high-b.
      flat-nothing (with_three s out number counts a b) 0 (slice_index counts 2) (λ c low-c high-c.
      three-nothing number counts a b c (λ d. left b c d)))

or-last : (a b : Bool) → b ≡ true → a || b ≡ true
or-last true b is = refl
or-last false b is = is

or-second-of-three : (a b c : Bool) → b ≡ true → a || b || c ≡ true
or-second-of-three true b c is = refl
or-second-of-three false b c is = rw is refl

or-second-of-four : (a b c d : Bool) → b ≡ true → a || b || c || d ≡ true
or-second-of-four true b c d is = refl
or-second-of-four false b c d is = rw is refl

-- where the left side is `true`, such a test leaves out each instance
module _ (x : Extremes) (s : Sought) where
  free-left-out : (test : OfReach) (u : Reach) (args : List ℕ) → is_of_free test ≡ true → has_constant x s u ≡ true → leaves_out_reach x s test u args ≡ true
  free-left-out DeadOrFree u args of free = or-last _ _ free
  free-left-out NotWithin u args of free = or-second-of-four _ _ _ _ free
  free-left-out NotPast u args of free = or-second-of-three _ _ _ free
  free-left-out FreeOrNotBefore u args of free = rw free refl
  free-left-out Free u args of free = free
  free-left-out _ u args of free = absurd (cc)

  of-reach : (test : Needless) (k i j m : ℕ) → leaves_out_free test ≡ true → is_free s k ≡ true → leaves_out x s test (k ∷ i ∷ j ∷ m ∷ []) ≡ true
  of-reach (Reaches test) k i j m of free = go (reach_in (shape_at s k)) free
    where
      go : (o : Option Reach) → option_map_or (λ u. has_constant x s u) o false ≡ true → option_map_or (λ u. leaves_out_reach x s test u (k ∷ i ∷ j ∷ m ∷ [])) o false ≡ true
      go None is = absurd (cc)
      go (Some u) is = free-left-out test u (k ∷ i ∷ j ∷ m ∷ []) of is
  of-reach _ k i j m of free = absurd (cc)

  pub throughout : (number k i j m : ℕ) → is_needless_throughout s number k ≡ true → is_needless x s (rule_at number k i j m) ≡ true
  throughout number k i j m is = go (needless_of number) (and_parts _ _ is).0
    where
      go : (o : Option Needless) → option_map_or leaves_out_free o false ≡ true → option_map_or (λ test. leaves_out x s test (k ∷ i ∷ j ∷ m ∷ [])) o false ≡ true
      go None of = absurd (cc)
      go (Some test) of = of-reach test k i j m of (and_parts _ _ is).1

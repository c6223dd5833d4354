-- Small cases, worked by hand.
use Rattle.std.proofs.Common.{◌≡◌, ◌∙◌, sym, subst, refl, ◌⊎◌, inl, inr, [], ◌∷◌, ℤ}
use Rattle.std.specs.Prelude.{neg_ℤ}
use Rattle.std.specs.List.{All, Contains}
use Rattle.std.proofs.lemmas.List.Elements.{All-nil, All-cons}
use Rattle.hint_refutation.specs.Hints.{IsFalseUnder, LeavesOnly, Gives, Refutes, RefutesGiving, StandsIn, Used}
use Rattle.hint_refutation.specs.Propagation.{Misses}
use Rattle.hint_refutation.specs.Worked.{one, two, not_one, not_two, either, second_fails, WorkedCases}
use Rattle.hint_refutation.proofs.Lists.{contains_none, contains_first, contains_later, contains_cases, any_from}
use Rattle.hint_refutation.proofs.Hinted.{left_or_false, is_false, givers_refute, step_gives, step_last, step_stuck}
use Rattle.hint_refutation.proofs.Propagated.{closed_keeps}

all_one : {X : Type 0} (P : X → Type 0) (x : X) → P x → All P (x ∷ [])
all_one P x first = All-cons P x [] first (All-nil P)

all_two : {X : Type 0} (P : X → Type 0) (x y : X) → P x → P y → All P (x ∷ y ∷ [])
all_two P x y first second = All-cons P x (y ∷ []) first (all_one P y second)

-- a list doesn't contain what none of its elements is
not_in_one : {X : Type 0} (a x : X) → (a ≡ x → ⊥) → Contains (a ∷ []) x → ⊥
not_in_one a x other has = elim (contains_cases a x [] has) [ inl same ↦ other same | inr later ↦ contains_none x later ]

not_in_two : {X : Type 0} (a b x : X) → (a ≡ x → ⊥) → (b ≡ x → ⊥) → Contains (a ∷ b ∷ []) x → ⊥
not_in_two a b x first second has = elim (contains_cases a x (b ∷ []) has) [ inl same ↦ first same | inr later ↦ not_in_one b x second later ]

either_gives : Gives neg_ℤ (not_one ∷ []) either two
either_gives = record {
  leaves = record {
    has = contains_later one two (two ∷ []) (contains_first two []);
    others_false = all_two (λ l. (l ≡ two) ⊎ Contains (not_one ∷ []) (neg_ℤ l)) one two (inr (contains_first not_one [])) (inl refl);
  };
  not_true = not_in_one not_one two (λ same. cc);
  not_false = not_in_one not_one not_two (λ same. cc);
}

second_is_false : IsFalseUnder neg_ℤ (two ∷ not_one ∷ []) second_fails
second_is_false = all_one (λ l. Contains (two ∷ not_one ∷ []) (neg_ℤ l)) not_two (contains_first two (not_one ∷ []))

giving : RefutesGiving neg_ℤ (not_one ∷ []) (either ∷ second_fails ∷ []) (two ∷ [])
giving = (either_gives, (refl, second_is_false))

used : Used neg_ℤ (one ∷ []) (either ∷ second_fails ∷ [])
used = record {
  stand =
      all_one (StandsIn (either ∷ second_fails ∷ [])) one
      (any_from (λ clause. Contains clause one) (either ∷ second_fails ∷ []) either (contains_first either (second_fails ∷ []))
      (contains_first one (two ∷ [])));
  given = two ∷ [];
  refutes = giving;
  spent = (any_from (λ clause. Contains clause not_two) (second_fails ∷ []) second_fails (contains_first second_fails []) (contains_first not_two []), tt);
}

unfinished : Refutes neg_ℤ (not_one ∷ []) (either ∷ []) → ⊥
unfinished refutes = step_gives neg_ℤ (not_one ∷ []) either [] two either_gives refutes

past_the_end : Refutes neg_ℤ (not_one ∷ []) ((one ∷ []) ∷ (one ∷ []) ∷ []) → ⊥
past_the_end refutes =
    let none = step_last neg_ℤ (not_one ∷ []) (one ∷ []) ((one ∷ []) ∷ []) (all_one (λ l. Contains (not_one ∷ []) (neg_ℤ l)) one (contains_first not_one [])) refutes in
    cc

needless : Refutes neg_ℤ (two ∷ not_one ∷ []) (either ∷ second_fails ∷ []) → ⊥
needless refutes = step_stuck neg_ℤ (two ∷ not_one ∷ []) either (second_fails ∷ []) not_false gives_none refutes where
  two_open : Contains (two ∷ not_one ∷ []) not_two → ⊥
  two_open = not_in_two two not_one not_two (λ same. cc) (λ same. cc)

  has_two : Contains either two
  has_two = contains_later one two (two ∷ []) (contains_first two [])

  not_false : IsFalseUnder neg_ℤ (two ∷ not_one ∷ []) either → ⊥
  not_false falsified = two_open (is_false neg_ℤ (two ∷ not_one ∷ []) either two falsified has_two)

  gives_none : (u : ℤ) → Gives neg_ℤ (two ∷ not_one ∷ []) either u → ⊥
  gives_none u gives = elim (left_or_false neg_ℤ (two ∷ not_one ∷ []) either u two gives.leaves has_two) [
    | inl same ↦ gives.not_true (subst (λ (l : ℤ). Contains (two ∷ not_one ∷ []) l) same (contains_first two (not_one ∷ [])))
    | inr denied ↦ two_open denied
  ]

-- under no assumptions "1 or 2" leaves no literal
leaves_none : (u : ℤ) → LeavesOnly neg_ℤ [] either u → ⊥
leaves_none u leaves = elim (left_or_false neg_ℤ [] either u one leaves (contains_first one (two ∷ []))) [
  | inr denied ↦ contains_none not_one denied
  | inl first ↦ elim (left_or_false neg_ℤ [] either u two leaves (contains_later one two (two ∷ []) (contains_first two []))) [
    | inr denied ↦ contains_none not_two denied
    | inl second ↦ let wrong = first ∙ sym second in cc
  ]
]

not_false : IsFalseUnder neg_ℤ [] either → ⊥
not_false falsified = contains_none not_one (is_false neg_ℤ [] either one falsified (contains_first one (two ∷ [])))

too_early : Refutes neg_ℤ [] (either ∷ second_fails ∷ (not_one ∷ []) ∷ []) → ⊥
too_early refutes = step_stuck neg_ℤ [] either (second_fails ∷ (not_one ∷ []) ∷ []) not_false (λ u gives. leaves_none u gives.leaves) refutes

in_order : Refutes neg_ℤ [] (second_fails ∷ either ∷ (not_one ∷ []) ∷ [])
in_order = givers_refute neg_ℤ [] (second_fails ∷ either ∷ (not_one ∷ []) ∷ []) (not_two ∷ one ∷ []) (first, (second, (refl, last))) where
  first : Gives neg_ℤ [] second_fails not_two
  first = record {
    leaves = record { has = contains_first not_two []; others_false = all_one (λ l. (l ≡ not_two) ⊎ Contains [] (neg_ℤ l)) not_two (inl refl) };
    not_true = contains_none not_two;
    not_false = contains_none two;
  }

  second : Gives neg_ℤ (not_two ∷ []) either one
  second = record {
    leaves = record {
      has = contains_first one (two ∷ []);
      others_false = all_two (λ l. (l ≡ one) ⊎ Contains (not_two ∷ []) (neg_ℤ l)) one two (inl refl) (inr (contains_first not_two []));
    };
    not_true = not_in_one not_two one (λ same. cc);
    not_false = not_in_one not_two not_one (λ same. cc);
  }

  last : IsFalseUnder neg_ℤ (one ∷ not_two ∷ []) (not_one ∷ [])
  last = all_one (λ l. Contains (one ∷ not_two ∷ []) (neg_ℤ l)) not_one (contains_first one (not_two ∷ []))

reached : Misses neg_ℤ (either ∷ []) (not_one ∷ []) two → ⊥
reached misses = misses.lacks (closed_keeps neg_ℤ (either ∷ []) misses.set (not_one ∷ []) either two misses.closed misses.has (contains_first either []) either_gives.leaves)

missed : Misses neg_ℤ (either ∷ []) [] two
missed = record {
  set = [];
  closed = record {
    none_false = all_one (λ clause. IsFalseUnder neg_ℤ [] clause → ⊥) either not_false;
    keeps = all_one (λ clause. (u : ℤ) → LeavesOnly neg_ℤ [] clause u → Contains [] u) either (λ u leaves. absurd (leaves_none u leaves));
  };
  has = All-nil (Contains []);
  lacks = contains_none two;
}

pub worked : WorkedCases
worked = record {
  giving = giving;
  used = used;
  unfinished = unfinished;
  past_the_end = past_the_end;
  needless = needless;
  too_early = too_early;
  in_order = in_order;
  reached = reached;
  missed = missed;
}

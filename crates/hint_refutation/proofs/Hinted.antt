-- What hints give, and what is assumed.
use Rattle.std.proofs.Common.{◌≡◌, ◌∙◌, ap, sym, subst, refl, ◌+◌, ◌⊎◌, inl, inr, List, [], ◌∷◌, length, arith}
use Rattle.std.specs.Prelude.{map}
use Rattle.std.specs.List.{All, Contains}
use Rattle.std.proofs.lemmas.List.Elements.{All-nil, All-cons, All-head, All-tail, All-contains}
use Rattle.hint_refutation.specs.Hints.{IsFalseUnder, LeavesOnly, Gives, Refutes, RefutesGiving, AreSpent, Used}
use Rattle.hint_refutation.specs.Laws.{RefutersGive, GivenIsDetermined, AssumedIsSet, StepsAreForced, AreUndecided, AssumedMayGrow}
use Rattle.hint_refutation.proofs.Lists.{contains_first, contains_later, contains_cases, all_from}

module _ {L : Type 0} (neg : L → L) where
  abbrev IsUndecided : List L → L → Type 0
  IsUndecided assumed l = (Contains assumed l → ⊥) × (Contains assumed (neg l) → ⊥)

  pub refuters_give : (assumed : List L) (hints : List (List L)) → Refutes neg assumed hints → (given : List L) × RefutesGiving neg assumed hints given
  refuters_give assumed [] refutes = absurd refutes
  refuters_give assumed (hint ∷ later) (inl last) = ([], last)
  refuters_give assumed (hint ∷ later) (inr (u, gives, rest)) =
      let (us, refutes) = refuters_give (u ∷ assumed) later rest in
      (u ∷ us, (gives, refutes))

  pub givers_refute : (assumed : List L) (hints : List (List L)) (given : List L) → RefutesGiving neg assumed hints given → Refutes neg assumed hints
  givers_refute assumed [] given refutes = absurd refutes
  givers_refute assumed (hint ∷ later) [] last = inl last
  givers_refute assumed (hint ∷ later) (u ∷ us) (gives, rest) = inr (u, gives, givers_refute (u ∷ assumed) later us rest)

  -- a literal that the clause has is the one that it leaves, or false
  pub left_or_false : (assumed clause : List L) (u l : L) → LeavesOnly neg assumed clause u → Contains clause l → (l ≡ u) ⊎ Contains assumed (neg l)
  left_or_false assumed clause u l leaves has = All-contains (λ k. (k ≡ u) ⊎ Contains assumed (neg k)) clause l leaves.others_false has

  pub is_false : (assumed clause : List L) (l : L) → IsFalseUnder neg assumed clause → Contains clause l → Contains assumed (neg l)
  is_false assumed clause l false has = All-contains (λ k. Contains assumed (neg k)) clause l false has

  gives_one : (assumed clause : List L) (u w : L) → Gives neg assumed clause u → Gives neg assumed clause w → u ≡ w
  gives_one assumed clause u w first second = elim (left_or_false assumed clause w u second.leaves first.leaves.has) [
    | inl same ↦ same
    | inr denied ↦ absurd (first.not_false denied)
  ]

  false_gives_none : (assumed clause : List L) (u : L) → IsFalseUnder neg assumed clause → Gives neg assumed clause u → ⊥
  false_gives_none assumed clause u false gives = gives.not_false (is_false assumed clause u false gives.leaves.has)

  given_is_one : (assumed : List L) (hints : List (List L)) (given other : List L) → RefutesGiving neg assumed hints given → RefutesGiving neg assumed hints other → given ≡ other
  given_is_one assumed [] given other first second = absurd first
  given_is_one assumed (hint ∷ later) [] [] first second = refl
  given_is_one assumed (hint ∷ later) [] (w ∷ ws) first second = absurd (false_gives_none assumed hint w first.1 second.0)
  given_is_one assumed (hint ∷ later) (u ∷ us) [] first second = absurd (false_gives_none assumed hint u second.1 first.0)
  given_is_one assumed (hint ∷ later) (u ∷ us) (w ∷ ws) first second =
      let same = gives_one assumed hint u w first.0 second.0 in
      let rest = subst (λ (l : L). RefutesGiving neg (l ∷ assumed) later ws) (sym same) second.1 in
      ap (λ (l : L). l ∷ us) same ∙ ap (λ (ls : List L). w ∷ ls) (given_is_one (u ∷ assumed) later us ws first.1 rest)

  given_count : (assumed : List L) (hints : List (List L)) (given : List L) → RefutesGiving neg assumed hints given → length hints ≡ length given + 1
  given_count assumed [] given refutes = absurd refutes
  given_count assumed (hint ∷ later) [] last = let none = ap length last.0 in omega (arith, none)
  given_count assumed (hint ∷ later) (u ∷ us) (gives, rest) = let count = given_count (u ∷ assumed) later us rest in omega (arith, count)

  given_spent : (lits : List L) (hints : List (List L)) (given : List L) → Used neg lits hints → RefutesGiving neg (map neg lits) hints given → AreSpent neg hints given
  given_spent lits hints given used refutes =
      subst (λ (ls : List L). AreSpent neg hints ls) (given_is_one (map neg lits) hints used.given given used.refutes refutes) used.spent

  -- what is false or left under some literals, under others that have them
  pub false_more : (assumed more clause : List L) → All (Contains more) assumed → IsFalseUnder neg assumed clause → IsFalseUnder neg more clause
  false_more assumed more clause all false = all_from (λ l. Contains more (neg l)) clause (λ l has.
      All-contains (Contains more) assumed (neg l) all (is_false assumed clause l false has))

  pub leaves_more : (assumed more clause : List L) (u : L) → All (Contains more) assumed → LeavesOnly neg assumed clause u → LeavesOnly neg more clause u
  leaves_more assumed more clause u all leaves = record {
    has = leaves.has;
    others_false = all_from (λ l. (l ≡ u) ⊎ Contains more (neg l)) clause (λ l has. elim (left_or_false assumed clause u l leaves has) [
      | inl same ↦ inl same
      | inr denied ↦ inr (All-contains (Contains more) assumed (neg l) all denied)
    ]);
  }

  pub all_assumed : (u : L) (assumed more : List L) → All (Contains more) assumed → All (Contains (u ∷ more)) (u ∷ assumed)
  all_assumed u assumed more all = all_from (Contains (u ∷ more)) (u ∷ assumed) (λ l has. elim (contains_cases u l assumed has) [
    | inl same ↦ subst (λ (k : L). Contains (u ∷ more) k) same (contains_first u more)
    | inr old ↦ contains_later u l more (All-contains (Contains more) assumed l all old)
  ])

  assumed_set : (assumed same : List L) (hints : List (List L)) (given : List L) → All (Contains same) assumed → All (Contains assumed) same
      → RefutesGiving neg assumed hints given → RefutesGiving neg same hints given
  assumed_set assumed same [] given to back refutes = absurd refutes
  assumed_set assumed same (hint ∷ later) [] to back last = (last.0, false_more assumed same hint to last.1)
  assumed_set assumed same (hint ∷ later) (u ∷ us) to back (gives, rest) = (
    record {
      leaves = leaves_more assumed same hint u to gives.leaves;
      not_true = λ has. gives.not_true (All-contains (Contains assumed) same u back has);
      not_false = λ has. gives.not_false (All-contains (Contains assumed) same (neg u) back has);
    },
    assumed_set (u ∷ assumed) (u ∷ same) later us (all_assumed u assumed same to) (all_assumed u same assumed back) rest,
  )

  given_undecided : (assumed : List L) (hints : List (List L)) (given : List L) → RefutesGiving neg assumed hints given → AreUndecided neg assumed given
  given_undecided assumed [] given refutes = absurd refutes
  given_undecided assumed (hint ∷ later) [] last = All-nil (IsUndecided assumed)
  given_undecided assumed (hint ∷ later) (u ∷ us) (gives, rest) =
      let after = given_undecided (u ∷ assumed) later us rest in
      All-cons (IsUndecided assumed) u us (gives.not_true, gives.not_false) (all_from (IsUndecided assumed) us (λ w has.
      let free = All-contains (IsUndecided (u ∷ assumed)) us w after has in
      (λ old. free.0 (contains_later u w assumed old), λ old. free.1 (contains_later u (neg w) assumed old))))

  -- what is undecided under some literals and under others that have one more is undecided under both
  undecided_more : (u : L) (assumed more us : List L) → AreUndecided neg (u ∷ assumed) us → AreUndecided neg more us → AreUndecided neg (u ∷ more) us
  undecided_more u assumed more us after free = all_from (IsUndecided (u ∷ more)) us (λ w has.
      let one = All-contains (IsUndecided (u ∷ assumed)) us w after has in
      let other = All-contains (IsUndecided more) us w free has in (
        λ in_. elim (contains_cases u w more in_) [
          | inl same ↦ one.0 (subst (λ (l : L). Contains (u ∷ assumed) l) same (contains_first u assumed))
          | inr old ↦ other.0 old
        ],
        λ in_. elim (contains_cases u (neg w) more in_) [
          | inl same ↦ one.1 (subst (λ (l : L). Contains (u ∷ assumed) l) same (contains_first u assumed))
          | inr old ↦ other.1 old
        ],
      ))

  assumed_grown : (assumed more : List L) (hints : List (List L)) (given : List L) → All (Contains more) assumed
      → AreUndecided neg more given → RefutesGiving neg assumed hints given → RefutesGiving neg more hints given
  assumed_grown assumed more [] given all free refutes = absurd refutes
  assumed_grown assumed more (hint ∷ later) [] all free last = (last.0, false_more assumed more hint all last.1)
  assumed_grown assumed more (hint ∷ later) (u ∷ us) all free (gives, rest) =
      let one = All-head (IsUndecided more) u us free in (
        record { leaves = leaves_more assumed more hint u all gives.leaves; not_true = one.0; not_false = one.1 },
        assumed_grown (u ∷ assumed) (u ∷ more) later us (all_assumed u assumed more all)
            (undecided_more u assumed more us (given_undecided (u ∷ assumed) later us rest) (All-tail (IsUndecided more) u us free)) rest,
      )

  pub step_gives : (assumed hint : List L) (later : List (List L)) (u : L) → Gives neg assumed hint u → Refutes neg assumed (hint ∷ later) → Refutes neg (u ∷ assumed) later
  step_gives assumed hint later u gives (inl last) = absurd (false_gives_none assumed hint u last.1 gives)
  step_gives assumed hint later u gives (inr (w, gives_w, rest)) = subst (λ (l : L). Refutes neg (l ∷ assumed) later) (gives_one assumed hint w u gives_w gives) rest

  pub step_last : (assumed hint : List L) (later : List (List L)) → IsFalseUnder neg assumed hint → Refutes neg assumed (hint ∷ later) → later ≡ []
  step_last assumed hint later falsified (inl last) = last.0
  step_last assumed hint later falsified (inr (w, gives, rest)) = absurd (false_gives_none assumed hint w falsified gives)

  pub step_stuck : (assumed hint : List L) (later : List (List L)) → (IsFalseUnder neg assumed hint → ⊥) → ((u : L) → Gives neg assumed hint u → ⊥) → Refutes neg assumed (hint ∷ later) → ⊥
  step_stuck assumed hint later not_false not_given (inl last) = not_false last.1
  step_stuck assumed hint later not_false not_given (inr (w, gives, rest)) = not_given w gives

pub refuters-give : (L : Type 0) → RefutersGive L
refuters-give L neg assumed hints = (refuters_give neg assumed hints, λ (given, refutes). givers_refute neg assumed hints given refutes)

pub given-determined : (L : Type 0) → GivenIsDetermined L
given-determined L = record {
  one = gives_one;
  none = false_gives_none;
  list = given_is_one;
  count = given_count;
  spent = given_spent;
}

pub assumed-set : (L : Type 0) → AssumedIsSet L
assumed-set L = assumed_set

pub steps-forced : (L : Type 0) → StepsAreForced L
steps-forced L = record {
  gives = λ neg assumed hint later u gives. (step_gives neg assumed hint later u gives, λ rest. inr (u, gives, rest));
  last = λ neg assumed hint later falsified. (step_last neg assumed hint later falsified, λ none. inl (none, falsified));
  stuck = step_stuck;
}

pub assumed-may_grow : (L : Type 0) → AssumedMayGrow L
assumed-may_grow L = record { undecided = given_undecided; grown = assumed_grown }

-- What the walk has set aside when it has come to the trail's start.
use Rattle.std.proofs.Common.{◌≡◌, ◌≢◌, ◌∙◌, ap, sym, subst, refl, ℕ, suc, ◌-◌, ◌<◌, ◌≤◌, inl, inr, List, [], ◌∷◌, length, arith, get_or, Bool, true}
use Rattle.std.specs.Prelude.{map, nat_le}
use Rattle.std.specs.List.{All, Contains}
use Rattle.std.proofs.lemmas.Bool.{cases_eq, cases_lt, le-leb, leb-true}
use Rattle.std.proofs.lemmas.List.{get_or_default, get_or-map, length-map}
use Rattle.std.proofs.lemmas.List.Elements.{All-contains, All-contains_itself, All-filter, All-get_or, Contains-get_or, filter_passes}
use Rattle.hint_refutation.specs.Hints.{StandsIn, RefutesGiving}
use Rattle.hint_refutation.proofs.Lists.{all_from, any_from, contains_first, contains_later, contains_map, contains_unmap, contains_filter}
use Rattle.hint_refutation.proofs.Hinted.{givers_refute}
use Rattle.clause_db.specs.declared.lit.Lit.{Lit}
use Rattle.clause_db.specs.Literals.{negation, HasVarsOnce}
use Rattle.clause_db.specs.Clauses.{clause_at, clauses_at}
use Rattle.clause_db.specs.Hinted.{HintsRefute, HintsAreUsed}
use Rattle.propagate.specs.declared.entry.Entry.{Entry}
use Rattle.propagate.specs.Trails.{Assigned, no_entry, entry_at, literals, up_to, IsTrail}
use Rattle.propagate.specs.Clauses.{IsFalsified}
use Rattle.propagate.proofs.ClauseLemmas.{literal_held, read_entry}
use Rattle.analyze.specs.Asserting.{IsFalseSince, IsAsserting, IsJump, IsUnitBelow, HasTwoAbove}
use Rattle.analyze.specs.Resolving.{denied, level_of, IsLeft, AreAside, IsWork}
use Rattle.analyze.proofs.Order.{distinct, rising, since_from}
use Rattle.propagate.proofs.PlaceLemmas.{undone}

-- places that are set aside at the trail's start
module _ (t : Assigned) (trail : IsTrail t) (aside : List ℕ) (a : AreAside t 0 aside) where
  abbrev es : List Entry
  es = t.entries

  abbrev top : ℕ
  top = length t.levels

  abbrev lits : List Lit
  lits = map (denied t.entries) aside

  pub in_range : (k : ℕ) → Contains aside k → k < length es
  in_range k has =
      let old = (a.within has.0 has.1).1 in
      let is = get_or_default aside has.0 k 0 has.1 in
      let at = has.2 in
      omega (arith, old, is, at)

  -- each literal's negation is on the trail
  pub falsified : IsFalsified es lits
  falsified = all_from (λ (l : Lit). Contains (literals es) (negation l)) lits (λ l has.
      let k = contains_unmap (denied es) aside l has in
      literal_held es k.0 (negation l) (in_range k.0 k.1) (sym (undone (entry_at es k.0).lit) ∙ ap negation k.2))

  pub variables : All (λ l. l.var < t.vars) lits
  variables = all_from (λ (l : Lit). l.var < t.vars) lits (λ l has.
      let k = contains_unmap (denied es) aside l has in
      subst (λ (y : Lit). y.var < t.vars) k.2 (All-get_or (λ (e : Entry). e.lit.var < t.vars) es k.0 no_entry (in_range k.0 k.1) trail.below))

  pub once : HasVarsOnce lits
  once i j d less below same =
      let j_in : j < length aside = rw (length-map aside (denied es)) at below in
      let i_in : i < length aside = omega (arith, less, j_in) in
      let apart = a.falling i j less j_in in
      let at_i = get_or-map (denied es) aside i 0 d i_in in
      let at_j = get_or-map (denied es) aside j 0 d j_in in
      let is = distinct t trail (get_or aside i 0) (get_or aside j 0) (a.within i i_in).1 (a.within j j_in).1 (ap (λ (y : Lit). y.var) (sym at_i) ∙ same ∙ ap (λ (y : Lit). y.var) at_j) in
      omega (arith, apart, is)

  since : (P : ℕ → Type 0) (k : ℕ) (l : Lit) → k < length es → denied es k ≡ l → P (level_of es k) → IsFalseSince es P l
  since P k l within is level = since_from es P k l within (sym (undone (entry_at es k).lit) ∙ ap negation is) level

-- the literals after the first, by their places
after_first : (p : ℕ) (rest : List ℕ) (k : ℕ) → Contains rest k → (j : ℕ) × (0 < j) × (j < length (p ∷ rest)) × (get_or (p ∷ rest) j 0 ≡ k)
after_first p rest k (i, below, is) = (suc i, omega arith, omega (arith, below), get_or_default rest i 0 k below ∙ is)

module _ (t : Assigned) (trail : IsTrail t) where
  pub asserting : (aside : List ℕ) → AreAside t 0 aside → 0 < length aside → IsAsserting t (map (denied t.entries) aside)
  asserting [] a some = absurd (omega (arith, some))
  asserting (p ∷ rest) a some = (
    since t trail (p ∷ rest) a (λ n. n ≡ length t.levels) p (denied t.entries p) (in_range t trail (p ∷ rest) a p (contains_first p rest)) refl (a.first some),
    all_from (IsFalseSince t.entries (λ n. (0 < n) × (n < length t.levels))) (map (denied t.entries) rest) (λ l has.
        let k = contains_unmap (denied t.entries) rest l has in
        let j = after_first p rest k.0 k.1 in
        let level = subst (λ (i : ℕ). (0 < level_of t.entries i) × (level_of t.entries i < length t.levels)) j.3 (a.lower j.0 j.1 j.2) in
        since t trail (p ∷ rest) a (λ n. (0 < n) × (n < length t.levels)) k.0 l (in_range t trail (p ∷ rest) a k.0 (contains_later p k.0 rest k.1)) k.2 level),
  )

  pub jumped : (aside : List ℕ) (jump : ℕ) → AreAside t 0 aside → 0 < length aside → (length aside ≤ 1 → jump ≡ 0)
      → (1 < length aside → jump ≡ level_of t.entries (get_or aside 1 0)) → IsJump t.entries (map (denied t.entries) aside) jump
  jumped [] jump a some one more = absurd (omega (arith, some))
  jumped (p ∷ []) jump a some one more = one (omega arith)
  jumped (p ∷ q ∷ rest) jump a some one more = (
    all_from (IsFalseSince t.entries (λ n. n ≤ jump)) (map (denied t.entries) (q ∷ rest)) (λ l has.
        let k = contains_unmap (denied t.entries) (q ∷ rest) l has in
        let j = after_first p (q ∷ rest) k.0 k.1 in
        let low : k.0 ≤ q = elim (cases_eq j.0 1) [
          | inl is ↦ let same : q ≡ k.0 = subst (λ (i : ℕ). get_or (p ∷ q ∷ rest) i 0 ≡ k.0) is j.3 in omega (arith, same)
          | inr other ↦
              let pos = j.1 in
              let fall = a.falling 1 j.0 (omega (arith, pos, other)) j.2 in
              let same = j.3 in
              omega (arith, fall, same)
        ] in
        let q_in = in_range t trail (p ∷ q ∷ rest) a q (contains_later p q (q ∷ rest) (contains_first q rest)) in
        let level = rising t trail k.0 q low q_in in
        since t trail (p ∷ q ∷ rest) a (λ n. n ≤ jump) k.0 l (in_range t trail (p ∷ q ∷ rest) a k.0 (contains_later p k.0 (q ∷ rest) k.1)) k.2 (omega (arith, level, is))),
    any_from (IsFalseSince t.entries (λ n. n ≡ jump)) (map (denied t.entries) (q ∷ rest)) (denied t.entries q) (contains_first (denied t.entries q) (map (denied t.entries) rest))
        (since t trail (p ∷ q ∷ rest) a (λ n. n ≡ jump) q (denied t.entries q) (in_range t trail (p ∷ q ∷ rest) a q (contains_later p q (q ∷ rest) (contains_first q rest))) refl (sym is)),
  ) where
    is : jump ≡ level_of t.entries q
    is = more (omega arith)

  pub unit_below : (aside : List ℕ) → AreAside t 0 aside → 0 < length aside → IsUnitBelow t (map (denied t.entries) aside)
  unit_below [] a some = absurd (omega (arith, some))
  unit_below (p ∷ rest) a some = (
    all_from (λ (e : Entry). e.lit.var ≢ (denied t.entries p).var) (up_to (length t.levels - 1) t.entries) (λ e has same.
        let old = All-contains (Contains t.entries) (up_to (length t.levels - 1) t.entries) e (All-filter low (Contains t.entries) t.entries (All-contains_itself t.entries)) has in
        let passes = leb-true e.level (length t.levels - 1) (All-contains (λ (x : Entry). low x ≡ true) (up_to (length t.levels - 1) t.entries) e (filter_passes low t.entries) has) in
        let here = read_entry t.entries old.0 e old.1 old.2 in
        let p_in = in_range t trail (p ∷ rest) a p (contains_first p rest) in
        let at = distinct t trail old.0 p old.1 p_in (ap (λ (x : Entry). x.lit.var) here ∙ same) in
        let level : e.level ≡ length t.levels = ap (λ (x : Entry). x.level) (sym here) ∙ ap (λ (i : ℕ). level_of t.entries i) at ∙ a.first some in
        let pos = a.above some in
        omega (arith, passes, level, pos)),
    all_from (λ (l : Lit). Contains (literals (up_to (length t.levels - 1) t.entries)) (negation l)) (map (denied t.entries) rest) (λ l has.
        let k = contains_unmap (denied t.entries) rest l has in
        let j = after_first p rest k.0 k.1 in
        let k_in = in_range t trail (p ∷ rest) a k.0 (contains_later p k.0 rest k.1) in
        let level : level_of t.entries k.0 < length t.levels = subst (λ (i : ℕ). level_of t.entries i < length t.levels) j.3 (a.lower j.0 j.1 j.2).1 in
        let kept =
        contains_filter low t.entries (entry_at t.entries k.0) (Contains-get_or t.entries k.0 no_entry k_in) (le-leb (level_of t.entries k.0) (length t.levels - 1) (omega (arith, level))) in
        let held = contains_map (λ (e : Entry). e.lit) (up_to (length t.levels - 1) t.entries) (entry_at t.entries k.0) kept in
        subst (λ (y : Lit). Contains (literals (up_to (length t.levels - 1) t.entries)) y) (sym (undone (entry_at t.entries k.0).lit) ∙ ap negation k.2) held),
  ) where
    low : Entry → Bool
    low e = nat_le e.level (length t.levels - 1)

-- the walk is at the trail's start
module _ (t : Assigned) (db : List (List Lit)) (trail : IsTrail t) (conflict : ℕ) (marked aside hints : List ℕ) (w : IsWork t db conflict 0 marked aside hints) where
  is_aside : (k : ℕ) → IsLeft marked aside k → Contains aside k
  is_aside k (inl m) = let none = w.below k m in absurd (omega (arith, none))
  is_aside k (inr has) = has

  refuting : RefutesGiving negation (map negation (map (denied t.entries) aside)) (clauses_at db hints) w.given
  refuting = w.refutes (map negation (map (denied t.entries) aside))
      (λ k left. subst (λ (y : Lit). Contains (map negation (map (denied t.entries) aside)) y) (undone (entry_at t.entries k).lit)
      (contains_map negation (map (denied t.entries) aside) (denied t.entries k) (contains_map (denied t.entries) aside k (is_aside k left))))
      (λ l has.
      let d = contains_unmap negation (map (denied t.entries) aside) l has in
      let k = contains_unmap (denied t.entries) aside d.0 d.1 in
      record {
        at = k.0;
        within = in_range t trail aside w.are_aside k.0 k.1;
        is = sym (undone (entry_at t.entries k.0).lit) ∙ ap negation k.2 ∙ d.2;
        left = inl (inr k.1);
      })

  pub refute_denied : HintsRefute db (map negation (map (denied t.entries) aside)) hints
  refute_denied = record { held = w.held; refutes = givers_refute negation (map negation (map (denied t.entries) aside)) (clauses_at db hints) w.given refuting }

  pub used_for : HintsAreUsed db (map (denied t.entries) aside) hints
  used_for = record {
    held = w.held;
    used = record {
      stand = all_from (StandsIn (clauses_at db hints)) (map (denied t.entries) aside) (λ l has.
          let k = contains_unmap (denied t.entries) aside l has in
          subst (λ (y : Lit). StandsIn (clauses_at db hints) y) k.2 (w.stands k.0 (inr k.1)));
      given = w.given;
      refutes = refuting;
      spent = w.spent;
    };
  }

  pub some_aside : 0 < length t.levels → 0 < length aside
  some_aside pos = elim (w.phase pos) [
    | inl a ↦ let i = a.1 in let none = w.below i.0 i.1 in absurd (omega (arith, none))
    | inr b ↦ b.0
  ]

  -- at level 0 nothing is set aside
  pub none_aside : t.levels ≡ [] → aside ≡ []
  none_aside level = elim (cases_lt 0 (length aside)) [
    | inl some ↦ let above : 0 < length t.levels = w.are_aside.above some in let none : length t.levels ≡ 0 = ap length level in absurd (omega (arith, above, none))
    | inr none ↦ empty aside (omega (arith, none))
  ] where
    empty : (xs : List ℕ) → length xs ≡ 0 → xs ≡ []
    empty [] is = refl
    empty (x ∷ xs) is = absurd (omega (arith, is))

  lits_differ : (i k : ℕ) → i < k → k < length t.entries → denied t.entries i ≢ denied t.entries k
  lits_differ i k less k_in same = let at = distinct t trail i k (omega (arith, less, k_in)) k_in (ap (λ (y : Lit). y.var) same) in omega (arith, at, less)

  above : (m k : ℕ) → k < length t.entries → m < level_of t.entries k → IsFalseSince t.entries (λ n. m < n) (denied t.entries k)
  above m k within level = since t trail aside w.are_aside (λ n. m < n) k (denied t.entries k) within refl level

  pub two_above : (jump : ℕ) → (length aside ≤ 1 → jump ≡ 0) → (1 < length aside → jump ≡ level_of t.entries (get_or aside 1 0)) → (m : ℕ) → m < jump → HasTwoAbove t.entries m (clause_at db conflict)
  two_above jump one more m less = elim (cases_lt 1 (length aside)) [
    | inr few ↦ let none = one (omega (arith, few)) in absurd (omega (arith, none, less))
    | inl many ↦
        let is = more many in
        let second = w.are_aside.lower 1 (omega arith) many in
        let first = w.are_aside.first (omega (arith, many)) in
        elim w.two [
          | inl h ↦ record {
            one = denied t.entries h.low;
            other = denied t.entries h.high;
            has_one = h.has_low;
            has_other = h.has_high;
            differ = lits_differ h.low h.high h.apart h.within;
            one_above = above m h.low (let apart = h.apart in let high = h.within in omega (arith, apart, high)) (let level = h.low_level in omega (arith, level, second.1, is, less));
            other_above = above m h.high h.within (let level = h.high_level in omega (arith, level, second.1, is, less));
          }
          | inr f ↦
              let lower = get_or aside 1 0 in
              let higher = get_or aside 0 0 in
              let fall = w.are_aside.falling 0 1 (omega arith) many in
              record {
                one = denied t.entries lower;
                other = denied t.entries higher;
                has_one = f lower (inr (1, many, get_or_default aside 1 lower 0 many)) second.0;
                has_other = f higher (inr (0, omega (arith, many), get_or_default aside 0 higher 0 (omega (arith, many)))) (omega (arith, first, second.1));
                differ = lits_differ lower higher fall (w.are_aside.within 0 (omega (arith, many))).1;
                one_above = above m lower (w.are_aside.within 1 many).1 (omega (arith, is, less));
                other_above = above m higher (w.are_aside.within 0 (omega (arith, many))).1 (omega (arith, first, second.1, is, less));
              }
        ]
  ]

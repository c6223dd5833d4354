-- The walk down the trail, by one marked place.
use Rattle.std.proofs.Common.{◌≡◌, ◌≢◌, ◌∙◌, ap, sym, subst, ℕ, suc, ◌+◌, ◌<◌, ◌≤◌, ◌⊎◌, inl, inr, List, [], ◌∷◌, ◌++◌, length, take, arith}
use Rattle.std.specs.List.{Contains}
use Rattle.std.proofs.lemmas.Bool.{cases_eq, cases_lt}
use Rattle.std.proofs.lemmas.List.{get_or_append_left, get_or_push, length_push, get_or_default}
use Rattle.std.proofs.lemmas.List.Elements.{All-cons, All-contains, Contains-append_left, Contains-push, Contains-push_cases}
use Rattle.hint_refutation.specs.Hints.{Gives, StandsIn}
use Rattle.hint_refutation.proofs.Lists.{all_from, any_from, contains_first, contains_later, contains_cases}
use Rattle.clause_db.specs.declared.lit.Lit.{Lit}
use Rattle.clause_db.specs.Literals.{negation}
use Rattle.clause_db.specs.Clauses.{clause_at, clauses_at}
use Rattle.propagate.specs.declared.entry.Entry.{Entry}
use Rattle.propagate.specs.Trails.{Assigned, entry_at, literals, IsTrail}
use Rattle.propagate.specs.Clauses.{HasReasons, IsReason}
use Rattle.propagate.proofs.TrailLemmas.{cases_push}
use Rattle.analyze.specs.Marks.{AreBelow, HasMarkHere, IsMarkedBy}
use Rattle.analyze.specs.Resolving.{denied, level_of, IsAway, IsAside, IsLeft, IsAssumed, CanRefute, HasTwoHere, AreAside, IsWork}
use Rattle.analyze.proofs.Order.{apart_from_negation, distinct, rising, front_at}
use Rattle.propagate.proofs.PlaceLemmas.{undone}

-- the same places may be marked in another order, and the walk may come down to any place above them
pub same_marks : (t : Assigned) (db : List (List Lit)) (conflict place lower : ℕ) (marked others aside hints : List ℕ)
    → ((k : ℕ) → Contains marked k → Contains others k) → ((k : ℕ) → Contains others k → Contains marked k)
    → AreBelow lower others → lower ≤ place → IsWork t db conflict place marked aside hints → IsWork t db conflict lower others aside hints
same_marks t db conflict place lower marked others aside hints to from below le w = record {
  below = below;
  within = let within = w.within in omega (arith, within, le);
  are_aside = record {
    within = λ j j_in. let old = w.are_aside.within j j_in in (omega (arith, old.0, le), old.1);
    falling = w.are_aside.falling;
    first = w.are_aside.first;
    above = w.are_aside.above;
    lower = w.are_aside.lower;
  };
  phase = λ pos. elim (w.phase pos) [ inl a ↦ inl (a.0, here marked others to a.1) | inr b ↦ inr (b.0, λ some. b.1 (here others marked from some)) ];
  held = w.held;
  ends = w.ends;
  given = w.given;
  refutes = λ assumed all only. w.refutes assumed (λ k left. all k (left_to k left)) (λ a has.
      let x = only a has in
      record { at = x.at; within = x.within; is = x.is; left = elim x.left [ inl l ↦ inl (left_from x.at l) | inr b ↦ inr (omega (arith, b, le)) ] });
  spent = w.spent;
  stands = λ k left. w.stands k (left_from k left);
  two = elim w.two [ inl h ↦ inl h | inr f ↦ inr (λ k left pos. f k (left_from k left) pos) ];
} where
  here : (xs ys : List ℕ) → ((k : ℕ) → Contains xs k → Contains ys k) → HasMarkHere t xs → HasMarkHere t ys
  here xs ys move (k, has, at) = (k, move k has, at)

  left_to : (k : ℕ) → IsLeft marked aside k → IsLeft others aside k
  left_to k (inl m) = inl (to k m)
  left_to k (inr has) = inr has

  left_from : (k : ℕ) → IsLeft others aside k → IsLeft marked aside k
  left_from k (inl m) = inl (from k m)
  left_from k (inr has) = inr has

pub popped_was : (p : ℕ) (old new : List ℕ) → old ≡ new ++ p ∷ [] → Contains old p
popped_was p old new is = rw is (Contains-push new p)

-- where no place is marked, the walk is at the trail's start
pub bottom : (t : Assigned) (db : List (List Lit)) (conflict place : ℕ) (marked aside hints : List ℕ) → length marked ≡ 0
    → IsWork t db conflict place marked aside hints → IsWork t db conflict 0 marked aside hints
bottom t db conflict place marked aside hints none w =
    same_marks t db conflict place 0 marked marked aside hints (λ k has. has) (λ k has. has) (λ k has. let within = has.1 in absurd (omega (arith, within, none))) (omega arith) w

-- the greatest marked place is taken off
pub popped : (t : Assigned) (db : List (List Lit)) (conflict place p : ℕ) (old new aside hints : List ℕ) → old ≡ new ++ p ∷ [] → AreBelow p new
    → IsWork t db conflict place old aside hints → IsWork t db conflict (p + 1) (p ∷ new) aside hints
popped t db conflict place p old new aside hints is below w =
    same_marks t db conflict place (p + 1) old (p ∷ new) aside hints to from under (let least = w.below p (from p (contains_first p new)) in omega (arith, least)) w where
      to : (k : ℕ) → Contains old k → Contains (p ∷ new) k
      to k has = elim (Contains-push_cases new p k (rw is at has)) [ inl b ↦ contains_later p k new b | inr at ↦ rw at (contains_first k new) ]

      from : (k : ℕ) → Contains (p ∷ new) k → Contains old k
      from k has = elim (contains_cases p k new has) [ inl at ↦ rw (is, at) (Contains-push new k) | inr b ↦ rw is (Contains-append_left new (p ∷ []) k b) ]

      under : AreBelow (p + 1) (p ∷ new)
      under k has = elim (contains_cases p k new has) [ inl at ↦ omega (arith, at) | inr b ↦ let less = below k b in omega (arith, less) ]

-- the walk where the greatest marked place was taken off
module _ (t : Assigned) (db : List (List Lit)) (trail : IsTrail t) (reasons : HasReasons t db) (conflict p : ℕ) (within : p < length t.entries)
    (marked aside hints : List ℕ) (below : AreBelow p marked)
    (w : IsWork t db conflict (p + 1) (p ∷ marked) aside hints) where
  abbrev es : List Entry
  es = t.entries

  abbrev top : ℕ
  top = length t.levels

  abbrev u : Lit
  u = (entry_at t.entries p).lit

  abbrev lev : ℕ → ℕ
  lev k = level_of t.entries k

  aside_lower : AreAside t p aside
  aside_lower = record {
    within = λ j below. let old = w.are_aside.within j below in (omega (arith, old.0), old.1);
    falling = w.are_aside.falling;
    first = w.are_aside.first;
    above = w.are_aside.above;
    lower = w.are_aside.lower;
  }

  is_marked : Contains (p ∷ marked) p
  is_marked = contains_first p marked

  was : (k : ℕ) → Contains marked k → Contains (p ∷ marked) k
  was k has = contains_later p k marked has

  level_top : HasMarkHere t (p ∷ marked) → lev p ≡ top
  level_top (i, has, at) =
      let front = w.below i has in
      let most_here = rising t trail i p (omega (arith, front)) within in
      let most = trail.levels.top p within in
      omega (arith, at, most_here, most)

  -- the literal is set aside for the clause
  module _ (put : IsAside t p marked) where
    above : 0 < lev p
    above = put.0

    pos_top : 0 < top
    pos_top = let most = trail.levels.top p within in omega (arith, most, above)

    to_old : (k : ℕ) → IsLeft marked (aside ++ p ∷ []) k → IsLeft (p ∷ marked) aside k
    to_old k (inl m) = inl (was k m)
    to_old k (inr has) = elim (Contains-push_cases aside p k has) [ inl h ↦ inr h | inr is ↦ inl (subst (λ (i : ℕ). Contains (p ∷ marked) i) is is_marked) ]

    to_new : (k : ℕ) → IsLeft (p ∷ marked) aside k → IsLeft marked (aside ++ p ∷ []) k
    to_new k (inl m) = elim (contains_cases p k marked m) [
      | inl is ↦ inr (subst (λ (i : ℕ). Contains (aside ++ p ∷ []) i) is (Contains-push aside p))
      | inr b ↦ inl b
    ]
    to_new k (inr has) = inr (Contains-append_left aside (p ∷ []) k has)

    none_left : lev p ≡ top → HasMarkHere t marked → ⊥
    none_left at = elim (put.1 at) [
      | inl none ↦ none
      | inr lower ↦ λ some. let low = lower some.0 (below some.0 some.1) in let here = some.2 in omega (arith, low, here, at)
    ]

    empty_top : length aside ≡ 0 → lev p ≡ top
    empty_top none = elim (w.phase pos_top) [ inl a ↦ level_top a.1 | inr b ↦ absurd (omega (arith, b.0, none)) ]

    later_lower : 0 < length aside → lev p < top
    later_lower some = elim (w.phase pos_top) [
      | inl a ↦ absurd (omega (arith, a.0, some))
      | inr b ↦
          let most = trail.levels.top p within in
          elim (cases_eq (lev p) top) [
            | inl at ↦ absurd (b.1 (p, is_marked, at))
            | inr other ↦ omega (arith, most, other)
          ]
    ]

    aside_push : AreAside t p (aside ++ p ∷ [])
    aside_push = record {
      within = λ j below. elim (cases_push aside p j below) [
        | inl b ↦ let old = w.are_aside.within j b in rw (get_or_append_left aside (p ∷ []) 0 j b) (omega (arith, old.0), old.1)
        | inr is ↦ rw (get_or_push aside p 0 j (sym is)) (omega arith, within)
      ];
      falling = λ i j less below. elim (cases_push aside p j below) [
        | inl b ↦ let a : i < length aside = omega (arith, less, b) in rw (get_or_append_left aside (p ∷ []) 0 j b, get_or_append_left aside (p ∷ []) 0 i a) (w.are_aside.falling i j less b)
        | inr is ↦
            let a : i < length aside = omega (arith, less, is) in
            let old = w.are_aside.within i a in
            rw (get_or_push aside p 0 j (sym is), get_or_append_left aside (p ∷ []) 0 i a) (omega (arith, old.0))
      ];
      first = λ some. elim (cases_lt 0 (length aside)) [
        | inl b ↦ rw (get_or_append_left aside (p ∷ []) 0 0 b) (w.are_aside.first b)
        | inr none ↦ let empty : length aside ≡ 0 = omega (arith, none) in rw (get_or_push aside p 0 0 empty) (empty_top empty)
      ];
      above = λ some. pos_top;
      lower = λ j pos below. elim (cases_push aside p j below) [
        | inl b ↦ rw (get_or_append_left aside (p ∷ []) 0 j b) (w.are_aside.lower j pos b)
        | inr is ↦ rw (get_or_push aside p 0 j (sym is)) (above, later_lower (omega (arith, is, pos)))
      ];
    }

    none_more : HasMarkHere t marked → ⊥
    none_more some = elim (cases_lt 0 (length aside)) [
      | inl pos ↦ elim (w.phase pos_top) [ inl a ↦ omega (arith, a.0, pos) | inr b ↦ b.1 (some.0, was some.0 some.1, some.2) ]
      | inr none ↦ none_left (empty_top (omega (arith, none))) some
    ]

    pub set_aside : IsWork t db conflict p marked (aside ++ p ∷ []) hints
    set_aside = record {
      below = below;
      within = omega (arith, within);
      are_aside = aside_push;
      phase = λ pos. inr (omega (arith, length_push aside p), none_more);
      held = w.held;
      ends = w.ends;
      given = w.given;
      refutes = λ assumed all only. w.refutes assumed (λ k left. all k (to_new k left)) (λ a has.
          let x = only a has in
          record { at = x.at; within = x.within; is = x.is; left = elim x.left [ inl l ↦ inl (to_old x.at l) | inr b ↦ inr (omega (arith, b)) ] });
      spent = w.spent;
      stands = λ k left. w.stands k (to_old k left);
      two = elim w.two [ inl h ↦ inl h | inr f ↦ inr (λ k left pos. f k (to_old k left) pos) ];
    }

  -- the literal is resolved away by its reason
  module _ (c : ℕ) (goes : IsAway t p marked c) (others : List ℕ) (by : IsMarkedBy es p (clause_at db c) marked others) where
    r : IsReason db (literals (take p es)) u c
    r = reasons.reasons p c within goes.0

    -- where the negation of another literal of the reason stands
    stood : (l : Lit) → Contains (clause_at db c) l → (l ≡ u) ⊎ ((k : ℕ) × (k < p) × (k < length es) × ((entry_at es k).lit ≡ negation l))
    stood l has = elim (All-contains (λ (y : Lit). (y ≡ u) ⊎ Contains (literals (take p es)) (negation y)) (clause_at db c) l r.leaves.others_false has) [
      | inl is ↦ inl is
      | inr held ↦ inr (front_at es p (negation l) held)
    ]

    kept : (k : ℕ) → k ≢ p → IsLeft (p ∷ marked) aside k → IsLeft others aside k
    kept k other (inl m) = elim (contains_cases p k marked m) [ inl is ↦ absurd (other (sym is)) | inr b ↦ inl (by.kept k b) ]
    kept k other (inr has) = inr has

    came : (k : ℕ) → IsLeft others aside k → IsLeft (p ∷ marked) aside k ⊎ ((k < p) × (k < length es) × ((l : Lit) × Contains (clause_at db c) l × ((entry_at es k).lit.var ≡ l.var)))
    came k (inl m) = elim (by.only k m) [ inl o ↦ inl (inl (was k o)) | inr new ↦ inr new ]
    came k (inr has) = inl (inr has)

    still_below : AreBelow p others
    still_below k has = elim (by.only k has) [ inl o ↦ below k o | inr new ↦ new.0 ]

    gone : IsLeft others aside p → ⊥
    gone (inl m) = let front = still_below p m in omega (arith, front)
    gone (inr has) =
        let low = (w.are_aside.within has.0 has.1).0 in
        let is = get_or_default aside has.0 p 0 has.1 in
        let at = has.2 in
        omega (arith, low, is, at)

    only_at : (k : ℕ) → k < length es → (entry_at es k).lit.var ≡ u.var → k ≡ p
    only_at k k_in same = distinct t trail k p k_in within same

    refutes : CanRefute es db p others aside (c ∷ hints) (u ∷ w.given)
    refutes assumed all only = (gives, w.refutes (u ∷ assumed) all_too only_too) where
      gives : Gives negation assumed (clause_at db c) u
      gives = record {
        leaves = record {
          has = r.leaves.has;
          others_false = all_from (λ (l : Lit). (l ≡ u) ⊎ Contains assumed (negation l)) (clause_at db c) (λ l has. elim (stood l has) [
            | inl is ↦ inl is
            | inr f ↦ inr (subst (λ (a : Lit). Contains assumed a) f.3 (all f.0 (inl (by.added f.0 l f.1 f.2 has (ap (λ (y : Lit). y.var) f.3)))))
          ]);
        };
        not_true = λ has.
            let x = only u has in
            let at = only_at x.at x.within (ap (λ (y : Lit). y.var) x.is) in
            elim x.left [ inl l ↦ gone (subst (λ (k : ℕ). IsLeft others aside k) at l) | inr b ↦ omega (arith, b, at) ];
        not_false = λ has.
            let x = only (negation u) has in
            let at = only_at x.at x.within (ap (λ (y : Lit). y.var) x.is) in
            apart_from_negation u (ap (λ (k : ℕ). (entry_at es k).lit) (sym at) ∙ x.is);
      }

      all_too : (k : ℕ) → IsLeft (p ∷ marked) aside k → Contains (u ∷ assumed) (entry_at es k).lit
      all_too k left = elim (cases_eq k p) [
        | inl is ↦ rw is (contains_first u assumed)
        | inr other ↦ contains_later u (entry_at es k).lit assumed (all k (kept k other left))
      ]

      only_too : (a : Lit) → Contains (u ∷ assumed) a → IsAssumed es (p + 1) (p ∷ marked) aside a
      only_too a has = elim (contains_cases u a assumed has) [
        | inl is ↦ record { at = p; within = within; is = is; left = inl (inl is_marked) }
        | inr h ↦
            let x = only a h in
            record {
              at = x.at;
              within = x.within;
              is = x.is;
              left = elim x.left [ inl l ↦ elim (came x.at l) [ inl o ↦ inl o | inr new ↦ inr (omega (arith, new.0)) ] | inr b ↦ inr (omega (arith, b)) ];
            }
      ]

    stands_in_new : (k : ℕ) (l : Lit) → Contains (clause_at db c) l → (entry_at es k).lit ≡ negation l → StandsIn (clauses_at db (c ∷ hints)) (denied es k)
    stands_in_new k l has is = any_from (λ clause. Contains clause (denied es k)) (clauses_at db (c ∷ hints)) (clause_at db c) (contains_first (clause_at db c) (clauses_at db hints))
        (subst (λ (y : Lit). Contains (clause_at db c) y) (sym (ap negation is ∙ undone l)) has)

    stands : (k : ℕ) → IsLeft others aside k → StandsIn (clauses_at db (c ∷ hints)) (denied es k)
    stands k left = elim (came k left) [
      | inl o ↦ let old = w.stands k o in (suc old.0, old.1, omega (arith, old.2), old.3, old.4)
      | inr new ↦
          let l = new.2.0 in
          elim (stood l new.2.1) [
            | inl is ↦
                let at = only_at k new.1 (new.2.2 ∙ ap (λ (y : Lit). y.var) is) in
                absurd (omega (arith, new.0, at))
            | inr f ↦
                let at : f.0 ≡ k = distinct t trail f.0 k f.2 new.1 (ap (λ (y : Lit). y.var) f.3 ∙ sym new.2.2) in
                let is : (entry_at es k).lit ≡ negation l = ap (λ (i : ℕ). (entry_at es i).lit) (sym at) ∙ f.3 in
                stands_in_new k l new.2.1 is
          ]
    ]

    two : HasTwoHere t (clause_at db conflict) ⊎ ((k : ℕ) → IsLeft others aside k → 0 < lev k → Contains (clause_at db conflict) (denied t.entries k))
    two = elim w.two [
      | inl h ↦ inl h
      | inr f ↦ elim goes.1 [
        | inl zero_level ↦ inr (λ k left pos. elim (came k left) [
          | inl o ↦ f k o pos
          | inr new ↦ let low = rising t trail k p (omega (arith, new.0)) within in absurd (omega (arith, low, zero_level, pos))
        ])
        | inr here ↦
            let another = here.2 in
            let level = another.2 in
            inl (record {
              low = another.0;
              high = p;
              apart = below another.0 another.1;
              within = within;
              low_level = level;
              high_level = here.1;
              has_low = f another.0 (inl (was another.0 another.1)) (omega (arith, level, here.1, here.0));
              has_high = f p (inl is_marked) here.0;
            })
      ]
    ]

    phase : 0 < top → ((length aside ≡ 0) × HasMarkHere t others) ⊎ ((0 < length aside) × (HasMarkHere t others → ⊥))
    phase pos = elim (w.phase pos) [
      | inl a ↦ elim goes.1 [
        | inl zero_level ↦ let at = level_top a.1 in absurd (omega (arith, at, zero_level, pos))
        | inr here ↦ let another = here.2 in inl (a.0, (another.0, by.kept another.0 another.1, another.2))
      ]
      | inr b ↦ elim goes.1 [
        | inl zero_level ↦ inr (
          b.0,
          λ some. elim (by.only some.0 some.1) [
            | inl o ↦ b.1 (some.0, was some.0 o, some.2)
            | inr new ↦
                let at = some.2 in
                let low = rising t trail some.0 p (omega (arith, new.0)) within in
                omega (arith, low, zero_level, at, pos)
          ],
        )
        | inr here ↦ let another = here.2 in absurd (b.1 (another.0, was another.0 another.1, another.2))
      ]
    ]

    pub resolved : IsWork t db conflict p others aside (c ∷ hints)
    resolved = record {
      below = still_below;
      within = omega (arith, within);
      are_aside = aside_lower;
      phase = phase;
      held = All-cons (λ (h : ℕ). h < length db) c hints r.held w.held;
      ends = (c ∷ w.ends.0, ap (λ (xs : List ℕ). c ∷ xs) w.ends.1);
      given = u ∷ w.given;
      refutes = refutes;
      spent = (w.stands p (inl is_marked), w.spent);
      stands = stands;
      two = two;
    }

-- The watch rule, as trails grow, are cut, and watch other literals.
use Rattle.std.proofs.Common.{◌≡◌, ◌∙◌, ap, sym, ℕ, zero, suc, ◌+◌, ◌<◌, ◌≤◌, ◌⊎◌, inl, inr, List, [], ◌∷◌, ◌++◌, length, take, min, get_or, arith, Option, Some, None}
use Rattle.std.specs.List.{Any}
use Rattle.std.proofs.lemmas.Bool.{cases_eq, cases_lt}
use Rattle.std.proofs.lemmas.List.{get_or_append_left, get_or_push, length_push, get_or-take, length-take-le}
use Rattle.clause_db.specs.declared.lit.Lit.{Lit}
use Rattle.clause_db.specs.Clauses.{clause_at}
use Rattle.propagate.specs.declared.entry.Entry.{Entry}
use Rattle.propagate.specs.declared.entry.Level.{Level}
use Rattle.propagate.specs.declared.watch.Watch.{Watch}
use Rattle.propagate.specs.Watching.{Watching, satisfying, unwatched, watch_at}
use Rattle.propagate.specs.Trails.{Assigned, no_entry, entry_at, start_of, IsTrail, rewatched}
use Rattle.propagate.specs.Watched.{AreTwoOf, AreGuarded, AreWatched, IsGuarded, IsTrueUpTo}
use Rattle.propagate.specs.Visits.{IsRewatched}
use Rattle.propagate.proofs.TrailLemmas.{cases_push, cut_at, shallow}
use Rattle.propagate.proofs.UnwatchedLemmas.{unwatched_below, unwatched_stays}
use Rattle.propagate.proofs.WatchingLemmas.{cases_attached}
use Rattle.std.proofs.lemmas.Option.{same_Some, none-some}

pub known_at : (xs : List (Option Watch)) (c : ℕ) (p : Watch) → get_or xs c None ≡ Some p → c < length xs
known_at [] c p is = absurd (none-some _ is)
known_at (x ∷ xs) zero p is = omega arith
known_at (x ∷ xs) (suc c) p is = let less = known_at xs c p is in omega (arith, less)

pub guard_fewer : (es : List Entry) (m n : ℕ) (l o : Lit) → n ≤ m → IsGuarded es m l o → IsGuarded es n l o
guard_fewer es m n l o le guard k less is = guard k (omega (arith, less, le)) is

pub guards_fewer : (es : List Entry) (m n : ℕ) (p : Watch) → n ≤ m → AreGuarded es m p → AreGuarded es n p
guards_fewer es m n p le old = record { first = guard_fewer es m n p.first p.second le old.first; second = guard_fewer es m n p.second p.first le old.second }

-- a literal that is true since level 0, among other entries
satisfied_more : (xs ys : List Entry) (clause : List Lit) → ((l : Lit) → IsTrueUpTo xs 0 l → IsTrueUpTo ys 0 l) → Any (IsTrueUpTo xs 0) clause → Any (IsTrueUpTo ys 0) clause
satisfied_more xs ys clause more any = (any.0, any.1, any.2, any.3, more any.1 any.4)

-- trails that grow
module _ (xs ys : List Entry) (longer : length xs ≤ length ys) (same : (k : ℕ) → k < length xs → entry_at ys k ≡ entry_at xs k) where
  pub up_to_longer : (m : ℕ) (l : Lit) → IsTrueUpTo xs m l → IsTrueUpTo ys m l
  up_to_longer m l (k, within, is, level) = (k, omega (arith, within, longer), rw (same k within) is, rw (same k within) level)

  pub guard_longer : (n : ℕ) (l o : Lit) → n ≤ length xs → IsGuarded xs n l o → IsGuarded ys n l o
  guard_longer n l o le guard k less is =
      let within : k < length xs = omega (arith, less, le) in
      rw (same k within) (up_to_longer (entry_at xs k).level o (guard k less (rw (same k within) at is)))

  pub guards_longer : (n : ℕ) (p : Watch) → n ≤ length xs → AreGuarded xs n p → AreGuarded ys n p
  guards_longer n p le old = record { first = guard_longer n p.first p.second le old.first; second = guard_longer n p.second p.first le old.second }

pub watched_longer : (t : Assigned) (db : List (List Lit)) (ys : List Entry) (ls : List Level) → t.propagated ≤ length t.entries
    → length t.entries ≤ length ys → ((k : ℕ) → k < length t.entries → entry_at ys k ≡ entry_at t.entries k)
    → AreWatched t db → AreWatched (record { vars = t.vars; entries = ys; levels = ls; watching = t.watching; propagated = t.propagated }) db
watched_longer t db ys ls le longer same old = record {
  known = old.known;
  two = old.two;
  short = old.short;
  rule = λ c p is. guards_longer t.entries ys longer same t.propagated p le (old.rule c p is);
  satisfied = λ k less within. satisfied_more t.entries ys _ (up_to_longer t.entries ys longer same 0) (old.satisfied k less within);
}

pub watched_push : (t : Assigned) (db : List (List Lit)) (e : Entry) (ls : List Level) → IsTrail t → AreWatched t db
    → AreWatched (record { vars = t.vars; entries = t.entries ++ e ∷ []; levels = ls; watching = t.watching; propagated = t.propagated }) db
watched_push t db e ls trail old =
    watched_longer t db (t.entries ++ e ∷ []) ls trail.propagated (omega (arith, length_push t.entries e)) (λ k within. get_or_append_left t.entries (e ∷ []) no_entry k within) old

-- levels that are undone: the true companion of a literal that stays false stays true
pub watched_cut : (t : Assigned) (db : List (List Lit)) (m : ℕ) → m < length t.levels → IsTrail t → AreWatched t db → AreWatched (cut_at m t) db
watched_cut t db m op trail old = record {
  known = old.known;
  two = old.two;
  short = old.short;
  rule = λ c p is. let was = old.rule c p is in record { first = guard p.first p.second was.first; second = guard p.second p.first was.second };
  satisfied = λ k less within. satisfied_more t.entries (take (start_of t.levels m) t.entries) _ lowest (old.satisfied k less within);
} where
  lowest : (l : Lit) → IsTrueUpTo t.entries 0 l → IsTrueUpTo (take (start_of t.levels m) t.entries) 0 l
  lowest l (j, within, is, level) =
      let most = trail.levels.within m op in
      let stays : j < start_of t.levels m = elim (cases_lt j (start_of t.levels m)) [
        | inl before ↦ before
        | inr after ↦ let deep = (trail.levels.reached m j op within).0 after in absurd (omega (arith, deep, level))
      ] in
      let here = get_or-take (start_of t.levels m) t.entries j no_entry stays in
      (j, omega (arith, stays, length-take-le (start_of t.levels m) t.entries (omega (arith, most))), rw here is, rw here level)

  guard : (l o : Lit) → IsGuarded t.entries t.propagated l o → IsGuarded (take (start_of t.levels m) t.entries) (min t.propagated (start_of t.levels m)) l o
  guard l o was k less is =
      let most = trail.levels.within m op in
      let front : k < start_of t.levels m = omega (arith, less) in
      let within : k < length t.entries = omega (arith, front, most) in
      let same = get_or-take (start_of t.levels m) t.entries k no_entry front in
      let true_at = was k (omega (arith, less)) (rw same at is) in
      let j = true_at.0 in
      let low = shallow t.entries t.levels m op trail.levels k front within in
      let level = true_at.3 in
      let stays : j < start_of t.levels m = elim (cases_lt j (start_of t.levels m)) [
        | inl before ↦ before
        | inr after ↦ let deep = (trail.levels.reached m j op true_at.1).0 after in absurd (omega (arith, deep, low, level))
      ] in
      let here = get_or-take (start_of t.levels m) t.entries j no_entry stays in
      rw same (j, omega (arith, stays, length-take-le (start_of t.levels m) t.entries (omega (arith, most))), rw here true_at.2, rw here level)

-- a clause that is added
pub watched_added : (t : Assigned) (db : List (List Lit)) (clause : List Lit) → AreWatched t db → AreWatched t (db ++ clause ∷ [])
watched_added t db clause old = record {
  known = let known = old.known in omega (arith, known, length_push db clause);
  two = λ c p is. rw (get_or_append_left db (clause ∷ []) [] c (held c (known_at t.watching.watches c p is))) (old.two c p is);
  short = λ c within is. rw (get_or_append_left db (clause ∷ []) [] c (held c within)) (old.short c within is);
  rule = old.rule;
  satisfied = λ k less within.
      let c = get_or (unwatched t.watching.watches) k 0 in
      rw (get_or_append_left db (clause ∷ []) [] c (held c (unwatched_below t.watching.watches k within))) (old.satisfied k less within);
} where
  held : (c : ℕ) → c < length t.watching.watches → c < length db
  held c within = let known = old.known in omega (arith, within, known)

-- fewer literals count as propagated
pub watched_propagated : (t : Assigned) (db : List (List Lit)) (n : ℕ) → n ≤ t.propagated → AreWatched t db → AreWatched (rewatched t t.watching n) db
watched_propagated t db n le old = record { known = old.known; two = old.two; short = old.short; rule = λ c p is. guards_fewer t.entries t.propagated n p le (old.rule c p is); satisfied = old.satisfied }

-- other watchers of the same literals
pub watched_lists : (t : Assigned) (db : List (List Lit)) (v : Watching) → v.watches ≡ t.watching.watches → v.satisfied ≡ t.watching.satisfied → AreWatched t db → AreWatched (rewatched t v t.propagated) db
watched_lists t db v same count old = record {
  known = rw same old.known;
  two = λ c p is. old.two c p (rw same at is);
  short = λ c within is. old.short c (rw same at within) (rw same at is);
  rule = λ c p is. old.rule c p (rw same at is);
  satisfied = λ k less within. rw same (old.satisfied k (rw count at less) (rw same at within));
}

-- one more clause
pub watched_up : (t : Assigned) (db : List (List Lit)) (v : Watching) (r : Option Watch) → v.watches ≡ t.watching.watches ++ r ∷ []
    → v.satisfied ≡ t.watching.satisfied → t.watching.satisfied ≤ length (unwatched t.watching.watches)
    → length t.watching.watches < length db
    → (r ≡ None → length (clause_at db (length t.watching.watches)) < 2) → ((p : Watch) → r ≡ Some p → AreTwoOf (clause_at db (length t.watching.watches)) p × AreGuarded t.entries t.propagated p)
    → AreWatched t db → AreWatched (rewatched t v t.propagated) db
watched_up t db v r added count few more none some old = record {
  known = rw added (omega (arith, more, length_push t.watching.watches r));
  two = λ c p is. elim (cases_attached t.watching.watches r c p (rw added at is)) [
    | inl was ↦ old.two c p was
    | inr new ↦ rw new.0 (some p new.1).0
  ];
  short = λ c within is. elim (cases_push t.watching.watches r c (rw added at within)) [
    | inl before ↦ old.short c before (rw (added, get_or_append_left t.watching.watches (r ∷ []) None c before) at is)
    | inr last ↦ rw last (none (rw (added, get_or_push t.watching.watches r None c (sym last)) at is))
  ];
  rule = λ c p is. elim (cases_attached t.watching.watches r c p (rw added at is)) [
    | inl was ↦ old.rule c p was
    | inr new ↦ (some p new.1).1
  ];
  satisfied = λ k less within.
      let before : k < t.watching.satisfied = rw count at less in
      let stays : k < length (unwatched t.watching.watches) = omega (arith, before, few) in
      rw (added, unwatched_stays t.watching.watches r k stays) (old.satisfied k before stays);
}

-- a clause that is watched anew
pub watched_again : (t : Assigned) (db : List (List Lit)) (v : Watching) (c : ℕ) (q : Watch) → IsRewatched t.watching v c q → AreTwoOf (clause_at db c) q → AreGuarded t.entries t.propagated q
    → AreWatched t db → AreWatched (rewatched t v t.propagated) db
watched_again t db v c q anew both guards old = record {
  known = rw anew.count old.known;
  two = λ d p is. elim (cases d p is) [ inl was ↦ old.two d p was | inr new ↦ rw (new.0, ← new.1) both ];
  short = λ d within is. elim (cases_eq d c) [
    | inl same ↦ elim anew.here [
      | inl stays ↦ old.short d (rw anew.count at within) (ap (watch_at t.watching) same ∙ sym stays ∙ ap (watch_at v) (sym same) ∙ is)
      | inr moved ↦ absurd (none-some _ (sym is ∙ ap (watch_at v) same ∙ moved))
    ]
    | inr other ↦ old.short d (rw anew.count at within) (sym (anew.others d other) ∙ is)
  ];
  rule = λ d p is. elim (cases d p is) [ inl was ↦ old.rule d p was | inr new ↦ rw (← new.1) guards ];
  satisfied = λ k less within. rw anew.short (old.satisfied k (rw anew.satisfied at less) (rw anew.short at within));
} where
  cases : (d : ℕ) (p : Watch) → watch_at v d ≡ Some p → (watch_at t.watching d ≡ Some p) ⊎ ((d ≡ c) × (q ≡ p))
  cases d p is = elim (cases_eq d c) [
    | inl same ↦ elim anew.here [
      | inl stays ↦ inl (ap (watch_at t.watching) same ∙ sym stays ∙ ap (watch_at v) (sym same) ∙ is)
      | inr moved ↦ inr (same, same_Some _ _ (sym moved ∙ ap (watch_at v) (sym same) ∙ is))
    ]
    | inr other ↦ inl (sym (anew.others d other) ∙ is)
  ]

-- one clause more that counts as satisfied
pub watched_satisfied : (t : Assigned) (db : List (List Lit)) → Any (IsTrueUpTo t.entries 0) (clause_at db (get_or (unwatched t.watching.watches) t.watching.satisfied 0)) → AreWatched t db
    → AreWatched (rewatched t (satisfying t.watching (t.watching.satisfied + 1)) t.propagated) db
watched_satisfied t db next old = record {
  known = old.known;
  two = old.two;
  short = old.short;
  rule = old.rule;
  satisfied = λ k less within. elim (cases_lt k t.watching.satisfied) [
    | inl before ↦ old.satisfied k before within
    | inr le ↦ let here : k ≡ t.watching.satisfied = omega (arith, less, le) in rw here next
  ];
}

-- Trails that grow by a literal or a level, and trails that are cut.
use Rattle.std.proofs.Common.{◌≡◌, ◌≢◌, ◌∙◌, ap, sym, refl, ℕ, zero, suc, ◌+◌, ◌<◌, ◌≤◌, ◌⊎◌, inl, inr, List, [], ◌∷◌, ◌++◌, length, take, min, get_or, map, arith, Some, None, Bool, true, false, eqb}
use Rattle.std.specs.Prelude.{IsNone, nat_le, filter}
use Rattle.std.specs.List.{IsDistinct, list_any}
use Rattle.std.proofs.lemmas.Bool.{cases_lt, or_cases, ne_eqb, le-leb, lt-leb}
use Rattle.std.proofs.lemmas.List.{get_or_append_left, get_or_push, length_push, get_or-take, length-take, length-take-le, take_all, length-map, get_or-map}
use Rattle.std.proofs.lemmas.List.Elements.{All-push, All-take}
use Rattle.std.proofs.lemmas.List.Quantifiers.{all_pairs_push}
use Rattle.std.proofs.lemmas.Map.Steps.{length-le_from_distinct_below}
use Rattle.std.proofs.lemmas.Map.Keys.{IsDistinct-from_apart}
use Rattle.clause_db.specs.declared.lit.Lit.{Lit}
use Rattle.propagate.specs.declared.entry.Entry.{Entry}
use Rattle.propagate.specs.declared.entry.Level.{Level}
use Rattle.propagate.specs.Trails.{Assigned, no_entry, no_level, entry_at, start_of, mark_of, IsUnassigned, AreLevels, IsTrail, followed, decided, up_to, cut_to}
use Rattle.mt_list.proofs.Lists.{first_below}

pub cases_push : {X : Type 0} (xs : List X) (e : X) (k : ℕ) → k < length (xs ++ e ∷ []) → (k < length xs) ⊎ (k ≡ length xs)
cases_push xs e k below = elim (cases_lt k (length xs)) [ inl b ↦ inl b | inr b ↦ inr (omega (arith, length_push xs e)) ]

module _ (xs : List Entry) (e : Entry) where
  pub old_entry : (k : ℕ) → k < length xs → entry_at (xs ++ e ∷ []) k ≡ entry_at xs k
  old_entry k below = get_or_append_left xs (e ∷ []) no_entry k below

  pub new_entry : (k : ℕ) → k ≡ length xs → entry_at (xs ++ e ∷ []) k ≡ e
  new_entry k is = get_or_push xs e no_entry k (sym is)

module _ (ls : List Level) (l : Level) where
  pub old_start : (j : ℕ) → j < length ls → start_of (ls ++ l ∷ []) j ≡ start_of ls j
  old_start j below = ap (λ (x : Level). x.start) (get_or_append_left ls (l ∷ []) no_level j below)

  pub new_start : (j : ℕ) → j ≡ length ls → start_of (ls ++ l ∷ []) j ≡ l.start
  new_start j is = ap (λ (x : Level). x.start) (get_or_push ls l no_level j (sym is))

  pub old_mark : (j : ℕ) → j < length ls → mark_of (ls ++ l ∷ []) j ≡ mark_of ls j
  old_mark j below = ap (λ (x : Level). x.mark) (get_or_append_left ls (l ∷ []) no_level j below)

  pub new_mark : (j : ℕ) → j ≡ length ls → mark_of (ls ++ l ∷ []) j ≡ l.mark
  new_mark j is = ap (λ (x : Level). x.mark) (get_or_push ls l no_level j (sym is))

not_none : (c : ℕ) → IsNone (Some c) → ⊥
not_none c none = absurd cc

-- one more literal of the present level
levels_followed : (xs : List Entry) (ls : List Level) (e : Entry) (c : ℕ) → AreLevels xs ls → e.level ≡ length ls → e.reason ≡ Some c → AreLevels (xs ++ e ∷ []) ls
levels_followed xs ls e c old level reason = record {
  top = λ k within. elim (cases_push xs e k within) [
    | inl b ↦ rw (old_entry xs e k b) (old.top k b)
    | inr is ↦ rw (new_entry xs e k is) (omega (arith, level))
  ];
  reached = λ j k op within. elim (cases_push xs e k within) [
    | inl b ↦ rw (old_entry xs e k b) (old.reached j k op b)
    | inr is ↦ let low = old.within j op in rw (new_entry xs e k is, level) (λ _. op, λ _. omega (arith, low, is))
  ];
  within = λ j op. let low = old.within j op in omega (arith, low, length_push xs e);
  first = λ j op. rw (old_entry xs e (start_of ls j) (old.within j op)) (old.first j op);
  decided = λ j op. rw (old_entry xs e (start_of ls j) (old.within j op)) (old.decided j op);
  only = λ k within none. elim (cases_push xs e k within) [
    | inl b ↦ old.only k b (rw (old_entry xs e k b) at none)
    | inr is ↦ absurd (not_none c (rw (new_entry xs e k is, reason) at none))
  ];
}

-- one more level, with its decision
levels_decided : (xs : List Entry) (ls : List Level) (e : Entry) (l : Level) → AreLevels xs ls → e.level ≡ length ls + 1 → e.reason ≡ None → l.start ≡ length xs
    → AreLevels (xs ++ e ∷ []) (ls ++ l ∷ [])
levels_decided xs ls e l old level reason start = record {
  top = λ k within. elim (cases_push xs e k within) [
    | inl b ↦ let top = old.top k b in rw (old_entry xs e k b) (omega (arith, top, length_push ls l))
    | inr is ↦ rw (new_entry xs e k is) (omega (arith, level, length_push ls l))
  ];
  reached = λ j k op within. elim (cases_push ls l j op) [
    | inl a ↦ elim (cases_push xs e k within) [
      | inl b ↦ rw (old_start ls l j a, old_entry xs e k b) (old.reached j k a b)
      | inr is ↦ let low = old.within j a in rw (old_start ls l j a, new_entry xs e k is, level) (λ _. omega (arith, a), λ _. omega (arith, low, is))
    ]
    | inr a ↦ elim (cases_push xs e k within) [
      | inl b ↦
          let top = old.top k b in
          rw (new_start ls l j a, start, old_entry xs e k b) (λ le. absurd (omega (arith, le, b)), λ deep. absurd (omega (arith, deep, top, a)))
      | inr is ↦ rw (new_start ls l j a, start, new_entry xs e k is, level) (λ _. omega (arith, a), λ _. omega (arith, is))
    ]
  ];
  within = λ j op. elim (cases_push ls l j op) [
    | inl a ↦ let low = old.within j a in rw (old_start ls l j a) (omega (arith, low, length_push xs e))
    | inr a ↦ rw (new_start ls l j a, start) (omega (arith, length_push xs e))
  ];
  first = λ j op. elim (cases_push ls l j op) [
    | inl a ↦ rw (old_start ls l j a, old_entry xs e (start_of ls j) (old.within j a)) (old.first j a)
    | inr a ↦ rw (new_start ls l j a, start, new_entry xs e (length xs) refl) (omega (arith, level, a))
  ];
  decided = λ j op. elim (cases_push ls l j op) [
    | inl a ↦ rw (old_start ls l j a, old_entry xs e (start_of ls j) (old.within j a)) (old.decided j a)
    | inr a ↦ rw (new_start ls l j a, start, new_entry xs e (length xs) refl, reason) refl
  ];
  only = λ k within none. elim (cases_push xs e k within) [
    | inl b ↦
        let first = old.only k b (rw (old_entry xs e k b) at none) in
        (first.0, omega (arith, first.1, length_push ls l), rw (old_start ls l first.0 first.1) first.2)
    | inr is ↦ (length ls, omega (arith, length_push ls l), rw (new_start ls l (length ls) refl, start) (sym is))
  ];
}

pub trail_followed : (t : Assigned) (lit : Lit) (c : ℕ) → IsTrail t → lit.var < t.vars → IsUnassigned t.entries lit.var → IsTrail (followed t lit c)
trail_followed t lit c old below free =
    let e : Entry = record { lit = lit; level = length t.levels; reason = Some c } in
    record {
      below = All-push (λ (x : Entry). x.lit.var < t.vars) t.entries e old.below below;
      once = all_pairs_push (λ (d x : Entry). d.lit.var ≢ x.lit.var) t.entries e old.once free;
      levels = levels_followed t.entries t.levels e c old.levels refl refl;
      propagated = let most = old.propagated in omega (arith, most, length_push t.entries e);
      lists = old.lists;
      listed = old.listed;
      satisfied = old.satisfied;
    }

pub trail_decided : (t : Assigned) (lit : Lit) (mark : ℕ) → IsTrail t → lit.var < t.vars → IsUnassigned t.entries lit.var → IsTrail (decided t lit mark)
trail_decided t lit mark old below free =
    let e : Entry = record { lit = lit; level = length t.levels + 1; reason = None } in
    record {
      below = All-push (λ (x : Entry). x.lit.var < t.vars) t.entries e old.below below;
      once = all_pairs_push (λ (d x : Entry). d.lit.var ≢ x.lit.var) t.entries e old.once free;
      levels = levels_decided t.entries t.levels e (record { start = length t.entries; mark = mark }) old.levels refl refl refl;
      propagated = let most = old.propagated in omega (arith, most, length_push t.entries e);
      lists = old.lists;
      listed = old.listed;
      satisfied = old.satisfied;
    }

-- a later level begins later
pub rising : (xs : List Entry) (ls : List Level) (i j : ℕ) → AreLevels xs ls → i < j → j < length ls → start_of ls i < start_of ls j
rising xs ls i j old less op = elim (cases_lt (start_of ls i) (start_of ls j)) [
  | inl b ↦ b
  | inr le ↦
      let op_i : i < length ls = omega arith in
      let deep = (old.reached j (start_of ls i) op (old.within i op_i)).0 le in
      let is = old.first i op_i in
      absurd (omega (arith, deep, is))
]

place_least : (xs : List Entry) (ls : List Level) (j : ℕ) → AreLevels xs ls → j < length ls → j ≤ start_of ls j
place_least xs ls zero old op = omega arith
place_least xs ls (suc j) old op =
    let least = place_least xs ls j old (omega (arith, op)) in
    let rise = rising xs ls j (suc j) old (omega arith) op in
    omega (arith, least, rise)

-- no more levels above 0 than literals
pub few_levels : (xs : List Entry) (ls : List Level) → AreLevels xs ls → length ls ≤ length xs
few_levels xs [] old = omega arith
few_levels xs (l ∷ ls) old =
    let op : length ls < length (l ∷ ls) = omega arith in
    let least = place_least xs (l ∷ ls) (length ls) old op in
    let within = old.within (length ls) op in
    omega (arith, least, within)

any_below : (n q : ℕ) (es : List Entry) → ((k : ℕ) → k < length es → (entry_at es k).lit.var < n) → list_any (eqb q) (map (λ e. e.lit.var) es) ≡ true → q < n
any_below n q [] all found = absurd cc
any_below n q (e ∷ es) all found = elim (or_cases (eqb q e.lit.var) (list_any (eqb q) (map (λ x. x.lit.var) es)) found) [
  | inl here ↦ first_below q e.lit.var (all 0 (omega arith)) here
  | inr rest ↦ any_below n q es (λ k within. all (suc k) (omega (arith, within))) rest
]

-- a trail is no longer than its variables are many
pub few_literals : (t : Assigned) → IsTrail t → length t.entries ≤ t.vars
few_literals t old = let most = length-le_from_distinct_below vars t.vars apart below in rw (length-map t.entries var_of) at most where
  var_of : Entry → ℕ
  var_of e = e.lit.var

  vars : List ℕ
  vars = map var_of t.entries

  apart : IsDistinct eqb vars
  apart = IsDistinct-from_apart eqb vars (λ i j d less within.
      let j_below : j < length t.entries = rw (length-map t.entries var_of) at within in
      let i_below : i < length t.entries = omega arith in
      rw (get_or-map var_of t.entries i no_entry d i_below, get_or-map var_of t.entries j no_entry d j_below)
      (ne_eqb (var_of (entry_at t.entries i)) (var_of (entry_at t.entries j)) (old.once i j no_entry less j_below)))

  below : (q : ℕ) → list_any (eqb q) vars ≡ true → q < t.vars
  below q found = any_below t.vars q t.entries (λ k within. old.below k no_entry within) found

-- a filter that keeps a front and nothing behind it
filter_front : {X : Type 0} (p : X → Bool) (d : X) (xs : List X) (n : ℕ) → ((k : ℕ) → k < n → k < length xs → p (get_or xs k d) ≡ true)
    → ((k : ℕ) → n ≤ k → k < length xs → p (get_or xs k d) ≡ false) → filter p xs ≡ take n xs
filter_front p d [] zero front rest = refl
filter_front p d [] (suc n) front rest = refl
filter_front p d (x ∷ xs) zero front rest =
    let here : p x ≡ false = rest 0 (omega arith) (omega arith) in
    let later = filter_front p d xs zero (λ k low _. absurd (omega (arith, low))) (λ k _ within. rest (suc k) (omega arith) (omega (arith, within))) in
    rw here later
filter_front p d (x ∷ xs) (suc n) front rest =
    let here : p x ≡ true = front 0 (omega arith) (omega arith) in
    let later = filter_front p d xs n (λ k low within. front (suc k) (omega (arith, low)) (omega (arith, within))) (λ k le within. rest (suc k) (omega (arith, le)) (omega (arith, within))) in
    rw here (ap (λ ys. x ∷ ys) later)

-- where no level is above m, all entries are of levels up to m
pub up_to_top : (xs : List Entry) (ls : List Level) (m : ℕ) → AreLevels xs ls → length ls ≤ m → up_to m xs ≡ xs
up_to_top xs ls m old le =
    filter_front (λ (e : Entry). nat_le e.level m) no_entry xs (length xs) (λ k _ within. let top = old.top k within in le-leb (entry_at xs k).level m (omega (arith, top, le))) (λ k low within. absurd (omega (arith, low, within)))
    ∙ take_all (length xs) xs (omega arith)

pub cut_at_top : (t : Assigned) (m : ℕ) → IsTrail t → length t.levels ≤ m → cut_to m t ≡ t
cut_at_top t m old le =
    let cut : List Entry → List Level → ℕ → Assigned = λ xs ls n. record { vars = t.vars; entries = xs; levels = ls; watching = t.watching; propagated = n } in
    let few : min t.propagated (length t.entries) ≡ t.propagated = let most = old.propagated in omega (arith, most) in
    ap (λ xs. cut xs (take m t.levels) (min t.propagated (length xs))) (up_to_top t.entries t.levels m old.levels le) ∙ ap (λ ls. cut t.entries ls (min t.propagated (length t.entries))) (take_all m t.levels le)
    ∙ ap (λ n. cut t.entries t.levels n) few

-- the levels up to one that is below the present one
module _ (xs : List Entry) (ls : List Level) (m : ℕ) (op : m < length ls) (old : AreLevels xs ls) where
  abbrev n : ℕ
  n = start_of ls m

  pub shallow : (k : ℕ) → k < n → k < length xs → (entry_at xs k).level ≤ m
  shallow k less within = elim (cases_lt m (entry_at xs k).level) [
    | inl deep ↦ let after = (old.reached m k op within).1 deep in absurd (omega (arith, after, less))
    | inr le ↦ le
  ]

  pub up_to_start : up_to m xs ≡ take n xs
  up_to_start = filter_front (λ (e : Entry). nat_le e.level m) no_entry xs n (λ k less within. le-leb (entry_at xs k).level m (shallow k less within))
      (λ k le within. lt-leb (entry_at xs k).level m ((old.reached m k op within).0 le))

  few : length (take n xs) ≡ n
  few = let within = old.within m op in length-take-le n xs (omega (arith, within))

  lower : length (take m ls) ≡ m
  lower = length-take-le m ls (omega (arith, op))

  front : (k : ℕ) → k < length (take n xs) → (k < n) × (k < length xs)
  front k within = let most = old.within m op in (omega (arith, few, within), omega (arith, few, most, within))

  at_front : (k : ℕ) → k < length (take n xs) → entry_at (take n xs) k ≡ entry_at xs k
  at_front k within = get_or-take n xs k no_entry (front k within).0

  pub at_start : (j : ℕ) → j < m → start_of (take m ls) j ≡ start_of ls j
  at_start j less = ap (λ (x : Level). x.start) (get_or-take m ls j no_level less)

  pub at_mark : (j : ℕ) → j < m → mark_of (take m ls) j ≡ mark_of ls j
  at_mark j less = ap (λ (x : Level). x.mark) (get_or-take m ls j no_level less)

  pub levels_cut : AreLevels (take n xs) (take m ls)
  levels_cut = record {
    top = λ k within. rw (at_front k within, lower) (shallow k (front k within).0 (front k within).1);
    reached = λ j k below within.
        let less : j < m = rw lower at below in
        rw (at_start j less, at_front k within) (old.reached j k (omega (arith, less, op)) (front k within).1);
    within = λ j below.
        let less : j < m = rw lower at below in
        rw (at_start j less, few) (rising xs ls j m old less op);
    first = λ j below.
        let less : j < m = rw lower at below in
        rw (at_start j less, get_or-take n xs (start_of ls j) no_entry (rising xs ls j m old less op)) (old.first j (omega (arith, less, op)));
    decided = λ j below.
        let less : j < m = rw lower at below in
        rw (at_start j less, get_or-take n xs (start_of ls j) no_entry (rising xs ls j m old less op)) (old.decided j (omega (arith, less, op)));
    only = λ k within none.
        let here = front k within in
        let first = old.only k here.1 (rw (at_front k within) at none) in
        let level : (entry_at xs k).level ≡ first.0 + 1 = rw first.2 at (old.first first.0 first.1) in
        let le = shallow k here.0 here.1 in
        let less : first.0 < m = omega (arith, level, le) in
        (first.0, rw lower less, rw (at_start first.0 less) first.2);
  }

-- the trail without its literals from the start of a level on
abbrev pub cut_at : ℕ → Assigned → Assigned
cut_at m t = record { vars = t.vars; entries = take (start_of t.levels m) t.entries; levels = take m t.levels; watching = t.watching; propagated = min t.propagated (start_of t.levels m) }

pub trail_cut : (t : Assigned) (m : ℕ) → m < length t.levels → IsTrail t → IsTrail (cut_at m t)
trail_cut t m op old = record {
  below = All-take (λ (x : Entry). x.lit.var < t.vars) (start_of t.levels m) t.entries old.below;
  once = λ i j d less within.
      let n = start_of t.levels m in
      let short = length-take n t.entries in
      let j_front : j < n = omega (arith, short, within) in
      let i_front : i < n = omega (arith, j_front, less) in
      rw (get_or-take n t.entries i d i_front, get_or-take n t.entries j d j_front) (old.once i j d less (omega (arith, short, within)));
  levels = levels_cut t.entries t.levels m op old.levels;
  propagated = let within = old.levels.within m op in omega (arith, within, length-take-le (start_of t.levels m) t.entries (omega (arith, within)));
  lists = old.lists;
  listed = old.listed;
  satisfied = old.satisfied;
}

pub cut_is_at : (t : Assigned) (m : ℕ) → m < length t.levels → IsTrail t → cut_at m t ≡ cut_to m t
cut_is_at t m op old =
    let n = start_of t.levels m in
    let within = old.levels.within m op in
    let cut : List Entry → ℕ → Assigned = λ xs k. record { vars = t.vars; entries = xs; levels = take m t.levels; watching = t.watching; propagated = min t.propagated k } in
    ap (λ k. cut (take n t.entries) k) (sym (length-take-le n t.entries (omega (arith, within)))) ∙ ap (λ xs. cut xs (length xs)) (sym (up_to_start t.entries t.levels m op old.levels))

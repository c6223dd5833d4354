-- The table of places, as literals come and go.
use Rattle.std.proofs.Common.{◌≡◌, ◌≢◌, ◌∙◌, ap, sym, refl, ℕ, zero, suc, ◌+◌, ◌-◌, ◌<◌, ◌≤◌, inl, inr, List, [], ◌∷◌, ◌++◌, length, take, min, set, arith, get_or, length-set, Option, Some, None, get_or-set_same, get_or-set_other}
use Rattle.std.specs.Prelude.{◌↔◌, IsNone}
use Rattle.std.proofs.lemmas.Bool.{cases_eq, cases_lt}
use Rattle.std.proofs.lemmas.List.{length_push, get_or_read}
use Rattle.std.proofs.lemmas.List.Elements.{All-from_get_or}
use Rattle.clause_db.specs.declared.lit.Lit.{Lit}
use Rattle.propagate.specs.declared.entry.Entry.{Entry}
use Rattle.propagate.specs.declared.entry.Level.{Level}
use Rattle.propagate.specs.Watching.{Watching}
use Rattle.propagate.specs.Trails.{Assigned, no_entry, no_level, entry_at, start_of, AreLevels, IsAssigned, IsTrail, IsUnassigned, followed, cut_to}
use Rattle.propagate.specs.Stored.{IsTable, IsStored}
use Rattle.propagate.proofs.TrailLemmas.{cases_push, old_entry, new_entry, few_literals, few_levels, trail_followed, trail_decided, trail_cut, cut_is_at}

some_same : {a b : ℕ} → Some a ≡ Some b → a ≡ b
some_same e = cc

none_is : {x : Option ℕ} {k : ℕ} → x ≡ None → x ≡ Some k → ⊥
none_is e f = cc

-- what was read from the table
pub read_place : (places : List (Option ℕ)) (v i : ℕ) (r : Option ℕ) → i ≡ v → v < length places → r ≡ get_or places i r → get_or places v None ≡ r
read_place places v i r same below is =
    let got : r ≡ get_or places i None = get_or_read places i r (omega (arith, same, below)) is None in
    rw (← same) (sym got)

-- a variable without a place isn't assigned
pub table_none : (xs : List Entry) (places : List (Option ℕ)) (v : ℕ) → IsTable xs places → get_or places v None ≡ None → IsUnassigned xs v
table_none xs places v table none = All-from_get_or (λ (e : Entry). e.lit.var ≢ v) xs no_entry (λ k within same. none_is none (ap (λ w. get_or places w None) (sym same) ∙ table.here k within))

-- a variable has no place where it is unassigned
pub place_none : (xs : List Entry) (places : List (Option ℕ)) (v : ℕ) (r : Option ℕ) → IsTable xs places → get_or places v None ≡ r → IsNone r ↔ IsUnassigned xs v
place_none xs places v None table is = (λ none. table_none xs places v table is, λ free. refl)
place_none xs places v (Some k) table is = (λ none. absurd cc, λ free. let at = table.there v k is in absurd (free k no_entry at.0 at.1))

-- an assigned variable isn't unassigned, and it is in range
pub assigned_not : (xs : List Entry) (v : ℕ) → IsAssigned xs v → IsUnassigned xs v → ⊥
assigned_not xs v (k, e, within, at, var) free = free k e within (ap (λ (x : Entry). x.lit.var) at ∙ var)

pub assigned_below : (t : Assigned) (v : ℕ) → IsTrail t → IsAssigned t.entries v → v < t.vars
assigned_below t v trail (k, e, within, at, var) = rw (at, var) at (trail.below k e within)

module _ (xs : List Entry) (e : Entry) (places : List (Option ℕ)) where
  -- the table with one more entry
  pub table_push : IsTable xs places → e.lit.var < length places → IsUnassigned xs e.lit.var → IsTable (xs ++ e ∷ []) (set places e.lit.var (Some (length xs)))
  table_push table below free = record { here = here; there = there } where
    here : (k : ℕ) → k < length (xs ++ e ∷ []) → get_or (set places e.lit.var (Some (length xs))) (entry_at (xs ++ e ∷ []) k).lit.var None ≡ Some k
    here k within = elim (cases_push xs e k within) [
      | inl b ↦
          let other : (entry_at xs k).lit.var ≢ e.lit.var = free k no_entry b in
          rw (old_entry xs e k b, get_or-set_other places e.lit.var (entry_at xs k).lit.var (Some (length xs)) None other) (table.here k b)
      | inr is ↦ rw (new_entry xs e k is, get_or-set_same places e.lit.var (Some (length xs)) None below, is) refl
    ]

    there : (v k : ℕ) → get_or (set places e.lit.var (Some (length xs))) v None ≡ Some k → (k < length (xs ++ e ∷ [])) × ((entry_at (xs ++ e ∷ []) k).lit.var ≡ v)
    there v k found = elim (cases_eq v e.lit.var) [
      | inl same ↦
          let got = rw (same, get_or-set_same places e.lit.var (Some (length xs)) None below) at found in
          let is : k ≡ length xs = cc in
          (omega (arith, length_push xs e), rw (new_entry xs e k is) (sym same))
      | inr other ↦
          let got = rw (get_or-set_other places e.lit.var v (Some (length xs)) None other) at found in
          let old = table.there v k got in
          (omega (arith, length_push xs e, old.0), rw (old_entry xs e k old.0) old.1)
    ]

  get_or_none : (ps : List (Option ℕ)) (v : ℕ) → get_or (set ps v None) v None ≡ None
  get_or_none [] v = refl
  get_or_none (p ∷ ps) zero = refl
  get_or_none (p ∷ ps) (suc v) = get_or_none ps v

  -- the table without the last entry
  pub table_pop : IsTable (xs ++ e ∷ []) places → IsTable xs (set places e.lit.var None)
  table_pop table = record { here = here; there = there } where
    last : get_or places e.lit.var None ≡ Some (length xs)
    last = let got = table.here (length xs) (omega (arith, length_push xs e)) in rw (new_entry xs e (length xs) refl) at got

    here : (k : ℕ) → k < length xs → get_or (set places e.lit.var None) (entry_at xs k).lit.var None ≡ Some k
    here k within =
        let got = rw (old_entry xs e k within) at (table.here k (omega (arith, length_push xs e))) in
        let other : (entry_at xs k).lit.var ≢ e.lit.var = λ same. let is : k ≡ length xs = some_same (sym got ∙ ap (λ v. get_or places v None) same ∙ last) in omega arith in
        rw (get_or-set_other places e.lit.var (entry_at xs k).lit.var None None other) got

    there : (v k : ℕ) → get_or (set places e.lit.var None) v None ≡ Some k → (k < length xs) × ((entry_at xs k).lit.var ≡ v)
    there v k found = elim (cases_eq v e.lit.var) [
      | inl same ↦ absurd (none_is (get_or_none places e.lit.var) (rw same at found))
      | inr other ↦
          let old = table.there v k (rw (get_or-set_other places e.lit.var v None None other) at found) in
          elim (cases_push xs e k old.0) [
            | inl b ↦ (b, rw (old_entry xs e k b) at old.1)
            | inr is ↦ absurd (other (sym (rw (new_entry xs e k is) at old.1)))
          ]
    ]

pub place_below : (places : List (Option ℕ)) (v k : ℕ) → get_or places v None ≡ Some k → v < length places
place_below [] v k found = absurd (none_is refl found)
place_below (p ∷ ps) zero k found = omega arith
place_below (p ∷ ps) (suc v) k found = let below = place_below ps v k found in omega (arith, below)

abbrev pub trail_of : ℕ → List Entry → List Level → Watching → ℕ → Assigned
trail_of vars entries levels watching propagated = record { vars = vars; entries = entries; levels = levels; watching = watching; propagated = propagated }

-- a trail with an unassigned variable has room for its literal
pub room_for_entry : (xs : List Entry) (places : List (Option ℕ)) (ls : List Level) (w : Watching) (n ec lc : ℕ) (u : Lit)
    → IsStored xs places ls w n ec lc → u.var < length places → IsUnassigned xs u.var → length xs < length places
room_for_entry xs places ls w n ec lc u stored below free =
    let t : Assigned = record { vars = length places; entries = xs; levels = ls; watching = w; propagated = n } in
    let most = few_literals (followed t u 0) (trail_followed t u 0 stored.trail below free) in
    omega (arith, most, length_push xs (record { lit = u; level = length ls; reason = Some 0 }))

pub room_for_level : (xs : List Entry) (places : List (Option ℕ)) (ls : List Level) (w : Watching) (n ec lc : ℕ) (u : Lit)
    → IsStored xs places ls w n ec lc → u.var < length places → IsUnassigned xs u.var → length ls < length places
room_for_level xs places ls w n ec lc u stored below free =
    let more = room_for_entry xs places ls w n ec lc u stored below free in
    let fewer = few_levels xs ls stored.trail.levels in
    omega (arith, more, fewer)

-- what is stored after one more literal
pub stored_followed : (xs ys : List Entry) (places : List (Option ℕ)) (ls : List Level) (w : Watching) (n ec lc more : ℕ) (u : Lit) (c v level place : ℕ) → IsStored xs places ls w n ec lc → ec ≤ more
    → u.var < length places → IsUnassigned xs u.var → v ≡ u.var → place ≡ length xs → level ≡ length ls → ys ≡ xs ++ record { lit = u; level = level; reason = Some c } ∷ []
    → IsStored ys (set places v (Some place)) ls w n more lc
stored_followed xs ys places ls w n ec lc more u c v level place stored room below free var at deep is =
    let t : Assigned = record { vars = length places; entries = xs; levels = ls; watching = w; propagated = n } in
    let e : Entry = record { lit = u; level = length ls; reason = Some c } in
    rw (is, var, at, deep) (record {
      trail = rw (length-set places u.var (Some (length xs))) (trail_followed t u c stored.trail below free);
      table = table_push xs e places stored.table below free;
      few = rw (length-set places u.var (Some (length xs))) stored.few;
      entry_room = let old = stored.entry_room in omega (arith, old, room, length-set places u.var (Some (length xs)));
      level_room = let old = stored.level_room in omega (arith, old, length-set places u.var (Some (length xs)));
    })

-- what is stored after one more level, with its decision
pub stored_decided : (xs ys : List Entry) (places : List (Option ℕ)) (ls ms : List Level) (w : Watching) (n ec lc more deeper : ℕ) (u : Lit) (mark v level place : ℕ)
    → IsStored xs places ls w n ec lc → ec ≤ more → lc ≤ deeper
    → u.var < length places → IsUnassigned xs u.var → v ≡ u.var → place ≡ length xs → level ≡ length ls → ys ≡ xs ++ record { lit = u; level = level + 1; reason = None } ∷ []
    → ms ≡ ls ++ record { start = place; mark = mark } ∷ [] → IsStored ys (set places v (Some place)) ms w n more deeper
stored_decided xs ys places ls ms w n ec lc more deeper u mark v level place stored room depth below free var at deep is opened =
    let t : Assigned = record { vars = length places; entries = xs; levels = ls; watching = w; propagated = n } in
    let e : Entry = record { lit = u; level = length ls + 1; reason = None } in
    rw (is, opened, var, at, deep) (record {
      trail = rw (length-set places u.var (Some (length xs))) (trail_decided t u mark stored.trail below free);
      table = table_push xs e places stored.table below free;
      few = rw (length-set places u.var (Some (length xs))) stored.few;
      entry_room = let old = stored.entry_room in omega (arith, old, room, length-set places u.var (Some (length xs)));
      level_room = let old = stored.level_room in omega (arith, old, depth, length-set places u.var (Some (length xs)));
    })

-- what is stored after levels are undone
pub stored_cut : (xs ys : List Entry) (places rest : List (Option ℕ)) (ls ms : List Level) (w : Watching) (n ec lc : ℕ) (m : ℕ)
    → m < length ls → IsStored xs places ls w n ec lc → ys ≡ take (start_of ls m) xs → ms ≡ take m ls
    → length rest ≡ length places → IsTable ys rest → IsStored ys rest ms w (min n (start_of ls m)) ec lc
stored_cut xs ys places rest ls ms w n ec lc m op stored is undone count table =
    let t : Assigned = record { vars = length places; entries = xs; levels = ls; watching = w; propagated = n } in
    record {
      trail = rw (count, is, undone) (trail_cut t m op stored.trail);
      table = table;
      few = rw count stored.few;
      entry_room = rw count stored.entry_room;
      level_room = rw count stored.level_room;
    }

-- the start of a level, as it was read
pub read_start : (ls : List Level) (m : ℕ) (l : Level) → m < length ls → l ≡ get_or ls m l → l.start ≡ start_of ls m
read_start ls m l op is = ap (λ (x : Level). x.start) (get_or_read ls m l op is no_level)

-- the trail after levels are undone
pub cut_is : (xs ys : List Entry) (places rest : List (Option ℕ)) (ls ms : List Level) (w : Watching) (n m : ℕ) → m < length ls
    → IsTrail (trail_of (length places) xs ls w n) → ys ≡ take (start_of ls m) xs → ms ≡ take m ls
    → length rest ≡ length places → trail_of (length rest) ys ms w (min n (start_of ls m)) ≡ cut_to m (trail_of (length places) xs ls w n)
cut_is xs ys places rest ls ms w n m op trail is undone count = rw (count, is, undone) (cut_is_at (trail_of (length places) xs ls w n) m op trail)

-- where no more literals are propagated than begin before the present level, none of that level is
pub unpropagated : (xs : List Entry) (ls : List Level) (n start k : ℕ) → AreLevels xs ls → n ≤ length xs → (length ls ≡ 0 → start ≡ 0)
    → ((j : ℕ) → length ls ≡ j + 1 → start ≡ start_of ls j) → k < min n start → (entry_at xs k).level < length ls
unpropagated xs ls n start k levels most lowest above less = elim (cases_lt 0 (length ls)) [
  | inr none ↦
      let first = lowest (omega (arith, none)) in
      absurd (omega (arith, less, first))
  | inl some ↦ elim (cases_lt (length ls - 1) (entry_at xs k).level) [
    | inr low ↦ omega (arith, low, some)
    | inl high ↦
        let from = (levels.reached (length ls - 1) k (omega (arith, some)) (omega (arith, less, most))).1 high in
        let is = above (length ls - 1) (omega (arith, some)) in
        absurd (omega (arith, from, is, less))
  ]
]

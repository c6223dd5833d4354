-- Trails whose lower levels leave nothing to propagate.
use Rattle.std.proofs.Common.{◌≡◌, ◌∙◌, ap, sym, refl, ℕ, suc, ◌+◌, ◌<◌, ◌≤◌, inl, inr, List, [], ◌∷◌, ◌++◌, length, take, drop, get_or, arith, None, Bool, false}
use Rattle.std.specs.Prelude.{nat_le, filter}
use Rattle.std.proofs.lemmas.Bool.{cases_Bool, lt-leb}
use Rattle.std.proofs.lemmas.Bool.Decides.{nat_tests}
use Rattle.std.proofs.lemmas.List.{append-nil, get_or-drop, length-drop, length-take, take-append-drop}
use Rattle.std.proofs.lemmas.List.Elements.{filter-append}
use Rattle.clause_db.specs.declared.lit.Lit.{Lit}
use Rattle.propagate.specs.declared.entry.Entry.{Entry}
use Rattle.propagate.specs.declared.entry.Level.{Level}
use Rattle.propagate.specs.Trails.{Assigned, no_entry, entry_at, IsTrail, decided, up_to, cut_to}
use Rattle.propagate.specs.Clauses.{AreSettled}
use Rattle.propagate.specs.Reach.{IsGrown}
use Rattle.propagate.specs.Closed.{ClosedAt, Closed}
use Rattle.propagate.proofs.TrailLemmas.{cases_push, up_to_top}

-- a filter that keeps nothing
filter_none : {X : Type 0} (p : X → Bool) (d : X) (xs : List X) → ((k : ℕ) → k < length xs → p (get_or xs k d) ≡ false) → filter p xs ≡ []
filter_none p d [] out = refl
filter_none p d (x ∷ xs) out =
    let here : p x ≡ false = out 0 (omega arith) in
    rw here (filter_none p d xs (λ k within. out (suc k) (omega (arith, within))))

-- a filter after one that keeps more
filter_within : {X : Type 0} (p q : X → Bool) → ((x : X) → q x ≡ false → p x ≡ false) → (xs : List X) → filter p (filter q xs) ≡ filter p xs
filter_within p q less [] = refl
filter_within p q less (x ∷ xs) = elim (cases_Bool (q x)) [
  | inl kept ↦ elim (cases_Bool (p x)) [
    | inl here ↦ rw (kept, here) (ap (λ ys. x ∷ ys) (filter_within p q less xs))
    | inr out ↦ rw (kept, out) (filter_within p q less xs)
  ]
  | inr dropped ↦ rw (dropped, less x dropped) (filter_within p q less xs)
]

-- entries of higher levels don't count
up_to_push : (m : ℕ) (xs : List Entry) (e : Entry) → m < e.level → up_to m (xs ++ e ∷ []) ≡ up_to m xs
up_to_push m xs e above =
    let p : Entry → Bool = λ (x : Entry). nat_le x.level m in
    let none : filter p (e ∷ []) ≡ [] = filter_none p no_entry (e ∷ []) (λ k within. let is : k ≡ 0 = omega (arith, within) in rw is (lt-leb e.level m above)) in
    filter-append p xs (e ∷ []) ∙ ap (λ ys. filter p xs ++ ys) none ∙ append-nil (filter p xs)

up_to_grown : (m : ℕ) (old new : Assigned) → m < length old.levels → IsGrown old new → up_to m new.entries ≡ up_to m old.entries
up_to_grown m old new above grown =
    let p : Entry → Bool = λ (x : Entry). nat_le x.level m in
    let n = length old.entries in
    let none : filter p (drop n new.entries) ≡ [] = filter_none p no_entry (drop n new.entries) (λ k within.
    let more : n + k < length new.entries = omega (arith, within, length-drop n new.entries, grown.longer) in
    let level = (grown.added (n + k) (omega arith) more).0 in
    rw (get_or-drop n new.entries k no_entry) (lt-leb (entry_at new.entries (n + k)).level m (omega (arith, level, above)))) in
    ap (λ (ys : List Entry). filter p ys) (sym (take-append-drop n new.entries)) ∙ filter-append p (take n new.entries) (drop n new.entries)
    ∙ ap (λ ys. filter p (take n new.entries) ++ ys) none ∙ append-nil (filter p (take n new.entries)) ∙ ap (λ (ys : List Entry). filter p ys) grown.kept

above_both : (a m n : ℕ) → m ≤ n → nat_le a n ≡ false → nat_le a m ≡ false
above_both a m n le above = grind (arith, nat_tests)

up_to_cut : (m n : ℕ) (xs : List Entry) → m ≤ n → up_to m (up_to n xs) ≡ up_to m xs
up_to_cut m n xs le = filter_within (λ (x : Entry). nat_le x.level m) (λ (x : Entry). nat_le x.level n) (λ x above. above_both x.level m n le above) xs

-- a decision leaves the levels below it closed
pub closed_decided : (t : Assigned) (u : Lit) (mark : ℕ) (db : List (List Lit)) → Closed t db → ClosedAt t db (length t.levels) → Closed (decided t u mark) db
closed_decided t u mark db below here m op =
    let e : Entry = record { lit = u; level = length t.levels + 1; reason = None } in
    let l : Level = record { start = length t.entries; mark = mark } in
    elim (cases_push t.levels l m op) [
      | inl a ↦ rw (up_to_push m t.entries e (omega (arith, a))) (below m a)
      | inr a ↦ rw (up_to_push m t.entries e (omega (arith, a)), a) here
    ]

-- propagation leaves the levels below the present one as they were
pub closed_grown : (old new : Assigned) (db : List (List Lit)) → IsGrown old new → Closed old db → Closed new db
closed_grown old new db grown closed m op =
    let above : m < length old.levels = omega (arith, op, ap length grown.levels) in
    rw (up_to_grown m old new above grown) (closed m above)

-- where nothing is left to propagate, the present level is closed
pub settled_closed : (t : Assigned) (db : List (List Lit)) → IsTrail t → AreSettled t.entries db → ClosedAt t db (length t.levels)
settled_closed t db trail settled = rw (up_to_top t.entries t.levels (length t.levels) trail.levels (omega arith)) settled

-- the levels below the one gone back to stay closed
pub closed_cut : (t : Assigned) (n : ℕ) (db : List (List Lit)) → ((m : ℕ) → m < n → ClosedAt t db m) → Closed (cut_to n t) db
closed_cut t n db below m op =
    let less : m < n = omega (arith, op, length-take n t.levels) in
    rw (up_to_cut m n t.entries (omega (arith, less))) (below m less)

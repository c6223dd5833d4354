-- How the literals of a trail lie by place, by variable and by level.
use Rattle.std.proofs.Common.{◌≡◌, ◌∙◌, ap, sym, subst, ℕ, ◌<◌, ◌≤◌, ◌⊎◌, inl, inr, List, length, take, arith, Some}
use Rattle.std.specs.List.{Contains}
use Rattle.std.proofs.lemmas.Bool.{cases_eq, cases_lt}
use Rattle.std.proofs.lemmas.List.{get_or-take, get_or_default, length-take}
use Rattle.std.proofs.lemmas.List.Elements.{All-contains}
use Rattle.hint_refutation.proofs.Lists.{all_from}
use Rattle.clause_db.specs.declared.lit.Lit.{Lit}
use Rattle.clause_db.specs.Literals.{negation}
use Rattle.clause_db.specs.Clauses.{clause_at}
use Rattle.clause_db.proofs.LawLemmas.{negation_other}
use Rattle.propagate.specs.declared.entry.Entry.{Entry}
use Rattle.propagate.specs.Trails.{Assigned, no_entry, entry_at, literals, AreLevels, HasEntry, IsAssigned, IsTrail}
use Rattle.propagate.specs.Clauses.{HasReasons, IsFalsified}
use Rattle.propagate.proofs.ClauseLemmas.{literal_at, read_entry}
use Rattle.analyze.specs.Asserting.{IsFalseSince}
use Rattle.analyze.specs.Marks.{AreAssigned}
use Rattle.analyze.specs.Resolving.{level_of}

pub apart_from_negation : (l : Lit) → l ≡ negation l → ⊥
apart_from_negation l same = negation_other.other l (sym same)

module _ (t : Assigned) (trail : IsTrail t) where
  levels : AreLevels t.entries t.levels
  levels = trail.levels

  -- no variable has two places
  pub distinct : (i k : ℕ) → i < length t.entries → k < length t.entries → (entry_at t.entries i).lit.var ≡ (entry_at t.entries k).lit.var → i ≡ k
  distinct i k i_in k_in same = elim (cases_eq i k) [
    | inl is ↦ is
    | inr other ↦ elim (cases_lt i k) [
      | inl before ↦ absurd (trail.once i k no_entry before k_in same)
      | inr after ↦ absurd (trail.once k i no_entry (omega (arith, after, other)) i_in (sym same))
    ]
  ]

  -- what was found for the variable of a place's literal is so of the place
  pub entry_of_place : (k v : ℕ) → k < length t.entries → v ≡ (entry_at t.entries k).lit.var → (P : Entry → Type 0) → HasEntry t.entries v P → P (entry_at t.entries k)
  entry_of_place k v k_in is P (j, e, within, at, (var, has)) =
      let there = read_entry t.entries j e within at in
      let same : j ≡ k = distinct j k within k_in (ap (λ (y : Entry). y.lit.var) there ∙ var ∙ is) in
      subst (λ (i : ℕ). P (entry_at t.entries i)) same (subst P (sym there) has)

  -- later literals have no lower level
  pub rising : (i k : ℕ) → i ≤ k → k < length t.entries → level_of t.entries i ≤ level_of t.entries k
  rising i k le k_in = elim (cases_lt (level_of t.entries k) (level_of t.entries i)) [
    | inr least ↦ omega (arith, least)
    | inl more ↦
        let i_in : i < length t.entries = omega (arith, le, k_in) in
        let top = levels.top i i_in in
        let j_in : level_of t.entries k < length t.levels = omega (arith, top, more) in
        let start = (levels.reached (level_of t.entries k) i j_in i_in).1 more in
        let again = (levels.reached (level_of t.entries k) k j_in k_in).0 (omega (arith, start, le)) in
        absurd (omega (arith, again))
  ]

-- a literal of the front of a trail is at a place before the front's end
pub front_at : (xs : List Entry) (n : ℕ) (l : Lit) → Contains (literals (take n xs)) l → (k : ℕ) × (k < n) × (k < length xs) × ((entry_at xs k).lit ≡ l)
front_at xs n l has =
    let at = literal_at (take n xs) l has in
    let short = length-take n xs in
    let within = at.0 in
    let front : has.0 < n = omega (arith, short, within) in
    (has.0, front, omega (arith, short, within), rw (get_or-take n xs has.0 no_entry front) at at.1)

-- a false literal's negation is at a place
pub false_at : (xs : List Entry) (clause : List Lit) → IsFalsified xs clause → (l : Lit) → Contains clause l → (k : ℕ) × (k < length xs) × ((entry_at xs k).lit ≡ negation l)
false_at xs clause falsified l has =
    let held = All-contains (λ (y : Lit). Contains (literals xs) (negation y)) clause l falsified has in
    let at = literal_at xs (negation l) held in
    (held.0, at.0, at.1)

-- a literal that became false at a level that meets P, by its place
pub since_at : (xs : List Entry) (P : ℕ → Type 0) (l : Lit) → IsFalseSince xs P l → (k : ℕ) × (k < length xs) × ((entry_at xs k).lit ≡ negation l) × P (level_of xs k)
since_at xs P l (k, e, within, at, (is, level)) =
    let here = read_entry xs k e within at in
    (k, within, ap (λ (y : Entry). y.lit) here ∙ is, subst (λ (y : Entry). P y.level) (sym here) level)

pub since_from : (xs : List Entry) (P : ℕ → Type 0) (k : ℕ) (l : Lit) → k < length xs → (entry_at xs k).lit ≡ negation l → P (level_of xs k) → IsFalseSince xs P l
since_from xs P k l within is level = (k, entry_at xs k, within, get_or_default xs k (entry_at xs k) no_entry within, (is, level))

-- the place of a variable that is assigned
pub assigned_at : (xs : List Entry) (k v : ℕ) → k < length xs → (entry_at xs k).lit.var ≡ v → IsAssigned xs v
assigned_at xs k v within same = (k, entry_at xs k, within, get_or_default xs k (entry_at xs k) no_entry within, same)

-- the variables of a false clause, and of a reason, are assigned
pub falsified_assigned : (xs : List Entry) (clause : List Lit) → IsFalsified xs clause → AreAssigned xs clause
falsified_assigned xs clause falsified = all_from (λ (l : Lit). IsAssigned xs l.var) clause (λ l has.
    let f = false_at xs clause falsified l has in
    assigned_at xs f.0 l.var f.1 (ap (λ (y : Lit). y.var) f.2))

pub reason_assigned : (t : Assigned) (db : List (List Lit)) → HasReasons t db → (p c : ℕ) → p < length t.entries → (entry_at t.entries p).reason ≡ Some c → AreAssigned t.entries (clause_at db c)
reason_assigned t db reasons p c within is = all_from (λ (l : Lit). IsAssigned t.entries l.var) (clause_at db c) (λ l has.
    let r = reasons.reasons p c within is in
    elim (All-contains (λ (y : Lit). (y ≡ (entry_at t.entries p).lit) ⊎ Contains (literals (take p t.entries)) (negation y)) (clause_at db c) l r.leaves.others_false has) [
      | inl same ↦ assigned_at t.entries p l.var within (ap (λ (y : Lit). y.var) (sym same))
      | inr held ↦ let f = front_at t.entries p (negation l) held in assigned_at t.entries f.0 l.var f.2 (ap (λ (y : Lit). y.var) f.3)
    ])

-- Where literals stand on a trail, and at which level.
use Rattle.std.proofs.Common.{◌≡◌, ◌∙◌, ap, sym, refl, ℕ, zero, suc, ◌<◌, ◌≤◌, ◌⊎◌, inl, inr, List, [], ◌∷◌, length, take, get_or, arith}
use Rattle.std.specs.List.{Contains}
use Rattle.std.proofs.lemmas.Bool.{cases_eq, cases_lt}
use Rattle.std.proofs.lemmas.List.{get_or_read, get_or-take, length-take-le}
use Rattle.clause_db.specs.declared.lit.Lit.{Lit}
use Rattle.clause_db.specs.Literals.{negation}
use Rattle.clause_db.proofs.LawLemmas.{negation_other}
use Rattle.propagate.specs.declared.entry.Entry.{Entry}
use Rattle.propagate.specs.declared.entry.Level.{Level}
use Rattle.propagate.specs.Trails.{Assigned, no_entry, entry_at, literals, start_of, up_to, IsTrail, AreLevels, IsAssigned, HasEntry}
use Rattle.propagate.specs.Watched.{IsTrueAt, IsTrueUpTo}
use Rattle.propagate.proofs.ClauseLemmas.{literal_at, literal_held}
use Rattle.propagate.proofs.WatchingLemmas.{cases_lit}
use Rattle.propagate.proofs.TrailLemmas.{shallow, up_to_start}

pub undone : (l : Lit) → negation (negation l) ≡ l
undone = negation_other.undone

pub negations_same : (k l : Lit) → negation k ≡ negation l → k ≡ l
negations_same k l same = sym (undone k) ∙ ap negation same ∙ undone l

-- a variable has one place
pub same_place : (t : Assigned) (j k : ℕ) → IsTrail t → j < length t.entries → k < length t.entries → (entry_at t.entries j).lit.var ≡ (entry_at t.entries k).lit.var → j ≡ k
same_place t j k trail a b same = elim (cases_lt j k) [
  | inl less ↦ absurd (trail.once j k no_entry less b same)
  | inr le ↦ elim (cases_eq j k) [
    | inl is ↦ is
    | inr differ ↦ absurd (trail.once k j no_entry (omega (arith, le, differ)) a (sym same))
  ]
]

pub same_literal : (t : Assigned) (j k : ℕ) (l : Lit) → IsTrail t → j < length t.entries → k < length t.entries → (entry_at t.entries j).lit ≡ l → (entry_at t.entries k).lit ≡ l → j ≡ k
same_literal t j k l trail a b first second = same_place t j k trail a b (ap (λ (x : Lit). x.var) (first ∙ sym second))

-- no literal stands there with its negation
pub not_both : (t : Assigned) (l : Lit) → IsTrail t → Contains (literals t.entries) l → Contains (literals t.entries) (negation l) → ⊥
not_both t l trail held denied =
    let a = literal_at t.entries l held in
    let b = literal_at t.entries (negation l) denied in
    let same = same_place t held.0 denied.0 trail a.0 b.0 (ap (λ (x : Lit). x.var) a.1 ∙ sym (ap (λ (x : Lit). x.var) b.1)) in
    negation_other.other l (sym b.1 ∙ ap (λ k. (entry_at t.entries k).lit) (sym same) ∙ a.1)

pub up_to_held : (es : List Entry) (m : ℕ) (l : Lit) → IsTrueUpTo es m l → Contains (literals es) l
up_to_held es m l (k, within, is, level) = literal_held es k l within is

-- a literal that is true is so since the present level or a lower one
pub up_to_top : (t : Assigned) (l : Lit) (m : ℕ) → IsTrail t → length t.levels ≤ m → Contains (literals t.entries) l → IsTrueUpTo t.entries m l
up_to_top t l m trail le held =
    let at = literal_at t.entries l held in
    let top = trail.levels.top held.0 at.0 in
    (held.0, at.0, at.1, omega (arith, top, le))

pub up_to_more : (es : List Entry) (m n : ℕ) (l : Lit) → m ≤ n → IsTrueUpTo es m l → IsTrueUpTo es n l
up_to_more es m n l le (k, within, is, level) = (k, within, is, omega (arith, level, le))

-- the variable of a literal that stands there is assigned
pub held_assigned : (es : List Entry) (l : Lit) (v : ℕ) → v ≡ l.var → Contains (literals es) l → IsAssigned es v
held_assigned es l v var has =
    let at = literal_at es l has in
    (has.0, entry_at es has.0, at.0, sym (get_or_read es has.0 (entry_at es has.0) at.0 (read es has.0 at.0) (entry_at es has.0)), ap (λ (x : Lit). x.var) at.1 ∙ sym var) where
      read : (xs : List Entry) (k : ℕ) → k < length xs → entry_at xs k ≡ get_or xs k (entry_at xs k)
      read [] k within = absurd (omega (arith, within))
      read (x ∷ xs) zero within = refl
      read (x ∷ xs) (suc k) within = read xs k (omega (arith, within))

-- the level that was found for a literal that stands there
pub held_at : (t : Assigned) (l : Lit) (v n : ℕ) → IsTrail t → v ≡ l.var → Contains (literals t.entries) l → HasEntry t.entries v (λ e. e.level ≡ n) → IsTrueAt t.entries l n
held_at t l v n trail var has (k, e, within, is, (at, level)) =
    let read : e ≡ entry_at t.entries k = get_or_read t.entries k e within (sym is) no_entry in
    let here = literal_at t.entries l has in
    let same = same_place t has.0 k trail here.0 within (ap (λ (x : Lit). x.var) here.1 ∙ sym var ∙ sym at ∙ ap (λ (x : Entry). x.lit.var) read) in
    (has.0, here.0, here.1, ap (λ j. (entry_at t.entries j).level) same ∙ ap (λ (x : Entry). x.level) (sym read) ∙ level)

pub at_up_to : (es : List Entry) (l : Lit) (n m : ℕ) → n ≤ m → IsTrueAt es l n → IsTrueUpTo es m l
at_up_to es l n m le (k, within, is, level) = (k, within, is, omega (arith, le, level))

pub up_to_level : (t : Assigned) (l : Lit) (n m : ℕ) → IsTrail t → IsTrueAt t.entries l n → IsTrueUpTo t.entries m l → n ≤ m
up_to_level t l n m trail (j, in_j, is_j, at) (k, in_k, is_k, below) =
    let same = same_literal t j k l trail in_j in_k is_j is_k in
    let levels = ap (λ i. (entry_at t.entries i).level) same in
    omega (arith, levels, at, below)

-- the literals that are true since a level are those of the entries up to it
module _ (es : List Entry) (ls : List Level) (m : ℕ) (op : m < length ls) (levels : AreLevels es ls) (l : Lit) where
  pub up_to_there : IsTrueUpTo es m l → Contains (literals (up_to m es)) l
  up_to_there (k, within, is, level) =
      let n = start_of ls m in
      let front : k < n = elim (cases_lt k n) [
        | inl less ↦ less
        | inr le ↦ let deep = (levels.reached m k op within).0 le in absurd (omega (arith, deep, level))
      ] in
      let most = levels.within m op in
      rw (up_to_start es ls m op levels) (literal_held (take n es) k l (omega (arith, front, length-take-le n es (omega (arith, most)))) (rw (get_or-take n es k no_entry front) is))

  pub up_to_here : Contains (literals (up_to m es)) l → IsTrueUpTo es m l
  up_to_here has =
      let n = start_of ls m in
      let most = levels.within m op in
      let few = length-take-le n es (omega (arith, most)) in
      let held : Contains (literals (take n es)) l = rw (up_to_start es ls m op levels) at has in
      let at = literal_at (take n es) l held in
      let front : held.0 < n = let within = at.0 in omega (arith, within, few) in
      (held.0, omega (arith, front, most), rw (get_or-take n es held.0 no_entry front) at at.1, shallow es ls m op levels held.0 front (omega (arith, front, most)))

-- a literal stands in a list or it doesn't
contains_first : (x : Lit) (xs : List Lit) (l : Lit) → Contains (x ∷ xs) l → (x ≡ l) ⊎ Contains xs l
contains_first x xs l (zero, within, at) = inl at
contains_first x xs l (suc k, within, at) = inr (k, omega (arith, within), at)

pub cases_contains : (xs : List Lit) (l : Lit) → Contains xs l ⊎ (Contains xs l → ⊥)
cases_contains [] l = inr (λ h. absurd (omega (arith, h.1)))
cases_contains (x ∷ xs) l = elim (cases_lit x l) [
  | inl same ↦ inl (0, omega arith, same)
  | inr differ ↦ elim (cases_contains xs l) [
    | inl has ↦ inl (suc has.0, let within = has.1 in omega (arith, within), has.2)
    | inr none ↦ inr (λ h. elim (contains_first x xs l h) [ inl here ↦ differ here | inr later ↦ none later ])
  ]
]

-- Why a watched literal that is false has a true companion since a level not above.
use Rattle.std.proofs.Common.{◌≡◌, ◌≢◌, ◌∙◌, ap, sym, subst, refl, ℕ, ◌+◌, ◌<◌, ◌≤◌, ◌⊎◌, inl, inr, List, [], length, arith, Some, None}
use Rattle.std.specs.List.{Contains}
use Rattle.std.proofs.lemmas.Bool.{cases_lt}
use Rattle.std.proofs.lemmas.List.{length_push}
use Rattle.std.proofs.lemmas.List.Elements.{All-contains, All-weaker}
use Rattle.hint_refutation.specs.Hints.{LeavesOnly}
use Rattle.hint_refutation.specs.Propagation.{IsSettled}
use Rattle.clause_db.specs.declared.lit.Lit.{Lit}
use Rattle.clause_db.specs.Literals.{negation}
use Rattle.clause_db.specs.Clauses.{clause_at}
use Rattle.propagate.specs.declared.entry.Entry.{Entry}
use Rattle.propagate.specs.declared.watch.Watch.{Watch}
use Rattle.propagate.specs.Watching.{AreWatchedOf, watch_at}
use Rattle.propagate.specs.Trails.{Assigned, entry_at, literals, up_to, IsTrail, IsUnassigned, followed}
use Rattle.propagate.specs.Watched.{AreGuarded, AreTwoOf, AreWatched, IsGuarded, IsTrueUpTo}
use Rattle.propagate.specs.Closed.{Closed}
use Rattle.propagate.specs.Best.{AreBest, AreFalseUpTo, IsBest}
use Rattle.propagate.specs.Visits.{IsAssignedIfUnit, IsNextFalse}
use Rattle.propagate.proofs.TrailLemmas.{new_entry}
use Rattle.propagate.proofs.ClauseLemmas.{literal_at, literal_held, unassigned_not_held}
use Rattle.propagate.proofs.PlaceLemmas.{negations_same, not_both, same_literal, up_to_held, up_to_here, up_to_there}
use Rattle.propagate.proofs.WatchedLemmas.{guard_fewer}
use Rattle.std.proofs.lemmas.Option.{same_Some}

-- a literal that isn't false needs no companion
pub guard_open : (es : List Entry) (n : ℕ) (l o : Lit) → n ≤ length es → (Contains (literals es) (negation l) → ⊥) → IsGuarded es n l o
guard_open es n l o le here k less is = absurd (here (literal_held es k (negation l) (omega (arith, less, le)) is))

pub guard_true : (t : Assigned) (n : ℕ) (l o : Lit) → IsTrail t → n ≤ length t.entries → Contains (literals t.entries) l → IsGuarded t.entries n l o
guard_true t n l o trail le held = guard_open t.entries n l o le (not_both t l trail held)

module _ (t : Assigned) (f : Lit) (trail : IsTrail t) (next : IsNextFalse t f) where
  -- the next literal to propagate says nothing of the other ones
  pub guard_next : (l o : Lit) → l ≢ f → IsGuarded t.entries t.propagated l o → IsGuarded t.entries (t.propagated + 1) l o
  guard_next l o other was k less is = elim (cases_lt k t.propagated) [
    | inl before ↦ was k before is
    | inr le ↦
        let here : k ≡ t.propagated = omega (arith, less, le) in
        absurd (other (negations_same l f (sym is ∙ ap (λ j. (entry_at t.entries j).lit) here ∙ next.is)))
  ]

  pub guard_here : (o : Lit) → IsTrueUpTo t.entries (entry_at t.entries t.propagated).level o → IsGuarded t.entries (t.propagated + 1) f o
  guard_here o since k less is =
      let more = next.more in
      let same = same_literal t k t.propagated (negation f) trail (omega (arith, less, more)) more is next.is in
      rw same since

  pub next_false : Contains (literals t.entries) (negation f)
  next_false = literal_held t.entries t.propagated (negation f) next.more next.is

  -- where a literal is guarded by f, which is false, it isn't false itself
  pub guard_beside : (l o : Lit) → l ≢ f → IsGuarded t.entries t.propagated l f → IsGuarded t.entries (t.propagated + 1) l o
  guard_beside l o other was k less is = elim (cases_lt k t.propagated) [
    | inl before ↦ absurd (not_both t f trail (up_to_held t.entries _ f (was k before is)) next_false)
    | inr le ↦
        let here : k ≡ t.propagated = omega (arith, less, le) in
        absurd (other (negations_same l f (sym is ∙ ap (λ j. (entry_at t.entries j).lit) here ∙ next.is)))
  ]

-- where all literals of a clause but one are false since a level below which nothing is left to propagate, and that one isn't
-- true since then, that level is the present one
module _ (t : Assigned) (db : List (List Lit)) (c m : ℕ) (o : Lit) (trail : IsTrail t) (closed : Closed t db) (held : c < length db) (rest : AreFalseUpTo t.entries m (clause_at db c) (Some o))
    (not_since : IsTrueUpTo t.entries m o → ⊥) where
  module _ (op : m < length t.levels) where
    one_false : (x : Lit) → Contains (clause_at db c) x → (o ≡ x) ⊎ IsTrueUpTo t.entries m (negation x)
    one_false x has = elim (All-contains (λ (y : Lit). (Some o ≡ Some y) ⊎ IsTrueUpTo t.entries m (negation y)) (clause_at db c) x rest has) [
      | inl is ↦ inl (same_Some _ _ is)
      | inr since ↦ inr since
    ]

    no_true : (x : Lit) → Contains (clause_at db c) x → Contains (literals (up_to m t.entries)) x → ⊥
    no_true x has true_here =
        let since = up_to_here t.entries t.levels m op trail.levels x true_here in
        elim (one_false x has) [
          | inl is ↦ not_since (rw is since)
          | inr false_here ↦ not_both t x trail (up_to_held t.entries m x since) (up_to_held t.entries m (negation x) false_here)
        ]

    is_that : (x : Lit) → Contains (clause_at db c) x → (Contains (literals (up_to m t.entries)) (negation x) → ⊥) → o ≡ x
    is_that x has open_here = elim (one_false x has) [
      | inl is ↦ is
      | inr since ↦ absurd (open_here (up_to_there t.entries t.levels m op trail.levels (negation x) since))
    ]

    never : IsSettled negation (literals (up_to m t.entries)) (clause_at db c) → ⊥
    never (inl (k, x, within, is, true_here)) = no_true x (k, within, is) true_here
    never (inr two) = two.differ (sym (is_that two.one two.has_one two.one_open) ∙ is_that two.other two.has_other two.other_open)

  pub present_level : length t.levels ≤ m
  present_level = elim (cases_lt m (length t.levels)) [
    | inl op ↦ absurd (never op (closed m op c [] held))
    | inr le ↦ le
  ]

-- a true literal, where the others are false since some level
pub since_true : (t : Assigned) (db : List (List Lit)) (c m : ℕ) (o : Lit) → IsTrail t → Closed t db → c < length db
    → Contains (literals t.entries) o → AreFalseUpTo t.entries m (clause_at db c) (Some o) → IsTrueUpTo t.entries m o
since_true t db c m o trail closed held is_true rest =
    let at = literal_at t.entries o is_true in
    let k = is_true.0 in
    elim (cases_lt m (entry_at t.entries k).level) [
      | inr le ↦ (k, at.0, at.1, le)
      | inl above ↦
          let late = present_level t db c m o trail closed held rest (λ since.
          let same = same_literal t since.0 k o trail since.1 at.0 since.2 at.1 in
          let level = since.3 in
          let levels = ap (λ j. (entry_at t.entries j).level) same in
          omega (arith, level, above, levels)) in
          let top = trail.levels.top k at.0 in
          absurd (omega (arith, late, top, above))
    ]

pub since_followed : (t : Assigned) (db : List (List Lit)) (c m : ℕ) (o : Lit) → IsTrail t → Closed t db → c < length db
    → IsUnassigned t.entries o.var → AreFalseUpTo t.entries m (clause_at db c) (Some o)
    → IsTrueUpTo (followed t o c).entries m o
since_followed t db c m o trail closed held free rest =
    let e : Entry = record { lit = o; level = length t.levels; reason = Some c } in
    let late = present_level t db c m o trail closed held rest (λ since. unassigned_not_held t.entries o o free refl (up_to_held t.entries m o since)) in
    let here = new_entry t.entries e (length t.entries) refl in
    (length t.entries, omega (arith, length_push t.entries e), ap (λ (x : Entry). x.lit) here, rw here late)

-- where the best literal beside one is false, all others are
pub best_leaves : (es : List Entry) (clause : List Lit) (l best : Lit) (k : ℕ) → Contains clause l → IsBest es clause (Some l) best
    → k < length es → (entry_at es k).lit ≡ negation best → LeavesOnly negation (literals es) clause l
best_leaves es clause l best k has is_best within is = record {
  has = has;
  others_false =
      All-weaker (λ (x : Lit). (Some l ≡ Some x) ⊎ IsTrueUpTo es (entry_at es k).level (negation x))
      (λ (x : Lit). (x ≡ l) ⊎ Contains (literals es) (negation x)) weaker clause (is_best.last k within is);
} where
  weaker : (x : Lit) → (Some l ≡ Some x) ⊎ IsTrueUpTo es (entry_at es k).level (negation x) → (x ≡ l) ⊎ Contains (literals es) (negation x)
  weaker x (inl same) = inl (sym (same_Some _ _ same))
  weaker x (inr since) = inr (up_to_held es _ (negation x) since)

-- the best two literals of a clause may be watched
pub two_best : (es : List Entry) (clause : List Lit) (p : Watch) → AreBest es clause p → AreTwoOf clause p
two_best es clause p best = record { differ = λ same. best.second.differs (ap (λ x. Some x) same); has_first = best.first.has; has_second = best.second.has }

pub guards_best : (t s : Assigned) (clause : List Lit) (p : Watch) (n : ℕ) → IsTrail s → n ≤ length s.entries
    → IsAssignedIfUnit t s p.first p.second → AreBest t.entries clause p → AreGuarded s.entries n p
guards_best t s clause p n trail le (inl (open_here, same)) best =
    let first_open : Contains (literals t.entries) (negation p.first) → ⊥ = λ first_false.
    let at = literal_at t.entries (negation p.first) first_false in
    elim (All-contains (λ (x : Lit). (None ≡ Some x) ⊎ IsTrueUpTo t.entries (entry_at t.entries first_false.0).level (negation x)) clause p.second (best.first.last first_false.0 at.0 at.1) best.second.has) [
      | inl is ↦ absurd (none_some is)
      | inr since ↦ open_here (up_to_held t.entries _ (negation p.second) since)
    ] in
    record {
      first = guard_open s.entries n p.first p.second le (subst (λ (x : Assigned). Contains (literals x.entries) (negation p.first) → ⊥) (sym same) first_open);
      second = guard_open s.entries n p.second p.first le (subst (λ (x : Assigned). Contains (literals x.entries) (negation p.second) → ⊥) (sym same) open_here);
    } where
      none_some : {x : Lit} → None ≡ Some x → ⊥
      none_some e = cc
guards_best t s clause p n trail le (inr (made, guarded)) best = record {
  first = guard_true s n p.first p.second trail le made;
  second = guard_fewer s.entries (length s.entries) n p.second p.first le guarded;
}

-- a clause that watches f, the next literal to become false, and another one
module _ (t : Assigned) (db : List (List Lit)) (c : ℕ) (f o : Lit) (trail : IsTrail t) (watched : AreWatched t db) (next : IsNextFalse t f) (both : AreWatchedOf t.watching c f o) where
  -- the other one is in the clause, and isn't f
  pub other_in : Contains (clause_at db c) o
  other_in = let two = watched.two c both.0 both.1 in elim both.2 [ inl at ↦ rw at.1 at two.has_second | inr at ↦ rw at.1 at two.has_first ]

  pub this_in : Contains (clause_at db c) f
  this_in = let two = watched.two c both.0 both.1 in elim both.2 [ inl at ↦ rw at.0 at two.has_first | inr at ↦ rw at.0 at two.has_second ]

  pub other_apart : o ≢ f
  other_apart same =
      let two = watched.two c both.0 both.1 in
      elim both.2 [ inl at ↦ two.differ (at.0 ∙ sym same ∙ sym at.1) | inr at ↦ two.differ (at.1 ∙ same ∙ sym at.0) ]

  pub rule_of_other : IsGuarded t.entries t.propagated o f
  rule_of_other =
      let rule = watched.rule c both.0 both.1 in
      elim both.2 [
        | inl at ↦ let r = rule.second in rw (at.0, at.1) at r
        | inr at ↦ let r = rule.first in rw (at.0, at.1) at r
      ]

  -- it stays there where the other one is true since a level not above
  pub guards_stay : IsTrueUpTo t.entries (entry_at t.entries t.propagated).level o → (p : Watch) → watch_at t.watching c ≡ Some p → AreGuarded t.entries (t.propagated + 1) p
  guards_stay since p is =
      let more = next.more in
      let same : both.0 ≡ p = same_Some _ _ (sym both.1 ∙ is) in
      let here : IsGuarded t.entries (t.propagated + 1) f o = guard_here t f trail next o since in
      let there : IsGuarded t.entries (t.propagated + 1) o f = guard_true t (t.propagated + 1) o f trail (omega (arith, more)) (up_to_held t.entries _ o since) in
      rw (← same) (elim both.2 [
        | inl at ↦ record { first = rw (at.0, at.1) here; second = rw (at.0, at.1) there }
        | inr at ↦ record { first = rw (at.0, at.1) there; second = rw (at.0, at.1) here }
      ])

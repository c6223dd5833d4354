use Rattle.std.proofs.Common.{◌≡◌, ◌∙◌, sym, ap, refl, ℕ, ◌+◌, ◌<◌, ◌↔◌, inl, inr, List, [], ◌∷◌, ◌++◌, length, Bool, false, Option, Some, None, arith}
use Rattle.std.specs.Prelude.{IfSome, IsNone, unwrap_or, slice_index_or, All}
use Rattle.std.proofs.lemmas.Bool.{cases_eq}
use Rattle.std.proofs.lemmas.List.{get_or_append_left, get_or_default, get_or_push, length_push}
use Rattle.propagate.specs.declared.entry.Entry.{Entry}
use Rattle.propagate.specs.Trails.{Assigned, HasEntry, IsTrail, IsUnassigned, entry_at, no_entry}
use Rattle.analyze.proofs.Order.{distinct}
use Rattle.mtl_encode.specs.Models.{value_at}
use Rattle.cdcl_core.proofs.assignment.values_of.Goals as goal
use Rattle.propagate.proofs.ClauseLemmas.{read_entry}

-- one more value, that of variable v
value_next : (t : Assigned) (values : List Bool) (v : ℕ) (o : Option Bool) → IsTrail t → length values ≡ v → All (λ e. e.lit.var < v → value_at values e.lit.var ≡ e.lit.positive) t.entries
    → (IsNone o ↔ IsUnassigned t.entries v) → IfSome o (λ b. HasEntry t.entries v (λ e. e.lit.positive ≡ b))
    → All (λ e. e.lit.var < v + 1 → value_at (values ++ unwrap_or o false ∷ []) e.lit.var ≡ e.lit.positive) t.entries
value_next t values v o trail count old none some k d within below =
    let e = slice_index_or t.entries k d in
    elim (cases_eq e.lit.var v) [
      | inr other ↦ get_or_append_left values (unwrap_or o false ∷ []) false e.lit.var (omega (arith, below, other, count)) ∙ old k d within (omega (arith, below, other))
      | inl is ↦ rw is (get_or_push values (unwrap_or o false) false v count ∙ given o none some is)
    ]
  where
    given : (p : Option Bool) → (IsNone p ↔ IsUnassigned t.entries v) → IfSome p (λ b. HasEntry t.entries v (λ e. e.lit.positive ≡ b)) → (slice_index_or t.entries k d).lit.var ≡ v
        → unwrap_or p false ≡ (slice_index_or t.entries k d).lit.positive
    given None free has is = absurd (free.0 refl k d within is)
    given (Some b) free (j, x, low, at, (var, sense)) is =
        let there = read_entry t.entries j x low at in
        let here = get_or_default t.entries k d no_entry within in
        let same : k ≡ j = distinct t trail k j within low (ap (λ (y : Entry). y.lit.var) (sym here) ∙ is ∙ sym (ap (λ (y : Entry). y.lit.var) there ∙ var)) in
        sym (ap (λ (y : Entry). y.lit.positive) here ∙ ap (λ i. (entry_at t.entries i).lit.positive) same ∙ ap (λ (y : Entry). y.lit.positive) there ∙ sense)

pub loop-v-preserved : goal.loop-v-preserved
loop-v-preserved c =
    let values = c.loop-v.values in
    let value = c.value-value.result in
    let count = c.loop-v.invariant.count in
    let none = rw c.new.ensures.number at c.value-value.ensures.unassigned in
    let some = rw c.new.ensures.number at c.value-value.ensures.value in
    let next = value_next c.args.trail.now values c.loop-v.v value c.requires.trail count c.loop-v.invariant.sense none some in
    let pushed : c.push.new.self ≡ values ++ unwrap_or value false ∷ [] = c.in_ok-push.ensures.ok ∙ ap (λ b. values ++ b ∷ []) c.unwrap_or.ensures in
    rw pushed (record { count = omega (arith, count, length_push values (unwrap_or value false)); sense = next })

use Rattle.std.proofs.Common.{◌≡◌, ◌≢◌, ℕ, ◌+◌, ◌<◌, ◌≤◌, List, false, length, take, slice_index_or, All, rules}
use Rattle.std.proofs.lemmas.List.{take_all, take_more}
use Rattle.std.proofs.lemmas.List.Quantifiers.{all_pairs_push}
use Rattle.clause_db.specs.declared.lit.Lit.{Lit}
use Rattle.clause_db.specs.Literals.{HasVarsOnce}
use Rattle.logic_table.proofs.clauses.has_vars_once.Goals as goal

abbrev no_lit : Lit
no_lit = record { var = 0; positive = false }

once_more : (lits : List Lit) (k v : ℕ) → k < length lits → v ≡ (slice_index_or lits k no_lit).var → HasVarsOnce (take k lits) → All (λ l. l.var ≢ v) (take k lits) → HasVarsOnce (take (k + 1) lits)
once_more lits k v within is before apart =
    rw (take_more lits k no_lit within) (all_pairs_push (λ (x y : Lit). x.var ≢ y.var) (take k lits) (slice_index_or lits k no_lit) before (λ i d less. rw (← is) (apart i d less)))

pub loop-place-preserved : goal.loop-place-preserved
loop-place-preserved c =
    let lits = c.args.lits.now in
    let k = c.loop-place.place in
    let within : k < length lits = search rules in
    let apart = c.is_without.ensures c.if-not-is_without.false in
    once_more lits k c.var.result within c.var.ensures.variable c.loop-place.invariant apart

pub returns : goal.returns
returns c = λ _.
    let end : length c.args.lits.now ≤ c.loop-place.place = search rules in
    rw (take_all c.loop-place.place c.args.lits.now end) at c.loop-place.invariant

use Rattle.std.proofs.Common.{◌≡◌, ◌∙◌, sym, ap, refl, ℕ, ◌+◌, ◌-◌, ◌<◌, ◌≤◌, List, [], ◌∷◌, ◌++◌, length, take, get_or, append-nil}
use Rattle.std.specs.List.{cons_option}
use Rattle.std.proofs.lemmas.Bool.{le-ltb, lt-ltb}
use Rattle.std.proofs.lemmas.List.{get_or_default, take_more}
use Rattle.std.proofs.lemmas.List.Elements.{filter_map-append}
use Rattle.clause_db.specs.declared.lit.Lit.{Lit}
use Rattle.clause_db.specs.Literals.{negation}
use Rattle.cdcl_core.specs.Walking.{denied_at, denied_in, lit_at}
use Rattle.cdcl_core.proofs.walk.denied.Goals as goal
use Rattle.cdcl_core.proofs.walk.denied.Goals.{else-place-base, then-place-base+in_ok-push}

module _ (base : ℕ) (orders : List Lit) (walk : List ℕ) (i p : ℕ) (within : i < length walk) (at : p ≡ get_or walk i p) where
  denied_next : denied_in base orders (take (i + 1) walk) ≡ denied_in base orders (take i walk) ++ cons_option (denied_at base orders p) []
  denied_next = ap (denied_in base orders) (take_more walk i p within ∙ ap (λ q. take i walk ++ q ∷ []) (sym at)) ∙ filter_map-append (denied_at base orders) (take i walk) (p ∷ [])

  -- the place of a bound adds nothing
  denied_same : p < base → denied_in base orders (take (i + 1) walk) ≡ denied_in base orders (take i walk)
  denied_same low = denied_next ∙ rw (lt-ltb p base low) (append-nil (denied_in base orders (take i walk)))

  -- the place of a literal adds its negation
  denied_more : base ≤ p → denied_in base orders (take (i + 1) walk) ≡ denied_in base orders (take i walk) ++ negation (lit_at orders (p - base)) ∷ []
  denied_more high = denied_next ∙ rw (le-ltb p base high) refl

pub loop-place-preserved : goal.loop-place-preserved
loop-place-preserved c =
    let base = c.args.base in
    let orders = c.args.orders.now in
    let walk = c.args.walk.now in
    let i = c.loop-place.place-index in
    let within : i < length walk = c.loop-place-test.true in
    let p = get_or walk i 0 in
    let at = get_or_default walk i 0 p within in
    elim c.if-place-base.branch [
      | then-place-base+in_ok-push w ↦
          rw w.lits-is
          (w.in_ok-push.ensures.items ∙ ap (λ l. c.loop-place.lits.items ++ l ∷ []) w.negated.ensures.other ∙ ap (λ ls. ls ++ negation (lit_at orders (p - base)) ∷ []) c.loop-place.invariant
          ∙ sym (denied_more base orders walk i p within at w.if-place-base.true))
      | else-place-base w ↦ rw w.lits-is (c.loop-place.invariant ∙ sym (denied_same base orders walk i p within at w.if-place-base.false))
    ]

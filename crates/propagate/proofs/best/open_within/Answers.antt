use Rattle.std.proofs.Common.{◌≡◌, inl, inr, arith, false}
use Rattle.std.proofs.lemmas.Bool.{cases_lt}
use Rattle.std.proofs.lemmas.List.{get_or_default}
use Rattle.std.proofs.lemmas.List.Elements.{Contains-get_or}
use Rattle.clause_db.specs.declared.lit.Lit.{Lit}
use Rattle.propagate.proofs.BestLemmas.{open_best}
use Rattle.propagate.proofs.best.open_within.Goals as goal

abbrev no_lit : Lit
no_lit = record { var = 0; positive = false }

pub returns-then-may_be_watched-clause-open : goal.returns-then-may_be_watched-clause-open
returns-then-may_be_watched-clause-open c =
    let open_here = c.may_be_watched.ensures.open c.if-may_be_watched.true in
    open_best c.args.trail.now.entries c.args.clause.now c.args.beside _
    (Contains-get_or c.args.clause.now c.loop-place.place no_lit (omega (arith, c.loop-place-test.true, c.requires.within))) open_here.0
    open_here.1

pub loop-place-preserved : goal.loop-place-preserved
loop-place-preserved c = λ k d from less. elim (cases_lt k c.loop-place.place) [
  | inl before ↦ c.loop-place.invariant k d from before
  | inr le ↦
      let here : k ≡ c.loop-place.place = omega (arith, less, le) in
      rw (here, get_or_default c.args.clause.now c.loop-place.place d no_lit (omega (arith, c.loop-place-test.true, c.requires.within))) (c.may_be_watched.ensures.closed c.if-may_be_watched.false)
]

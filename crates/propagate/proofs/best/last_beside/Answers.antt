use Rattle.std.proofs.Common.{◌≡◌, ◌≢◌, get_or, take, arith, Option, Some, None, false, rules}
use Rattle.std.specs.Prelude.{IfSome, IsNone}
use Rattle.std.proofs.lemmas.List.{take_all, take_more}
use Rattle.std.proofs.lemmas.List.Elements.{Contains-get_or}
use Rattle.propagate.specs.declared.best.Falsified.{Falsified}
use Rattle.propagate.proofs.BestLemmas.{open_best, seen_beside, seen_false}
use Rattle.propagate.proofs.best.last_beside.Goals as goal
use Rattle.propagate.proofs.best.last_beside.Goals.{then-ne+in-Some, else-ne}

if_none_at : (r : Option Falsified) (P : Type 0) → (IsNone r → P) → r ≡ None → P
if_none_at r P none is = let f = rw is at none in f (search rules)

if_some_at : (r : Option Falsified) (P : Falsified → Type 0) → IfSome r P → (f : Falsified) → r ≡ Some f → P f
if_some_at r P some f is = rw is at some

pub returns-in-None-clause-best : goal.returns-in-None-clause-best
returns-in-None-clause-best c =
    let has = Contains-get_or c.args.clause.now c.loop-lit.lit-index (record { var = 0; positive = false }) c.loop-lit-test.true in
    open_best c.args.trail.now.entries c.args.clause.now c.args.beside _ has (search rules) (search rules)

pub loop-lit-preserved : goal.loop-lit-preserved
loop-lit-preserved c =
    let i = c.loop-lit.lit-index in
    let clause = c.args.clause.now in
    let es = c.args.trail.now.entries in
    let x = get_or clause i (record { var = 0; positive = false }) in
    let more = take_more clause i (record { var = 0; positive = false }) c.loop-lit-test.true in
    elim c.if-ne.branch [
      | then-ne+in-Some w ↦
          let other : c.args.beside ≢ Some x = search rules in
          rw (w.last-is, more) (seen_false es (take i clause) x c.args.beside c.loop-lit.last w.in-Some.level w.later.result c.loop-lit.invariant other w.in-Some.ensures.level
          (if_none_at c.loop-lit.last _ w.later.ensures.only) (if_some_at c.loop-lit.last _ w.later.ensures.later))
      | else-ne w ↦
          let same : c.args.beside ≡ Some x = search rules in
          rw (w.last-is, more) (seen_beside es (take i clause) x c.args.beside c.loop-lit.last c.loop-lit.invariant same)
    ]

pub returns-in-None-last : goal.returns-in-None-last
returns-in-None-last c =
    let known = rw (c.in-None-last.is, take_all c.loop-lit.lit-index c.args.clause.now (omega arith)) at c.loop-lit.invariant in
    record { best = tt; none = λ _. known }

use Rattle.std.proofs.Common.{◌≡◌, ◌-◌, arith, length, take, drop}
use Rattle.std.specs.Prelude.{reverse}
use Rattle.std.proofs.lemmas.List.{length_push, take_rest}
use Rattle.std.proofs.lemmas.Result.{IfOk-weaker}
use Rattle.happened_before.specs.Cycles.{IsCausal}
use Rattle.happened_before.proofs.CycleLemmas.{path-cycle, path-push, path-short}
use Rattle.happened_before.proofs.cycle.cycle.Goals as goal

pub returns-in-Some : goal.returns-in-Some
returns-in-Some c =
    let path = c.back.path.items in
    let i = c.in-Some.i in
    let found = rw c.deref.ensures.value at c.in-Some.ensures in
    let made = rw c.deref-in-Some.ensures.value at c.reversed.ensures in
    record {
      cycle = IfOk-weaker c.reversed.result (λ walk. walk ≡ reverse (take (length path - i) (drop i path))) (IsCausal c.args.table.now)
          (λ walk is. rw (is, take_rest path i) (path-cycle c.args.table.now c.args.finished.now path c.back.here c.back.invariant i found.within found.found)) made;
    }

pub back-smaller : goal.back-smaller
back-smaller c =
    let new = rw c.deref.ensures.value at c.in_default.ensures.none in
    let short = path-short c.args.table.now c.args.finished.now c.back.path.items c.back.here c.back.invariant new in
    rw c.in_ok-push.ensures.items (omega (arith, short, length_push c.back.path.items c.new.result))

pub back-preserved : goal.back-preserved
back-preserved c =
    let new = rw c.deref.ensures.value at c.in_default.ensures.none in
    let next = c.awaited-here.ensures in
    rw (c.in_ok-push.ensures.items, c.new.ensures.number)
    (path-push c.args.table.now c.args.finished.now c.back.path.items c.back.here c.back.invariant new c.awaited-here.result next.cause next.within next.unfinished)

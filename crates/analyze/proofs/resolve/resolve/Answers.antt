use Rattle.std.proofs.Common.{◌≡◌, inl, inr, length, arith, reverse}
use Rattle.std.proofs.lemmas.Bool.{cases_lt, false≢true}
use Rattle.analyze.proofs.Marked.{below_popped}
use Rattle.analyze.proofs.Steps.{bottom, popped, popped_was}
use Rattle.analyze.proofs.resolve.resolve.Goals as goal

pub step-requires-clause-in_range : goal.step-requires-clause-in_range
step-requires-clause-in_range c =
    let inv = c.walk.invariant in
    let within = inv.within in
    let was = inv.below c.in-Some.next (popped_was c.in-Some.next c.walk.work.marked.keys c.pop_last.new.self.keys c.in-Some.ensures.removal) in
    omega (arith, was, within)

pub step-requires-clause-below : goal.step-requires-clause-below
step-requires-clause-below c = below_popped c.in-Some.next c.pop_last.new.self.keys c.in-Some.ensures.all_below

pub walk-smaller : goal.walk-smaller
walk-smaller c = c.walk.invariant.below c.in-Some.next (popped_was c.in-Some.next c.walk.work.marked.keys c.pop_last.new.self.keys c.in-Some.ensures.removal)

pub walk-preserved : goal.walk-preserved
walk-preserved c =
    let below = below_popped c.in-Some.next c.pop_last.new.self.keys c.in-Some.ensures.all_below in
    c.in_ok-step.ensures.work c.args.conflict
    (popped c.args.trail.now c.args.db.now c.args.conflict c.walk.place c.in-Some.next c.walk.work.marked.keys c.pop_last.new.self.keys c.walk.work.aside.items
    (reverse c.walk.work.hints.items) c.in-Some.ensures.removal below c.walk.invariant)

pub returns : goal.returns
returns c =
    let marked = c.walk.work.marked.keys in
    let variant = rw c.in_default.is at c.pop_last.ensures.variant in
    let unchanged = rw c.in_default.is at c.pop_last.ensures.unchanged in
    let none : length marked ≡ 0 = elim (cases_lt 0 (length marked)) [ inl some ↦ absurd (false≢true (variant.1 some)) | inr least ↦ omega (arith, least) ] in
    record { work = rw unchanged (bottom c.args.trail.now c.args.db.now c.args.conflict c.walk.place marked c.walk.work.aside.items (reverse c.walk.work.hints.items) none c.walk.invariant) }

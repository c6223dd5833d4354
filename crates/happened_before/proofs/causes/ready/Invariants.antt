use Rattle.std.proofs.Common.{◌≡◌, ℕ, ◌<◌, false}
use Rattle.happened_before.specs.Causes.{Waits, is_finished}
use Rattle.happened_before.proofs.causes.ready.Given as goal

-- the events so far are finished or wait
abbrev pub invariant-loop-e : goal.invariant-loop-e
invariant-loop-e l = (d : ℕ) → d < l.e → is_finished l.finished d ≡ false → Waits l.table l.finished d

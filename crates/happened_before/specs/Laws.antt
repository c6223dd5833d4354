-- Laws about vector clocks.
use Rattle.std.specs.Prelude.{◌↔◌, ℕ, ◌<◌, ◌≤◌, List, length, slice_index}
use Rattle.mt_model.specs.Log.{Logged, IsLog}
use Rattle.mt_model.specs.Timing.{host_of}
use Rattle.happened_before.specs.Order.{IsClock, IsInPast}

-- with c the clock of event e and d that of event f: e is f or happens before it exactly where e's own number, at e's host, is at most f's number there
abbrev pub ClocksTellOrder : Type 0
ClocksTellOrder = (log : Logged) (e f : ℕ) (c d : List ℕ) → IsLog log → e < length log.rows → IsClock log e c → IsClock log f d
    → (slice_index c (host_of log e) ≤ slice_index d (host_of log e)) ↔ IsInPast log e f

-- Vector clocks, and the order of events that they tell (Fidge, Timestamps in message-passing systems that preserve the
-- partial ordering, 1988; Mattern, Virtual time and global states of distributed systems, 1989).
use Rattle.std.specs.Prelude.{◌≡◌, ◌≢◌, ◌⊎◌, ◌↔◌, ℕ, ◌-◌, ◌<◌, ◌==◌, ◌&&◌, Bool, IsTrue, List, [], length, map, All, AllPairs, count_by, slice_index, slice_index_or}
use Rattle.std.specs.List.{AllAdjacentBelow, range_with_len}
use Rattle.mt_model.specs.Before.{Before, IsDirectlyBefore}
use Rattle.mt_model.specs.Log.{Logged}
use Rattle.mt_model.specs.Timing.{host_of}
use Rattle.happened_before.specs.declared.order.OrderFault.{OrderFault}
use Rattle.happened_before.specs.declared.order.OrderFault.TheVariants.{Cycle, Memory}

-- an order: for each event its host and its clock
pub record Ordered : Type 0 where
  pub hosts : List ℕ
  pub clocks : List (List ℕ)

-- there is a host for each clock, and each clock has a number for each of these hosts
pub record CoversHosts (hosts : List ℕ) (clocks : List (List ℕ)) : Type 0 where
  pub count : length hosts ≡ length clocks
  pub numbers : (e f : ℕ) → e < length hosts → f < length clocks → slice_index hosts e < length (slice_index_or clocks f [])

-- how many events there are
abbrev pub event_count : Ordered → ℕ
event_count order = length order.clocks

-- the clock of event e
abbrev pub clock_of : Ordered → ℕ → List ℕ
clock_of order e = slice_index_or order.clocks e []

-- row r is in the past of row e: it is e, or happens before e
abbrev pub IsInPast : Logged → ℕ → ℕ → Type 0
IsInPast log r e = (r ≡ e) ⊎ Before log r e

-- the clock of event e: for each host, how many of its rows are e or happen before e
pub record IsClock (log : Logged) (e : ℕ) (clock : List ℕ) : Type 0 where
  -- a test that tells the rows in the past of e
  pub past : ℕ → Bool
  pub told : (r : ℕ) → r < length log.rows → IsTrue (past r) ↔ IsInPast log r e
  pub hosts : length clock ≡ length log.hosts
  pub number : (h : ℕ) → h < length log.hosts → slice_index clock h ≡ count_by (λ r. past r && (host_of log r == h)) (range_with_len 0 (length log.rows))

-- no event happens before itself
abbrev pub IsAcyclic : Logged → Type 0
IsAcyclic log = (e : ℕ) → Before log e e → ⊥

-- some event happens before itself
abbrev pub IsCyclic : Logged → Type 0
IsCyclic log = (e : ℕ) × Before log e e

-- the order is that of the log's events: none happens before itself, and each has its host and its clock
pub record IsOrderOf (log : Logged) (order : Ordered) : Type 0 where
  pub acyclic : IsAcyclic log
  pub events : event_count order ≡ length log.rows
  pub hosts : order.hosts ≡ map (λ r. r.host) log.rows
  pub clocks : (e : ℕ) → e < length log.rows → IsClock log e (clock_of order e)

-- events of the log, one at least and none twice, each directly before the next and the last directly before the first
pub record IsCycle (log : Logged) (events : List ℕ) : Type 0 where
  pub some : 0 < length events
  pub within : All (λ e. e < length log.rows) events
  pub once : AllPairs (λ e f. e ≢ f) events
  pub next : AllAdjacentBelow (IsDirectlyBefore log) events (length events)
  pub closed : IsDirectlyBefore log (slice_index events (length events - 1)) (slice_index events 0)

-- the fact holds of the events, if the fault is a cycle
abbrev pub IfCycle : OrderFault → (List ℕ → Type 0) → Type 0
IfCycle (Cycle events) P = P events
IfCycle Memory P = Unit {0}

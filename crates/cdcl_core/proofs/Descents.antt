-- How a descent keeps a run.
use Rattle.std.proofs.Common.{◌≡◌, ap, refl, ℕ, ◌+◌, ◌<◌, ◌≤◌, List, length, Option, None, arith}
use Rattle.std.proofs.lemmas.List.{get_or_push, length_push}
use Rattle.neg_cycle.specs.declared.system.Edge.{Edge}
use Rattle.difference_graph.specs.Graphs.{Constraints}
use Rattle.clause_db.specs.declared.lit.Lit.{Lit}
use Rattle.propagate.specs.declared.entry.Entry.{Entry}
use Rattle.propagate.specs.Trails.{Assigned, IsTrail, IsUnassigned, decided, no_entry}
use Rattle.propagate.specs.Reach.{IsLast}
use Rattle.propagate.specs.Closed.{Closed, ClosedAt}
use Rattle.propagate.specs.Steps.{HasRoomFor, InStep}
use Rattle.propagate.proofs.LawLemmas.{room_for_all}
use Rattle.propagate.proofs.TrailLemmas.{few_literals, trail_decided}
use Rattle.cdcl_core.specs.Running.{IsRun, IsRunning}

module _ (many : ℕ) (db : List (List Lit)) (links : List (Option (Edge × Edge))) (t : Assigned) (g : Constraints) (running : IsRunning many db links t g) where
  fits : length running.base + t.vars ≤ g.capacity
  fits = let vars = running.vars in let room = running.room in omega (arith, vars, room)

  -- what propagation asks for
  pub running_room : HasRoomFor t links g
  running_room = room_for_all.each t db links running.base g running.run.trail running.run.step fits

  -- and a decision
  pub running_next : (v : ℕ) → v < many → IsUnassigned t.entries v → length g.edges < g.capacity
  running_next v low free = room_for_all.next t db links running.base g v running.run.trail running.run.step fits (let vars = running.vars in omega (arith, low, vars)) free

-- propagation keeps a run
pub run_grown : (db : List (List Lit)) (links : List (Option (Edge × Edge))) (base : List Edge) (t u : Assigned) (g h : Constraints) → IsTrail u → (Closed t db → Closed u db)
    → ((b : List Edge) → InStep t db links b g → InStep u db links b h) → IsRun db links base t g → IsRun db links base u h
run_grown db links base t u g h trail closed step run = record { trail = trail; step = step base run.step; closed = closed run.closed }

-- so does a decision, where nothing was left to propagate
pub run_decided : (db : List (List Lit)) (links : List (Option (Edge × Edge))) (base : List Edge) (t u : Assigned) (g h : Constraints) → IsTrail u
    → ((d : List (List Lit)) → Closed t d → ClosedAt t d (length t.levels) → Closed u d) → ClosedAt t db (length t.levels)
    → ((d : List (List Lit)) (b : List Edge) → InStep t d links b g → InStep u d links b h) → IsRun db links base t g → IsRun db links base u h
run_decided db links base t u g h trail closed here step run = record { trail = trail; step = step db base run.step; closed = closed db run.closed here }

-- what is decided is the last literal of its trail
pub last_decided : (t : Assigned) (lit : Lit) (mark : ℕ) → IsLast (decided t lit mark) lit
last_decided t lit mark =
    let e : Entry = record { lit = lit; level = length t.levels + 1; reason = None } in
    record { place = length t.entries; is_last = length_push t.entries e; is = ap (λ (x : Entry). x.lit) (get_or_push t.entries e no_entry (length t.entries) refl) }

-- a decision leaves fewer variables unassigned
pub decided_fewer : (t : Assigned) (lit : Lit) (mark : ℕ) → IsTrail t → lit.var < t.vars → IsUnassigned t.entries lit.var
    → (length (decided t lit mark).entries ≡ length t.entries + 1) × (length t.entries < t.vars)
decided_fewer t lit mark trail low free =
    let few = few_literals (decided t lit mark) (trail_decided t lit mark trail low free) in
    let longer = length_push t.entries (record { lit = lit; level = length t.levels + 1; reason = None }) in
    (longer, omega (arith, few, longer))

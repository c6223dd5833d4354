-- What a push works on: its room, and the numbers that it lowered.
use Rattle.std.specs.Prelude.{◌≡◌, ◌≢◌, ◌⊎◌, ℕ, ◌<◌, ◌≤◌, List, length, slice_index, vec_capacity, ℤ}
use Rattle.std.specs.BinaryHeap.{heap_capacity}
use Rattle.neg_cycle.specs.declared.system.Edge.{Edge}
use Rattle.neg_cycle.specs.Systems.{Meets, edge_at, number_of}
use Rattle.difference_graph.specs.declared.waiting.Missed.{Missed}
use Rattle.difference_graph.specs.declared.work.Work.{Work}
use Rattle.difference_graph.specs.Repairs.{Begins, LeadsOn}

-- room for a push over so many nodes and edges
pub record HasWorkRoom (nodes edges : ℕ) (work : Work) : Type 0 where
  pub waiting : edges ≤ heap_capacity work.waiting
  pub order : nodes ≤ vec_capacity work.order
  pub former : nodes ≤ vec_capacity work.former
  pub walk : nodes < vec_capacity work.walk

-- there is as much room as before
pub record KeepsRoom (old new : Work) : Type 0 where
  pub waiting : heap_capacity old.waiting ≤ heap_capacity new.waiting
  pub order : vec_capacity old.order ≤ vec_capacity new.order
  pub former : vec_capacity old.former ≤ vec_capacity new.former
  pub walk : vec_capacity old.walk ≤ vec_capacity new.walk

-- the numbers meet all edges before the place
abbrev pub MeetsFirst : List Edge → ℕ → List ℤ → Type 0
MeetsFirst edges place numbers = (q : ℕ) → q < place → Meets numbers (edge_at edges q)

-- the edge does not begin at the end, and it leads on over the edges at these places
pub record IsAsked (edges : List Edge) (end : ℕ) (places : List ℕ) (w : Missed) : Type 0 where
  pub apart : (edge_at edges w.place).from ≢ end
  pub leads : LeadsOn edges end places (edge_at edges w.place).to

-- what the numbers were of the nodes where the edges at these places begin
pub record AreFormer (edges : List Edge) (places : List ℕ) (old former : List ℤ) : Type 0 where
  pub count : length former ≡ length places
  pub is : (j : ℕ) → j < length places → number_of former j ≡ number_of old (edge_at edges (slice_index places j)).from

-- only the numbers of the nodes differ where the edges at these places begin
pub record DiffersAt (edges : List Edge) (places : List ℕ) (old new : List ℤ) : Type 0 where
  pub count : length new ≡ length old
  pub each : (v : ℕ) → (number_of new v ≡ number_of old v) ⊎ Begins edges places v

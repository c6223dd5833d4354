-- Difference constraints that are held one after another, with numbers that meet them all.
use Rattle.std.specs.Prelude.{◌≡◌, ℕ, ◌^◌, ◌<◌, ◌≤◌, List, length, map, All, vec_capacity, ℤ, pos, ◌-ℤ◌}
use Rattle.neg_cycle.specs.declared.system.Edge.{Edge}
use Rattle.neg_cycle.specs.declared.system.TheConstants.{MAX_NODES, MAX_EDGES}
use Rattle.neg_cycle.specs.Systems.{IsEdge, IsWithin, IsSystem, IsPotential, Meets, number_of}
use Rattle.difference_graph.specs.Gaps.{IsNumber}
use Rattle.difference_graph.specs.Incoming.{AreIncoming}
use Rattle.difference_graph.specs.Work.{HasWorkRoom}
use Rattle.difference_graph.specs.declared.held.Held.{Held}
use Rattle.difference_graph.specs.declared.work.Work.{Work}
use Rattle.difference_graph.specs.declared.push.Push.{Push}
use Rattle.difference_graph.specs.declared.push.Push.TheVariants.{Kept, Cycle}

-- how many nodes there are, how many edges there is room for, the held edges, a number for each node, and the places of
-- the walk that the last refused edge closed
pub record Constraints : Type 0 where
  pub nodes : ℕ
  pub capacity : ℕ
  pub edges : List Edge
  pub numbers : List ℤ
  pub cycle : List ℕ

-- the nodes and the room are as before
pub record HasSameLimits (old new : Constraints) : Type 0 where
  pub nodes : new.nodes ≡ old.nodes
  pub capacity : new.capacity ≡ old.capacity

-- some numbers meet every edge
pub record HasSolution (nodes : ℕ) (edges : List Edge) : Type 0 where
  pub numbers : List ℤ
  pub potential : IsPotential nodes edges numbers

-- the held edges are within the limits and the room, and the numbers meet them all, node 0 having 0
pub record IsSolved (g : Constraints) : Type 0 where
  pub some_node : 0 < g.nodes
  pub system : IsSystem g.nodes g.edges
  pub room : length g.edges ≤ g.capacity
  pub potential : IsPotential g.nodes g.edges g.numbers
  pub first : number_of g.numbers 0 ≡ pos 0

-- no number's magnitude is above 2^112
abbrev pub AreSmall : List ℤ → Type 0
AreSmall numbers = All (IsWithin (pos (2 ^ 112))) numbers

-- the fact holds, if the edge is kept
abbrev pub IfKept : Push → Type 0 → Type 0
IfKept Kept P = P
IfKept Cycle P = Unit {0}

-- the fact holds, if the edge is refused
abbrev pub IfRefused : Push → Type 0 → Type 0
IfRefused Kept P = Unit {0}
IfRefused Cycle P = P

-- each number less that of node 0
abbrev pub less_the_first : List ℤ → List ℤ
less_the_first numbers = map (λ x. x -ℤ number_of numbers 0) numbers

-- edges within the limits, and numbers that meet them all, each at most 0
pub record IsGraph (held : List Edge) (limit : ℕ) (current : List ℤ) : Type 0 where
  pub some_node : 0 < length current
  pub few_nodes : length current ≤ MAX_NODES
  pub few_edges : limit ≤ MAX_EDGES
  pub within : length held ≤ limit
  pub each : All (IsEdge (length current)) held
  pub met : All (Meets current) held
  pub numbers : All IsNumber current

-- the held edges are found by their ends, and there is room for so many edges and for the work of a push over so many nodes
pub record HasRoom (nodes limit : ℕ) (held : Held) (work : Work) : Type 0 where
  pub incoming : AreIncoming held.edges.items held.last.items held.before.items
  pub ends : length held.last.items ≡ nodes
  pub edges : limit ≤ vec_capacity held.edges
  pub before : limit ≤ vec_capacity held.before
  pub repair : HasWorkRoom nodes limit work

-- Numbers that are lowered from a solution of the held edges until they meet one more edge, which ends at a node that
-- keeps its number.
use Rattle.std.specs.Prelude.{◌≡◌, ◌≢◌, ◌⊎◌, ℕ, ◌^◌, ◌<◌, List, ◌∷◌, length, take, slice_index, All, Any, Contains, ℤ, pos, ◌+ℤ◌, ◌-ℤ◌, ◌≤ℤ◌, ◌<ℤ◌}
use Rattle.neg_cycle.specs.declared.system.Edge.{Edge}
use Rattle.neg_cycle.specs.Systems.{VisitsOnce, Meets, edge_at, number_of, LeadsTo}

-- how far the numbers are from missing the edge; below 0 they miss it
abbrev pub slack : List ℤ → Edge → ℤ
slack numbers e = e.bound -ℤ (number_of numbers e.from -ℤ number_of numbers e.to)

-- no edge has less slack than that at the place
pub record IsTightest (edges : List Edge) (numbers : List ℤ) (place : ℕ) : Type 0 where
  pub within : place < length edges
  pub least : (q : ℕ) → q < length edges → slack numbers (edge_at edges place) ≤ℤ slack numbers (edge_at edges q)

-- one of the edges at these places begins at the node
abbrev pub Begins : List Edge → List ℕ → ℕ → Type 0
Begins edges places node = Any (λ p. (edge_at edges p).from ≡ node) places

-- no edge at these places begins at the node
abbrev pub BeginsNone : List Edge → List ℕ → ℕ → Type 0
BeginsNone edges places node = All (λ p. (edge_at edges p).from ≢ node) places

-- the node is the end, or one of the edges at these places begins there
abbrev pub LeadsOn : List Edge → ℕ → List ℕ → ℕ → Type 0
LeadsOn edges end places node = (node ≡ end) ⊎ Begins edges places node

-- the edges at these places begin at different nodes, none at the end, and each leads to the end or to where an edge before it begins
pub record IsTree (edges : List Edge) (end : ℕ) (places : List ℕ) : Type 0 where
  pub within : All (λ p. p < length edges) places
  pub once : VisitsOnce edges places
  pub apart : BeginsNone edges places end
  pub leads : (j : ℕ) → j < length places → LeadsOn edges end (take j places) (edge_at edges (slice_index places j)).to

-- a walk over the edge at a place and then over edges of the tree, which ends where it begins and visits no node twice
pub record IsTrace (edges : List Edge) (places : List ℕ) (place : ℕ) (walk : List ℕ) : Type 0 where
  pub rest : List ℕ
  pub is : walk ≡ place ∷ rest
  pub leads : LeadsTo edges (edge_at edges place).to rest (edge_at edges place).from
  pub once : VisitsOnce edges walk
  pub among : All (λ p. Contains places p) rest

-- the node has a lower number than at first, an edge at one of the places begins there, and no edge is missed by more
-- than the node was lowered
pub record IsLowered (edges : List Edge) (old new : List ℤ) (places : List ℕ) (v : ℕ) : Type 0 where
  pub below : number_of new v <ℤ number_of old v
  pub begins : Begins edges places v
  pub most : (q : ℕ) → q < length edges → pos 0 ≤ℤ (slack new (edge_at edges q) +ℤ (number_of old v -ℤ number_of new v))

-- the numbers of the nodes where the edges at these places begin, and only these, were lowered; each of these edges is
-- just met or missed, and every other edge that begins there is met
pub record IsRepair (edges : List Edge) (end : ℕ) (old new : List ℤ) (places : List ℕ) : Type 0 where
  pub count : length new ≡ length old
  pub kept : number_of new end ≡ number_of old end
  pub tree : IsTree edges end places
  pub below : All (λ p. number_of new (edge_at edges p).from <ℤ number_of old (edge_at edges p).from) places
  pub tight : All (λ p. slack new (edge_at edges p) ≤ℤ pos 0) places
  pub met : (q : ℕ) → q < length edges → number_of new (edge_at edges q).from <ℤ number_of old (edge_at edges q).from → pos 0 ≤ℤ slack new (edge_at edges q)
  pub each : (v : ℕ) → (number_of new v ≡ number_of old v) ⊎ IsLowered edges old new places v
  pub near : (q : ℕ) → q < length edges → pos 0 ≤ℤ (slack new (edge_at edges q) +ℤ pos (2 ^ 114))
  pub floor : (v : ℕ) → number_of old v ≤ℤ (number_of new v +ℤ pos (2 ^ 114))

-- the numbers meet each edge that does not lead to the end
abbrev pub MeetsOthers : List Edge → ℕ → List ℤ → Type 0
MeetsOthers edges end numbers = (q : ℕ) → q < length edges → (edge_at edges q).to ≢ end → Meets numbers (edge_at edges q)

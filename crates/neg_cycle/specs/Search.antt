-- What the search keeps: for each node a walk to it that visits no node twice, and the negated sum of that walk.
use Rattle.std.specs.Prelude.{◌≡◌, ℕ, ◌+◌, ◌-◌, ◌^◌, ◌<◌, ◌≤◌, List, [], ◌∷◌, length, map, take, slice_index_or, slice_index, All, ℤ, pos, negsuc, ◌+ℤ◌, ◌≤ℤ◌, eqb, sum_by}
use Rattle.std.specs.List.{IsDistinct}
use Rattle.neg_cycle.specs.declared.system.Edge.{Edge}
use Rattle.neg_cycle.specs.declared.search.Walk.{Walk}
use Rattle.neg_cycle.specs.declared.search.Labels.{Labels}
use Rattle.neg_cycle.specs.declared.search.Progress.{Progress}
use Rattle.neg_cycle.specs.declared.search.Progress.TheVariants as progress
use Rattle.neg_cycle.specs.Systems.{edge_at, LeadsTo, sum_of_bounds, IsNegativeCycle, VisitsOnce, number_of, Meets}

-- the nodes that a walk from node a visits
abbrev pub nodes_of : List Edge → ℕ → List ℕ → List ℕ
nodes_of edges a places = a ∷ map (λ p. (edge_at edges p).to) places

-- the nodes that a walk of the search visits
abbrev pub visited : List Edge → Walk → List ℕ
visited edges w = nodes_of edges w.start w.places.items

-- a walk from node a to node b that visits no node twice
pub record IsTrail (nodes : ℕ) (edges : List Edge) (a : ℕ) (places : List ℕ) (b : ℕ) : Type 0 where
  pub start : a < nodes
  pub walk : LeadsTo edges a places b
  pub simple : IsDistinct eqb (nodes_of edges a places)

-- a walk from node a gives no node on the way more than its number
abbrev pub Covers : List Edge → List ℤ → ℕ → List ℕ → Type 0
Covers edges numbers a places = (i : ℕ) → i ≤ length places → pos 0 ≤ℤ (number_of numbers (slice_index (nodes_of edges a places) i) +ℤ sum_of_bounds edges (take i places))

-- a walk from node a to node v that visits no node twice and gives v its number, and no node on the way more than its own
pub record IsBest (edges : List Edge) (numbers : List ℤ) (v a : ℕ) (places : List ℕ) : Type 0 where
  pub trail : IsTrail (length numbers) edges a places v
  pub number : number_of numbers v +ℤ sum_of_bounds edges places ≡ pos 0
  pub covered : Covers edges numbers a places

-- each node has a number of at least 0, and a walk that gives it this number
pub record IsSearch (edges : List Edge) (numbers : List ℤ) (walks : List Walk) : Type 0 where
  pub count : length walks ≡ length numbers
  pub least : (v : ℕ) → v < length numbers → pos 0 ≤ℤ number_of numbers v
  pub best : (v : ℕ) (d : Walk) → v < length numbers → IsBest edges numbers v (slice_index_or walks v d).start (slice_index_or walks v d).places.items

-- these labels hold of a system's edges
abbrev pub AreLabels : List Edge → Labels → Type 0
AreLabels edges labels = IsSearch edges labels.numbers.items labels.walks.items

-- how many nodes have labels
abbrev pub node_count : Labels → ℕ
node_count labels = length labels.numbers.items

-- so many nodes, each with the number 0 and the walk without an edge
pub record IsBeginning (nodes : ℕ) (numbers : List ℤ) (walks : List Walk) : Type 0 where
  pub numbers_count : length numbers ≡ nodes
  pub walks_count : length walks ≡ nodes
  pub zero_number : (v : ℕ) → v < nodes → number_of numbers v ≡ pos 0
  pub own_start : (v : ℕ) (d : Walk) → v < nodes → (slice_index_or walks v d).start ≡ v
  pub no_places : (v : ℕ) (d : Walk) → v < nodes → (slice_index_or walks v d).places.items ≡ []

-- how far a number is below 2 ^ 111
abbrev pub gap : ℤ → ℕ
gap (pos n) = 2 ^ 111 - n
gap (negsuc n) = 2 ^ 111 + n + 1

-- how far the numbers can still rise
abbrev pub room : List ℤ → ℕ
room numbers = sum_by gap numbers

-- a closed walk of negative sum that visits no node twice
pub record IsRefutation (edges : List Edge) (places : List ℕ) : Type 0 where
  pub negative : IsNegativeCycle edges places
  pub once : VisitsOnce edges places

-- what an edge did to the labels
abbrev pub IsRelaxed : Edge → List Edge → Labels → Labels → Progress → Type 0
IsRelaxed e edges old new progress.Kept = (new.numbers.items ≡ old.numbers.items) × Meets new.numbers.items e
IsRelaxed e edges old new progress.Raised = room new.numbers.items < room old.numbers.items
IsRelaxed e edges old new (progress.Refuted places) = IsRefutation edges places.items

-- what a pass over all edges did to the labels
abbrev pub IsPassed : List Edge → Labels → Labels → Progress → Type 0
IsPassed edges old new progress.Kept = All (Meets new.numbers.items) edges
IsPassed edges old new progress.Raised = room new.numbers.items < room old.numbers.items
IsPassed edges old new (progress.Refuted places) = IsRefutation edges places.items

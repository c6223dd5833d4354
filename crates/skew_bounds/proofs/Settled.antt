-- What a solution of the edges of a log's bounds means for the log, and what a negative cycle of them means.
use Rattle.std.proofs.Common.{◌≡◌, ◌∙◌, sym, ap, refl, arith, ℕ, zero, suc, ◌+◌, ◌<◌, List, [], ◌∷◌, length, map, take, drop, Some, All, ℤ, pos, ◌+ℤ◌, ◌-ℤ◌}
use Rattle.std.specs.Prelude.{IfSome, option_map, slice_index_or}
use Rattle.std.proofs.lemmas.Int.{ints}
use Rattle.std.proofs.lemmas.List.{get_or-map, get_or-take, length-drop, length-map, length-take-le, take-append-drop, take-map}
use Rattle.std.proofs.lemmas.List.Elements.{All-nil, All-cons, All-head, All-tail}
use Rattle.neg_cycle.specs.declared.system.Edge.{Edge as SystemEdge}
use Rattle.neg_cycle.specs.Systems as system
use Rattle.mt_model.proofs.BoundLists.{step_of-is_bound}
use Rattle.mt_model.specs.declared.bound.Bound.{Bound}
use Rattle.mt_model.specs.declared.step.Step.{Step}
use Rattle.mt_model.specs.Bounds.{BoundsAreAdmissible, bounds_of, step_of}
use Rattle.mt_model.specs.Laws.{IsBound}
use Rattle.mt_model.specs.Log.{IsLog, Logged}
use Rattle.mt_model.specs.Timing.{Admissible}
use Rattle.mt_model.specs.Walks.{Edge, HasEdges, IsClosedWalk, LeadsTo, Meets, edge_of, node_time, node_count_of, sum_of_bounds}
use Rattle.skew_bounds.proofs.BoundCounts.{few-bounds}
use Rattle.skew_bounds.specs.Edges.{AreEdges, bound_at, edge_in}
use Rattle.skew_bounds.specs.RowTimes.{times_of}
use Rattle.skew_bounds.specs.Consistency.{IsConflict, VisitsOnce, start_of}

pub tail-same : {A B C : Type 0} (f : A → C) (g : B → C) (x : A) (xs : List A) (y : B) (ys : List B) → map f (x ∷ xs) ≡ map g (y ∷ ys) → (f x ≡ g y) × (map f xs ≡ map g ys)
tail-same f g x xs y ys h = (cc, cc)

-- the edge of the bound at a place
pub edge-at : (log : Logged) (bounds : List Bound) (edges : List SystemEdge) (p : ℕ) → AreEdges log bounds edges → p < length edges
    → edge_of log (step_of (bound_at bounds p)) ≡ Some (edge_in (system.edge_at edges p))
edge-at log [] [] p are within = absurd (omega arith)
edge-at log [] (y ∷ ys) p are within = absurd (cc)
edge-at log (x ∷ xs) [] p are within = absurd (omega arith)
edge-at log (x ∷ xs) (y ∷ ys) zero are within = (tail-same (λ b. edge_of log (step_of b)) (λ e. Some (edge_in e)) x xs y ys are).0
edge-at log (x ∷ xs) (y ∷ ys) (suc p) are within = edge-at log xs ys p (tail-same (λ b. edge_of log (step_of b)) (λ e. Some (edge_in e)) x xs y ys are).1 (omega arith)

-- the times of the nodes are their numbers less that of the zero moment
index-relative : (x : ℤ) (xs : List ℤ) (e : ℕ) → e < length xs → slice_index_or (map (λ y. y -ℤ x) xs) e (pos 0) ≡ slice_index_or xs e (pos 0) -ℤ x
index-relative x [] e within = absurd (omega arith)
index-relative x (y ∷ ys) zero within = refl
index-relative x (y ∷ ys) (suc e) within = index-relative x ys e (omega arith)

node-relative : (x : ℤ) (xs : List ℤ) (n : ℕ) → n < length (x ∷ xs) → node_time (map (λ y. y -ℤ x) xs) n ≡ system.number_of (x ∷ xs) n -ℤ x
node-relative x xs zero within = omega (arith, ints)
node-relative x xs (suc e) within = index-relative x xs e (omega arith)

-- so are the times by the numbers of nodes
pub node-times : (rows : ℕ) (numbers : List ℤ) (n : ℕ) → rows < length numbers → n < rows + 1 → node_time (times_of rows numbers) n ≡ system.number_of numbers n -ℤ system.number_of numbers 0
node-times rows [] n some within = absurd (omega arith)
node-times rows (x ∷ xs) zero some within = node-relative x xs zero (omega arith)
node-times rows (x ∷ xs) (suc e) some within =
    ap (λ ts. slice_index_or ts e (pos 0)) (sym (take-map (λ y. y -ℤ x) rows xs))
    ∙ get_or-take rows (map (λ y. y -ℤ x) xs) e (pos 0) (omega (arith, within)) ∙ node-relative x xs (suc e) (omega (arith, within, some))

-- numbers that meet an edge of the system give times that meet it as an edge between moments
meets-relative : (nodes : ℕ) (x : ℤ) (xs : List ℤ) (e : SystemEdge) → length (x ∷ xs) ≡ nodes → system.IsEdge nodes e → system.Meets (x ∷ xs) e → Meets (map (λ y. y -ℤ x) xs) (edge_in e)
meets-relative nodes x xs e count within meets =
    let from = node-relative x xs e.from (omega (arith, within.from)) in
    let to = node-relative x xs e.to (omega (arith, within.to)) in
    rw (from, to) (omega (arith, ints, meets))

-- so a solution gives times that meet every bound
bounds-met : (log : Logged) (nodes : ℕ) (bounds : List Bound) (edges : List SystemEdge) (x : ℤ) (xs : List ℤ) → AreEdges log bounds edges → length (x ∷ xs) ≡ nodes → All (system.IsEdge nodes) edges
    → All (system.Meets (x ∷ xs)) edges → All (λ b. IfSome (edge_of log (step_of b)) (Meets (map (λ y. y -ℤ x) xs))) bounds
bounds-met log nodes [] edges x xs are count within meets = All-nil (λ b. IfSome (edge_of log (step_of b)) (Meets (map (λ y. y -ℤ x) xs)))
bounds-met log nodes (b ∷ bs) [] x xs are count within meets = absurd (cc)
bounds-met log nodes (b ∷ bs) (e ∷ es) x xs are count within meets =
    let same = tail-same (λ b. edge_of log (step_of b)) (λ e. Some (edge_in e)) b bs e es are in
    let here = meets-relative nodes x xs e count (All-head (system.IsEdge nodes) e es within) (All-head (system.Meets (x ∷ xs)) e es meets) in
    All-cons (λ b. IfSome (edge_of log (step_of b)) (Meets (map (λ y. y -ℤ x) xs))) b bs (rw same.0 here)
    (bounds-met log nodes bs es x xs same.1 count (All-tail (system.IsEdge nodes) e es within) (All-tail (system.Meets (x ∷ xs)) e es meets))

-- the walk of the places, as steps and as edges between moments
abbrev pub steps_at : List Bound → List ℕ → List Step
steps_at bounds places = map (λ p. step_of (bound_at bounds p)) places

abbrev pub edges_at : List SystemEdge → List ℕ → List Edge
edges_at edges places = map (λ p. edge_in (system.edge_at edges p)) places

pub leads-same : (edges : List SystemEdge) (a : ℕ) (places : List ℕ) (b : ℕ) → system.LeadsTo edges a places b → LeadsTo a (edges_at edges places) b
leads-same edges a [] b leads = leads
leads-same edges a (p ∷ ps) b leads = (leads.1, leads-same edges (system.edge_at edges p).to ps b leads.2)

has-edges : (log : Logged) (bounds : List Bound) (edges : List SystemEdge) (a : ℕ) (places : List ℕ) (b : ℕ) → AreEdges log bounds edges → system.LeadsTo edges a places b
    → HasEdges log (steps_at bounds places) (edges_at edges places)
has-edges log bounds edges a [] b are leads = refl
has-edges log bounds edges a (p ∷ ps) b are leads =
    let here = edge-at log bounds edges p are leads.0 in
    let rest = has-edges log bounds edges (system.edge_at edges p).to ps b are leads.2 in
    rw (here, rest) refl

pub sum-same : (edges : List SystemEdge) (places : List ℕ) → sum_of_bounds (edges_at edges places) ≡ system.sum_of_bounds edges places
sum-same edges [] = refl
sum-same edges (p ∷ ps) = ap (λ s. (system.edge_at edges p).bound +ℤ s) (sum-same edges ps)

pub closed-same : (edges : List SystemEdge) (places : List ℕ) → system.IsClosedWalk edges places → IsClosedWalk (edges_at edges places)
closed-same edges [] closed = closed
closed-same edges (p ∷ ps) closed = (leads-same edges (system.edge_at edges p).from (p ∷ ps) (system.edge_at edges p).from closed).1

steps-are-bounds : (bounds : List Bound) (places : List ℕ) → All IsBound (steps_at bounds places)
steps-are-bounds bounds [] = All-nil IsBound
steps-are-bounds bounds (p ∷ ps) = All-cons IsBound (step_of (bound_at bounds p)) (steps_at bounds ps) (step_of-is_bound (bound_at bounds p)) (steps-are-bounds bounds ps)

found-edges : (log : Logged) (bounds : List Bound) (edges : List SystemEdge) (places : List ℕ) → AreEdges log bounds edges
    → system.IsClosedWalk edges places → HasEdges log (steps_at bounds places) (edges_at edges places)
found-edges log bounds edges [] are closed = refl
found-edges log bounds edges (p ∷ ps) are closed = has-edges log bounds edges (system.edge_at edges p).from (p ∷ ps) (system.edge_at edges p).from are closed

places-of-walk : (edges : List SystemEdge) (a : ℕ) (places : List ℕ) (b : ℕ) → system.LeadsTo edges a places b → All (λ p. p < length edges) places
places-of-walk edges a [] b leads = All-nil (λ p. p < length edges)
places-of-walk edges a (p ∷ ps) b leads = All-cons (λ p. p < length edges) p ps leads.0 (places-of-walk edges (system.edge_at edges p).to ps b leads.2)

pub places-of-cycle : (edges : List SystemEdge) (places : List ℕ) → system.IsClosedWalk edges places → All (λ p. p < length edges) places
places-of-cycle edges [] closed = absurd closed
places-of-cycle edges (p ∷ ps) closed = places-of-walk edges (system.edge_at edges p).from (p ∷ ps) (system.edge_at edges p).from closed

-- the step of a place begins where its edge does
start-at : (log : Logged) (bounds : List Bound) (edges : List SystemEdge) (p : ℕ) → AreEdges log bounds edges → p < length edges
    → start_of log (step_of (bound_at bounds p)) ≡ Some (system.edge_at edges p).from
start-at log bounds edges p are within = ap (option_map (λ x. x.from)) (edge-at log bounds edges p are within)

-- places whose edges begin at different nodes are steps that do
once-same : (log : Logged) (bounds : List Bound) (edges : List SystemEdge) (places : List ℕ) → AreEdges log bounds edges → All (λ p. p < length edges) places
    → system.VisitsOnce edges places → VisitsOnce log (steps_at bounds places)
once-same log bounds edges places are within once i j d before below same =
    let size : length (steps_at bounds places) ≡ length places = length-map places (λ p. step_of (bound_at bounds p)) in
    let at-i = get_or-map (λ p. step_of (bound_at bounds p)) places i 0 d (omega arith) in
    let at-j = get_or-map (λ p. step_of (bound_at bounds p)) places j 0 d (omega arith) in
    let from-i = start-at log bounds edges (slice_index_or places i 0) are (within i 0 (omega arith)) in
    let from-j = start-at log bounds edges (slice_index_or places j 0) are (within j 0 (omega arith)) in
    once i j 0 before (omega arith) (cc)

-- a negative cycle of the edges that visits no node twice is a conflict of the bounds
pub conflict-of : (log : Logged) (bounds : List Bound) (edges : List SystemEdge) (places : List ℕ) → AreEdges log bounds edges → system.IsNegativeCycle edges places
    → system.VisitsOnce edges places → IsConflict log (steps_at bounds places)
conflict-of log bounds edges places are cycle once = record {
  bounds = steps-are-bounds bounds places;
  conflict = record {
    edges = edges_at edges places;
    found = found-edges log bounds edges places are cycle.closed;
    closed = closed-same edges places cycle.closed;
    negative = rw (sum-same edges places) cycle.negative;
  };
  once = once-same log bounds edges places are (places-of-cycle edges places cycle.closed) once;
}

-- a potential gives an admissible timing, and behind it offsets
pub timing-of : BoundsAreAdmissible → (log : Logged) → IsLog log → (bounds : List Bound) (edges : List SystemEdge) (numbers : List ℤ) → bounds ≡ bounds_of log → AreEdges log bounds edges
    → All (system.IsEdge (node_count_of log)) edges → system.IsPotential (node_count_of log) edges numbers → Admissible log (times_of (length log.rows) numbers)
timing-of law log valid bounds edges [] listed are within potential = absurd (let count = potential.count in omega (arith, count))
timing-of law log valid bounds edges (x ∷ xs) listed are within potential =
    let met = bounds-met log (node_count_of log) bounds edges x xs are potential.count within potential.meets in
    let all = map (λ y. y -ℤ x) xs in
    let size : length all ≡ length log.rows + length log.clocks = let count = potential.count in simp length-map (omega (arith, count)) in
    let rows = length-take-le (length log.rows) all (omega (arith, size)) in
    let split = take-append-drop (length log.rows) all in
    rw (← take-map (λ y. y -ℤ x) (length log.rows) xs)
    ((law log (take (length log.rows) all) valid).1 (
      rows,
      record {
        offsets = drop (length log.rows) all;
        count = let rest = length-drop (length log.rows) all in omega (arith, rest, size);
        each = rw (split, ← listed) met;
      },
    ))

pub count-edges : (log : Logged) (bounds : List Bound) (edges : List SystemEdge) → AreEdges log bounds edges → length edges ≡ length bounds
count-edges log bounds edges are = sym (simp length-map at (ap length are))

-- the edges of a log's bounds are a system within the limits
pub system-of : (log : Logged) (bounds : List Bound) (edges : List SystemEdge) → IsLog log → bounds ≡ bounds_of log → AreEdges log bounds edges → All (system.IsEdge (node_count_of log)) edges
    → system.IsSystem (node_count_of log) edges
system-of log bounds edges valid listed are within = record {
  few_nodes = omega (arith, valid.few_rows, valid.clocks.few);
  few_edges = let few = rw (← listed) at (few-bounds log) in omega (arith, few, count-edges log bounds edges are, valid.few_rows, valid.few_extras);
  each = within;
}

-- the places of a cycle are places of bounds
pub places-within : (log : Logged) (bounds : List Bound) (edges : List SystemEdge) (places : List ℕ) → AreEdges log bounds edges
    → system.IsClosedWalk edges places → All (λ p. p < length bounds) places
places-within log bounds edges places are closed = rw (← count-edges log bounds edges are) (places-of-cycle edges places closed)

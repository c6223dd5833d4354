-- What a graph keeps, with one edge more or fewer edges, and what its numbers show.
use Rattle.std.proofs.Common.{◌≡◌, ◌∙◌, sym, subst, refl, ℕ, ◌-◌, ◌^◌, ◌<◌, ◌≤◌, ◌↔◌, List, [], ◌∷◌, ◌++◌, length, take, drop, replicate, arith, ℤ, pos, ◌-ℤ◌, get_or}
use Rattle.std.specs.Prelude.{All}
use Rattle.std.proofs.lemmas.Int.{ints}
use Rattle.std.proofs.lemmas.List.{ext_get_or, get_or_append_left, length_push, length-map, length-take, length-replicate, get_or-map, take_all, take-append-le}
use Rattle.std.proofs.lemmas.List.Elements.{All-push, All-take, All-replicate}
use Rattle.neg_cycle.specs.declared.system.Edge.{Edge}
use Rattle.neg_cycle.specs.declared.system.TheConstants.{MAX_NODES, MAX_EDGES}
use Rattle.neg_cycle.specs.Systems.{IsEdge, IsWithin, IsSystem, Meets, IsNegativeCycle, number_of}
use Rattle.neg_cycle.proofs.LawLemmas.{excludes_cycles}
use Rattle.difference_graph.specs.declared.push.Push.{Push}
use Rattle.difference_graph.specs.declared.push.Push.TheVariants.{Kept, Cycle}
use Rattle.difference_graph.specs.Gaps.{IsNumber, IsNarrow, HasSameDifferences, KeepsMet}
use Rattle.difference_graph.specs.Work.{MeetsFirst}
use Rattle.difference_graph.specs.Graphs.{HasSolution, IsSolved, IsGraph, AreSmall, less_the_first}

-- a push is kept where there is a solution, and refused where there is none
pub record IsDecided (push : Push) (S : Type 0) : Type 0 where
  pub kept : (push ≡ Kept) ↔ S
  pub refused : (push ≡ Cycle) ↔ (S → ⊥)

pub decided_kept : (S : Type 0) → S → IsDecided Kept S
decided_kept S s = record {
  kept = (λ e. s, λ t. refl);
  refused = (λ e. absurd (cc), λ none. absurd (none s));
}

pub decided_cycle : (S : Type 0) → (S → ⊥) → IsDecided Cycle S
decided_cycle S none = record {
  kept = (λ e. absurd (cc), λ s. absurd (none s));
  refused = (λ e. none, λ n. refl);
}

-- numbers that meet all edges are a solution
pub has_solution : (nodes : ℕ) (edges : List Edge) (numbers : List ℤ) → length numbers ≡ nodes → All (Meets numbers) edges → HasSolution nodes edges
has_solution nodes edges numbers count meets = record { numbers = numbers; potential = record { count = count; meets = meets } }

-- a walk of negative sum leaves none
pub no_solution : (nodes : ℕ) (edges : List Edge) (walk : List ℕ) → IsNegativeCycle edges walk → HasSolution nodes edges → ⊥
no_solution nodes edges walk cycle solution = excludes_cycles edges solution.numbers walk solution.potential.meets cycle

module _ (held : List Edge) (limit : ℕ) (current : List ℤ) (g : IsGraph held limit current) where
  -- the numbers less that of node 0
  number_less : (v : ℕ) → v < length current → number_of (less_the_first current) v ≡ number_of current v -ℤ number_of current 0
  number_less v below = get_or-map (λ x. x -ℤ number_of current 0) current v (pos 0) (pos 0) below

  meets_less : All (Meets (less_the_first current)) held
  meets_less k d below =
      let e = g.each k d below in
      let from = number_less (get_or held k d).from e.from in
      let to = number_less (get_or held k d).to e.to in
      let meets = g.met k d below in
      omega (arith, ints, from, to, meets)

  pub solved : (cycle : List ℕ) → IsSolved (record { nodes = length current; capacity = limit; edges = held; numbers = less_the_first current; cycle = cycle })
  solved cycle = record {
    some_node = g.some_node;
    system = record { few_nodes = g.few_nodes; few_edges = omega (arith, g.few_edges, g.within); each = g.each };
    room = g.within;
    potential = record { count = length-map current (λ x. x -ℤ number_of current 0); meets = meets_less };
    first = number_less 0 g.some_node ∙ omega (arith, ints);
  }

  pub fewer : (mark : ℕ) → IsGraph (take mark held) limit current
  fewer mark = record {
    some_node = g.some_node;
    few_nodes = g.few_nodes;
    few_edges = g.few_edges;
    within = omega (arith, g.within, length-take mark held);
    each = All-take (IsEdge (length current)) mark held g.each;
    met = All-take (Meets current) mark held g.met;
    numbers = g.numbers;
  }

  -- an edge more that the numbers meet
  module _ (edge : Edge) (is : IsEdge (length current) edge) (room : length held < limit) (meets : Meets current edge) where
    pub met_with : All (Meets current) (held ++ edge ∷ [])
    met_with = All-push (Meets current) held edge g.met meets

    pub graph_with : IsGraph (held ++ edge ∷ []) limit current
    graph_with = record {
      some_node = g.some_node;
      few_nodes = g.few_nodes;
      few_edges = g.few_edges;
      within = omega (arith, length_push held edge, room);
      each = All-push (IsEdge (length current)) held edge g.each is;
      met = met_with;
      numbers = g.numbers;
    }

  -- other numbers, near to 0, that meet what the old ones meet
  module _ (near : List ℤ) (count : length near ≡ length current) (keeps : KeepsMet current near) where
    still_each : All (IsEdge (length near)) held
    still_each = subst (λ (n : ℕ). All (IsEdge n) held) (sym count) g.each

    pub still_met : All (Meets near) held
    still_met k d below = keeps (get_or held k d) (g.each k d below) (g.met k d below)

    pub still : All IsNumber near → IsGraph held limit near
    still numbers = record {
      some_node = omega (arith, count, g.some_node);
      few_nodes = omega (arith, count, g.few_nodes);
      few_edges = g.few_edges;
      within = g.within;
      each = still_each;
      met = still_met;
      numbers = numbers;
    }

    module _ (edge : Edge) (is : IsEdge (length current) edge) (room : length held < limit) where
      edge_near : IsEdge (length near) edge
      edge_near = subst (λ (n : ℕ). IsEdge n edge) (sym count) is

      each_more : All (IsEdge (length near)) (held ++ edge ∷ [])
      each_more = All-push (IsEdge (length near)) held edge still_each edge_near

      pub system_more : IsSystem (length near) (held ++ edge ∷ [])
      system_more = record {
        few_nodes = omega (arith, count, g.few_nodes);
        few_edges = omega (arith, length_push held edge, room, g.few_edges);
        each = each_more;
      }

      pub first_met : (place : ℕ) → place ≡ length held → MeetsFirst (held ++ edge ∷ []) place near
      first_met place is_place q below =
          let before : q < length held = omega (arith, below, is_place) in
          let at = get_or_append_left held (edge ∷ []) (record { from = 0; to = 0; bound = pos 0 }) q before in
          rw at (still_met q (record { from = 0; to = 0; bound = pos 0 }) before)

      -- with numbers that meet the new edge too
      pub kept_more : (new : List ℤ) → length new ≡ length near → All IsNumber new → All (Meets new) (held ++ edge ∷ []) → IsGraph (held ++ edge ∷ []) limit new
      kept_more new same numbers meets = record {
        some_node = omega (arith, same, count, g.some_node);
        few_nodes = omega (arith, same, count, g.few_nodes);
        few_edges = g.few_edges;
        within = omega (arith, length_push held edge, room);
        each = subst (λ (n : ℕ). All (IsEdge n) (held ++ edge ∷ [])) (sym same) each_more;
        met = meets;
        numbers = numbers;
      }

-- the numbers, and the numbers less that of node 0, meet the same edges
pub met_less : (current : List ℤ) (edge : Edge) → IsEdge (length current) edge → Meets current edge ↔ Meets (less_the_first current) edge
met_less current edge is =
    let from = get_or-map (λ x. x -ℤ number_of current 0) current edge.from (pos 0) (pos 0) is.from in
    let to = get_or-map (λ x. x -ℤ number_of current 0) current edge.to (pos 0) (pos 0) is.to in
    (λ meets. omega (arith, ints, from, to, meets), λ meets. omega (arith, ints, from, to, meets))

-- where the numbers less that of node 0 are small, none is far above another
pub narrow : (current : List ℤ) → AreSmall (less_the_first current) → IsNarrow current
narrow current small v w v_within w_within =
    let high : IsWithin (pos (2 ^ 112)) (number_of (less_the_first current) v) = small v (pos 0) (omega (arith, v_within, count)) in
    let low : IsWithin (pos (2 ^ 112)) (number_of (less_the_first current) w) = small w (pos 0) (omega (arith, w_within, count)) in
    let first = get_or-map (λ x. x -ℤ number_of current 0) current v (pos 0) (pos 0) v_within in
    let second = get_or-map (λ x. x -ℤ number_of current 0) current w (pos 0) (pos 0) w_within in
    omega (arith, ints, high.high, low.low, first, second) where
      count : length (less_the_first current) ≡ length current
      count = length-map current (λ x. x -ℤ number_of current 0)

-- numbers with the same differences are the same, less that of node 0
pub same_view : (current near : List ℤ) → length near ≡ length current → HasSameDifferences current near → less_the_first near ≡ less_the_first current
same_view current near count same = ext_get_or (pos 0) (less_the_first near) (less_the_first current) (length-map near (λ x. x -ℤ number_of near 0) ∙ count ∙ sym (length-map current (λ x. x -ℤ number_of current 0))) (λ v within.
    let inside : v < length near = omega (arith, within, length-map near (λ x. x -ℤ number_of near 0)) in
    let below : v < length current = omega (arith, inside, count) in
    let new = get_or-map (λ x. x -ℤ number_of near 0) near v (pos 0) (pos 0) inside in
    let old = get_or-map (λ x. x -ℤ number_of current 0) current v (pos 0) (pos 0) below in
    new ∙ same v below ∙ sym old)

-- a graph that holds no edge
pub empty : (nodes limit : ℕ) → 0 < nodes → nodes ≤ MAX_NODES → limit ≤ MAX_EDGES → IsGraph [] limit (replicate nodes (pos 0))
empty nodes limit some few_nodes few_edges = record {
  some_node = omega (arith, count, some);
  few_nodes = omega (arith, count, few_nodes);
  few_edges = few_edges;
  within = omega arith;
  each = λ k d below. absurd (omega (arith, below));
  met = λ k d below. absurd (omega (arith, below));
  numbers = All-replicate IsNumber nodes (pos 0) (record { low = omega (arith, ints); high = omega (arith, ints) });
} where
  count : length (replicate nodes (pos 0)) ≡ nodes
  count = length-replicate nodes (pos 0)

-- cutting off what was pushed leaves the list before it
take_pushed : (held : List Edge) (edge : Edge) (n : ℕ) → n ≡ length held → take n (held ++ edge ∷ []) ≡ held
take_pushed held edge n is = rw is (take-append-le (length held) held (edge ∷ []) (omega arith) ∙ take_all (length held) held (omega arith))

-- so does taking the last one back
pub take_last : (held : List Edge) (edge : Edge) → take (length (held ++ edge ∷ []) - 1) (held ++ edge ∷ []) ≡ held
take_last held edge = take_pushed held edge (length (held ++ edge ∷ []) - 1) (omega (arith, length_push held edge))

-- a list that is written back over one of its length
pub written_back : (n : ℕ) (new old : List ℤ) → length new ≡ n → take n (new ++ drop (length new) old) ≡ new
written_back n new old is = take-append-le n new (drop (length new) old) (omega (arith, is)) ∙ take_all n new (omega (arith, is))

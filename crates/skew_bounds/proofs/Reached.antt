-- A search for the greatest numbers that meet edges: how it begins, goes on from a node that waited, and ends.
use Rattle.std.proofs.Common.{◌≡◌, ◌≢◌, ◌∙◌, sym, ap, ℕ, ◌<◌, ◌⊎◌, inl, inr, arith, List, [], ◌∷◌, length, All, ℤ, pos, refl}
use Rattle.std.specs.Prelude.{IsPermutation, slice_index_or}
use Rattle.std.proofs.lemmas.Bool.{cases_eq}
use Rattle.std.proofs.lemmas.Int.{ints}
use Rattle.std.proofs.lemmas.List.Elements.{All-cons, All-head, All-nil, All-tail, Contains-get_or}
use Rattle.std.proofs.lemmas.List.Sorted.{All-permutation, Contains-permutation}
use Rattle.mt_model.specs.Log.{IsWithin}
use Rattle.mt_model.specs.declared.limits.TheConstants.{MAX_TIME}
use Rattle.neg_cycle.specs.declared.system.Edge.{Edge}
use Rattle.neg_cycle.specs.Systems.{Meets, number_of}
use Rattle.skew_bounds.specs.Beginning.{IsBeginning}
use Rattle.skew_bounds.specs.Incoming.{IsLatest, IsNear, IsNetwork, ending_at}
use Rattle.skew_bounds.specs.Lowering.{AreNodes, IsFloor, IsLowered, IsSearch, Waits, ahead_of, entry_of}
use Rattle.skew_bounds.specs.declared.lowering.Waiting.{Waiting}
use Rattle.std.proofs.lemmas.Map.Made.{Contains-tail}

-- the edges that end at a node are met, or it waits
abbrev pub IsSettled : List (List Edge) → List ℤ → List ℤ → List Waiting → ℕ → Type 0
IsSettled incoming potential numbers waiting v = All (Meets numbers) (ending_at incoming v) ⊎ Waits potential numbers waiting v

-- the node has 0, no near solution is further above it anywhere, and edges that are not met end at nodes that wait
pub record IsReached (incoming : List (List Edge)) (potential : List ℤ) (node : ℕ) (numbers : List ℤ) (waiting : List Waiting) : Type 0 where
  pub search : IsSearch potential numbers
  pub nodes : AreNodes (length potential) waiting
  pub own : number_of numbers node ≡ pos 0
  pub greatest : (y : List ℤ) → IsNear incoming y → IsFloor y (number_of y node) numbers
  pub settled : (v : ℕ) → v < length incoming → IsSettled incoming potential numbers waiting v

module _ (incoming : List (List Edge)) (potential : List ℤ) (node : ℕ) (network : IsNetwork incoming) (near : IsNear incoming potential) (within : node < length incoming) where
  count : length potential ≡ length incoming
  count = near.solution.count

  near-at : (y : List ℤ) → IsNear incoming y → (v : ℕ) → v < length incoming → IsWithin MAX_TIME (number_of y v)
  near-at y is v below = is.near v (pos 0) (rw is.solution.count below)

  module _ (numbers : List ℤ) (begins : IsBeginning incoming node numbers) where
    in-network : (v : ℕ) → v < length numbers → v < length incoming
    in-network v below = rw begins.count at below

    pub reached-first : (waiting : List Waiting) → IsPermutation (entry_of potential node (pos 0) ∷ []) waiting → IsReached incoming potential node numbers waiting
    reached-first waiting first = record {
      search = record {
        count = begins.count ∙ sym count;
        near = near.near;
        least = number_of potential node;
        least_near = near-at potential near node within;
        floor = λ v below. begins.most v (in-network v below) potential near;
        high = λ v below. begins.high v (in-network v below);
      };
      nodes = All-permutation (λ w. w.node < length potential) _ waiting first (All-cons (λ w. w.node < length potential) _ [] (rw count within) (All-nil (λ w. w.node < length potential)));
      own = begins.own;
      greatest = λ y is v below. begins.most v (in-network v below) y is;
      settled = λ v below. elim (cases_eq v node) [
        | inl same ↦ inr (rw (same, begins.own) (Contains-permutation _ waiting _ first (Contains-get_or (entry_of potential node (pos 0) ∷ []) 0 (entry_of potential node (pos 0)) (omega arith))))
        | inr apart ↦ inl (begins.met v below apart)
      ];
    }

  module _ (numbers : List ℤ) (waiting : List Waiting) (reached : IsReached incoming potential node numbers waiting) (next : Waiting) (rest : List Waiting) (popped : IsPermutation waiting (next ∷ rest)) where
    all-nodes : AreNodes (length potential) (next ∷ rest)
    all-nodes = All-permutation (λ w. w.node < length potential) waiting _ popped reached.nodes

    pub next-within : next.node < length potential
    next-within = All-head (λ w. w.node < length potential) next rest all-nodes

    -- what waits and is not the one that came out still waits
    still-waits : (v : ℕ) → (next ≡ entry_of potential v (number_of numbers v) → ⊥) → Waits potential numbers waiting v → Waits potential numbers rest v
    still-waits v differs waits = Contains-tail next rest _ differs (Contains-permutation waiting _ _ popped waits)

    -- it came out with a number that the node no longer has
    pub reached-stale : next.ahead ≢ ahead_of potential numbers next.node → IsReached incoming potential node numbers rest
    reached-stale stale = record {
      search = reached.search;
      nodes = All-tail (λ w. w.node < length potential) next rest all-nodes;
      own = reached.own;
      greatest = reached.greatest;
      settled = λ v below. elim (reached.settled v below) [
        | inl met ↦ inl met
        | inr waits ↦ inr (still-waits v (λ same. stale (rw same refl)) waits)
      ];
    }

    -- the edges that end at the node are met now
    module _ (new : List ℤ) (after : List Waiting) (search : IsSearch potential new) (lowered : IsLowered potential next.node (ending_at incoming next.node) numbers rest new after) where
      next-in : next.node < length incoming
      next-in = rw count at next-within

      floor-kept : (y : List ℤ) → IsNear incoming y → IsFloor y (number_of y node) new
      floor-kept y is = lowered.above y (number_of y node) (is.solution.meets next.node next-in) (reached.greatest y is)

      settled-elsewhere : (v : ℕ) → v < length incoming → v ≢ next.node → IsSettled incoming potential numbers waiting v → IsSettled incoming potential new after v
      settled-elsewhere v below apart settled = elim (lowered.waits v) [
        | inr waits ↦ inr waits
        | inl same ↦ elim settled [
          | inl met ↦ inl (λ k d place.
              let meets = met k d place in
              let end = network.ends v below k d place in
              let from = lowered.lower ((slice_index_or (ending_at incoming v) k d).from) in
              rw (end, same) (omega (arith, ints, rw end at meets, from)))
          | inr waits ↦ inr (rw same (lowered.kept _ (still-waits v (λ is. apart (sym (ap (λ w. w.node) is))) waits)))
        ]
      ]

      pub reached-more : IsReached incoming potential node new after
      reached-more = record {
        search = search;
        nodes = lowered.nodes (All-tail (λ w. w.node < length potential) next rest all-nodes);
        own =
            let own = reached.own in
            let lower = lowered.lower node in
            let floor = floor-kept potential near node (rw (search.count ∙ count) within) in
            omega (arith, ints, own, lower, floor);
        greatest = floor-kept;
        settled = λ v below. elim (cases_eq v next.node) [
          | inl same ↦ inl (rw same lowered.met)
          | inr apart ↦ settled-elsewhere v below apart (reached.settled v below)
        ];
      }

  -- where no node waits, all edges are met
  pub reached-last : (numbers : List ℤ) → IsReached incoming potential node numbers [] → IsLatest incoming node numbers
  reached-last numbers reached = record {
    solution = record {
      count = reached.search.count ∙ count;
      meets = λ v below. elim (reached.settled v below) [
        | inl met ↦ met
        | inr waits ↦ absurd (let none = waits.1 in omega arith)
      ];
    };
    own = reached.own;
    greatest = λ y is v below. reached.greatest y is v (rw (reached.search.count ∙ count) below);
  }

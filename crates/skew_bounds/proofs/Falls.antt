-- What the lowering of numbers does to a search: for one edge, and for one more.
use Rattle.std.proofs.Common.{◌≡◌, ◌≢◌, ◌∙◌, refl, ℕ, ◌^◌, ◌<◌, ◌≤◌, inl, inr, arith, List, [], ◌∷◌, ◌++◌, length, length-set, set, get_or-set_other, All, ℤ, pos, negsuc, ◌+ℤ◌, ◌≤ℤ◌, ◌<ℤ◌, get_or}
use Rattle.std.specs.List.Sorted.{IsPermutation}
use Rattle.std.proofs.lemmas.Bool.{cases_eq}
use Rattle.std.proofs.lemmas.Grind.{get_or-set_at}
use Rattle.std.proofs.lemmas.Int.{ints}
use Rattle.std.proofs.lemmas.List.Elements.{All-nil, All-cons, All-head, All-push, Contains-append_right, Contains-get_or}
use Rattle.std.proofs.lemmas.List.Sorted.{All-permutation, Contains-permutation, length_permutation}
use Rattle.std.proofs.lemmas.List.Sums.{sum_by-set}
use Rattle.neg_cycle.specs.declared.system.Edge.{Edge}
use Rattle.neg_cycle.specs.Systems.{IsEdge, Meets, number_of}
use Rattle.mt_model.proofs.BoundLists.{All-back, All-front}
use Rattle.mt_model.specs.Log.{IsWithin}
use Rattle.mt_model.specs.declared.limits.TheConstants.{MAX_TIME}
use Rattle.skew_bounds.specs.declared.latest.TheConstants.{UNREACHED}
use Rattle.skew_bounds.specs.declared.lowering.Waiting.{Waiting}
use Rattle.skew_bounds.specs.declared.column.TheConstants.{FAR}
use Rattle.skew_bounds.specs.Lowering.{IsFloor, IsLowered, IsSearch, entry_of, height, work}

height-falls : (x y : ℤ) → y <ℤ x → pos 0 ≤ℤ (y +ℤ pos (2 ^ 70)) → height y < height x
height-falls (pos a) (pos b) less low = omega (arith, ints)
height-falls (pos a) (negsuc b) less low = omega (arith, ints)
height-falls (negsuc a) (pos b) less low = absurd (omega (arith, ints))
height-falls (negsuc a) (negsuc b) less low = omega (arith, ints)

-- where the numbers of a search lie
module _ (potential numbers : List ℤ) (search : IsSearch potential numbers) (v : ℕ) (within : v < length potential) where
  pub potential-near : IsWithin MAX_TIME (number_of potential v)
  potential-near = search.near v (pos 0) within

  pub number-near : IsWithin (UNREACHED +ℤ FAR) (number_of numbers v)
  number-near =
      let floor = search.floor v (rw search.count within) in
      let high = search.high v (rw search.count within) in
      let near = potential-near in
      let least = search.least_near in
      record { low = omega (arith, ints, floor, near.low, least.high); high = high }

-- an edge, and the numbers of a search
module _ (potential numbers : List ℤ) (waiting : List Waiting) (edge : Edge) (search : IsSearch potential numbers) (is : IsEdge (length potential) edge) (met : Meets potential edge) where
  -- an edge that is met changes nothing
  pub lowered-not : Meets numbers edge → IsLowered potential edge.to (edge ∷ []) numbers waiting numbers waiting
  lowered-not meets = record {
    count = refl;
    met = All-cons (Meets numbers) edge [] meets (All-nil (Meets numbers));
    own = refl;
    lower = λ v. omega (arith, ints);
    above = λ y a all floor. floor;
    waits = λ v. inl refl;
    kept = λ w contains. contains;
    nodes = λ all. all;
    less = omega arith;
  }

  -- another one has the number where it begins lowered
  module _ (y : ℤ) (sum : y ≡ number_of numbers edge.to +ℤ edge.bound) (below : y <ℤ number_of numbers edge.from) where
    from-in : edge.from < length numbers
    from-in = rw search.count is.from

    apart : edge.to ≢ edge.from
    apart same = absurd (let loop = rw same at met in let whole = rw same at sum in omega (arith, ints, loop, whole, below))

    here : number_of (set numbers edge.from y) edge.from ≡ y
    here = get_or-set_at numbers edge.from edge.from y (pos 0) refl from-in

    other : (v : ℕ) → v ≢ edge.from → number_of (set numbers edge.from y) v ≡ number_of numbers v
    other v differs = get_or-set_other numbers edge.from v y (pos 0) differs

    floor-kept : (z : List ℤ) (a : ℤ) → Meets z edge → IsFloor z a numbers → IsFloor z a (set numbers edge.from y)
    floor-kept z a meets floor v within = elim (cases_eq v edge.from) [
      | inl same ↦
          let to = floor edge.to (rw search.count is.to) in
          rw (same, here) (omega (arith, ints, to, meets, sum))
      | inr differs ↦ rw (other v differs) (floor v (simp length-set at within))
    ]

    falls : (v : ℕ) → number_of (set numbers edge.from y) v ≤ℤ number_of numbers v
    falls v = elim (cases_eq v edge.from) [
      | inl same ↦ rw (same, here) (omega (arith, ints, below))
      | inr differs ↦ rw (other v differs) (omega (arith, ints))
    ]

    pub search-lowered : IsSearch potential (set numbers edge.from y)
    search-lowered = record {
      count = length-set numbers edge.from y ∙ search.count;
      near = search.near;
      least = search.least;
      least_near = search.least_near;
      floor = floor-kept potential search.least met search.floor;
      high = λ v within.
          let before = search.high v (simp length-set at within) in
          let after = falls v in
          omega (arith, ints, before, after);
    }

    pub lowered-near : IsWithin (UNREACHED +ℤ FAR) y
    lowered-near = rw here at (number-near potential (set numbers edge.from y) search-lowered edge.from is.from)

    module _ (after : List Waiting) (pushed : IsPermutation (entry_of potential edge.from y ∷ waiting) after) where
      less-work : work (set numbers edge.from y) after ≤ work numbers waiting
      less-work =
          let height-less = height-falls (number_of numbers edge.from) y below (let near = lowered-near in omega (arith, ints, near.low)) in
          let both = sum_by-set height numbers edge.from y (pos 0) from-in in
          let one-more = length_permutation _ after pushed in
          omega (arith, height-less, both, one-more)

      pub lowered-one : IsLowered potential edge.to (edge ∷ []) numbers waiting (set numbers edge.from y) after
      lowered-one = record {
        count = length-set numbers edge.from y;
        met = All-cons (Meets (set numbers edge.from y)) edge [] (rw (here, other edge.to apart) (omega (arith, ints, sum))) (All-nil (Meets (set numbers edge.from y)));
        own = other edge.to apart;
        lower = falls;
        above = λ z a all floor. floor-kept z a (All-head (Meets z) edge [] all) floor;
        waits = λ v. elim (cases_eq v edge.from) [
          | inl same ↦ inr (rw (same, here) (Contains-permutation _ after _ pushed (Contains-get_or (entry_of potential edge.from y ∷ waiting) 0 (entry_of potential edge.from y) (omega arith))))
          | inr differs ↦ inl (other v differs)
        ];
        kept = λ w contains. Contains-permutation _ after w pushed (Contains-append_right (entry_of potential edge.from y ∷ []) waiting w contains);
        nodes = λ all. All-permutation (λ w. w.node < length potential) _ after pushed (All-cons (λ w. w.node < length potential) _ waiting is.from all);
        less = less-work;
      }

-- the edges before one, and that one
module _ (potential : List ℤ) (node : ℕ) where
  pub lowered-more : (edges : List Edge) (edge : Edge) (old now new : List ℤ) (before between after : List Waiting) → All (λ e. e.to ≡ node) edges
      → IsLowered potential node edges old before now between → IsLowered potential node (edge ∷ []) now between new after → IsLowered potential node (edges ++ edge ∷ []) old before new after
  lowered-more edges edge old now new before between after ends first second = record {
    count = second.count ∙ first.count;
    met = All-push (Meets new) edges edge
        (λ k d within.
        let meets = first.met k d within in
        let end = ends k d within in
        let from = second.lower ((get_or edges k d).from) in
        let own = second.own in
        rw (end, own) (omega (arith, ints, rw end at meets, from)))
        (All-head (Meets new) edge [] second.met);
    own = second.own ∙ first.own;
    lower = λ v.
        let early = first.lower v in
        let late = second.lower v in
        omega (arith, ints, early, late);
    above = λ y a all floor.
        second.above y a (All-back (Meets y) edges (edge ∷ []) all) (first.above y a (All-front (Meets y) edges (edge ∷ []) all) floor);
    waits = λ v. elim (second.waits v) [
      | inr waits ↦ inr waits
      | inl same ↦ elim (first.waits v) [
        | inl as-before ↦ inl (same ∙ as-before)
        | inr waits ↦ inr (rw same (second.kept _ waits))
      ]
    ];
    kept = λ w contains. second.kept w (first.kept w contains);
    nodes = λ all. second.nodes (first.nodes all);
    less = let early = first.less in let late = second.less in omega (arith, early, late);
  }

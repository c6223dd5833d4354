-- A solution that is moved up far enough is what a search for the greatest numbers may begin with.
use Rattle.std.proofs.Common.{◌≡◌, ◌≢◌, ◌∙◌, ℕ, ◌<◌, inl, inr, arith, List, length, All, ℤ, pos, ◌+ℤ◌, ◌-ℤ◌, ◌≤ℤ◌}
use Rattle.std.specs.Prelude.{slice_index_or}
use Rattle.std.proofs.lemmas.Bool.{cases_eq}
use Rattle.std.proofs.lemmas.Int.{ints}
use Rattle.std.proofs.lemmas.List.Elements.{All-contains}
use Rattle.mt_model.specs.Log.{IsWithin}
use Rattle.mt_model.specs.declared.limits.TheConstants.{MAX_TIME}
use Rattle.neg_cycle.specs.declared.system.Edge.{Edge}
use Rattle.neg_cycle.specs.Systems.{Meets, number_of}
use Rattle.skew_bounds.specs.Beginning.{IsBeginning, IsBoundFrom, IsMost, IsMoved, IsNearLatest}
use Rattle.skew_bounds.specs.Incoming.{IsNear, IsNetwork, IsSolution, ending_at}
use Rattle.skew_bounds.specs.declared.latest.TheConstants.{UNREACHED}
use Rattle.skew_bounds.specs.declared.column.TheConstants.{FAR}

-- a solution moved up so far is nowhere less above the node than a near solution, and nowhere beyond what is unreached
pub record IsUpper (incoming : List (List Edge)) (node : ℕ) (numbers : List ℤ) (raise : ℤ) : Type 0 where
  pub solution : IsSolution incoming numbers
  pub most : (v : ℕ) → v < length incoming → IsMost incoming v node (number_of numbers v +ℤ raise)
  pub high : (v : ℕ) → v < length incoming → (number_of numbers v +ℤ raise) ≤ℤ (UNREACHED +ℤ FAR)

module _ (incoming : List (List Edge)) (potential : List ℤ) (node : ℕ) (network : IsNetwork incoming) (near : IsNear incoming potential) (within : node < length incoming) where
  near-at : (y : List ℤ) → IsNear incoming y → (v : ℕ) → v < length incoming → IsWithin MAX_TIME (number_of y v)
  near-at y is v below = is.near v (pos 0) (rw is.solution.count below)

  module _ (x : List ℤ) (raise : ℤ) (upper : IsUpper incoming node x raise) (numbers : List ℤ) (moved : IsMoved x raise node numbers) where
    count : length x ≡ length incoming
    count = upper.solution.count

    begun-most : (v : ℕ) → v < length incoming → IsMost incoming v node (number_of numbers v)
    begun-most v below y is = elim (cases_eq v node) [
      | inl same ↦ rw (same, moved.own) (omega (arith, ints))
      | inr apart ↦ rw (moved.others v (rw count below) apart) (upper.most v below y is)
    ]

    begun-high : (v : ℕ) → v < length incoming → number_of numbers v ≤ℤ (UNREACHED +ℤ FAR)
    begun-high v below = elim (cases_eq v node) [
      | inl same ↦ rw (same, moved.own) (omega (arith, ints))
      | inr apart ↦ rw (moved.others v (rw count below) apart) (upper.high v below)
    ]

    -- the node has no more than the solution has there
    own-most : pos 0 ≤ℤ (number_of x node +ℤ raise)
    own-most = let most = upper.most node within potential near in omega (arith, ints, most)

    -- an edge that ends elsewhere is met, since the solution meets it
    begun-met : (v : ℕ) → v < length incoming → v ≢ node → All (Meets numbers) (ending_at incoming v)
    begun-met v below apart k d place =
        by (slice_index_or (ending_at incoming v) k d) (network.edges v below k d place).from (network.ends v below k d place) (upper.solution.meets v below k d place)
      where
        by : (e : Edge) → e.from < length incoming → e.to ≡ v → Meets x e → Meets numbers e
        by e from end met =
            let to : number_of numbers e.to ≡ number_of x e.to +ℤ raise = rw end (moved.others v (rw count below) apart) in
            elim (cases_eq e.from node) [
              | inl same ↦ let own = moved.own in let most = own-most in let m = rw same at met in rw (same) (omega (arith, ints, own, most, to, m))
              | inr other ↦ let start = moved.others e.from (rw count from) other in omega (arith, ints, start, to, met)
            ]

    pub begun : IsBeginning incoming node numbers
    begun = record {
      count = moved.count ∙ count;
      own = moved.own;
      most = begun-most;
      high = begun-high;
      met = begun-met;
    }

  -- the potential, moved up so far that all is unreached
  pub unreached : IsUpper incoming node potential (UNREACHED -ℤ number_of potential node)
  unreached = record {
    solution = near.solution;
    most = λ v below y is.
        let a = near-at y is v below in
        let b = near-at y is node within in
        let c = near-at potential near v below in
        let d = near-at potential near node within in
        omega (arith, ints, a.high, b.low, c.low, d.high);
    high = λ v below.
        let c = near-at potential near v below in
        let d = near-at potential near node within in
        omega (arith, ints, c.high, d.low);
  }

  -- the greatest numbers from the zero moment, moved up by the bound of an edge from there to the node
  pub by-zero : (zero : List ℤ) (bound : ℤ) → IsNearLatest incoming zero → IsBoundFrom 0 (ending_at incoming node) bound → IsWithin FAR bound → IsUpper incoming node zero bound
  by-zero zero bound latest leads small = record {
    solution = latest.latest.solution;
    most = λ v below y is.
        let most = latest.latest.greatest y is v below in
        let met = zero-most y is in
        omega (arith, ints, most, met);
    high = λ v below.
        let here = latest.near v (pos 0) (rw latest.latest.solution.count below) in
        omega (arith, ints, here.high, small.high);
  }
    where
      zero-most : (y : List ℤ) → IsNear incoming y → (number_of y 0 -ℤ number_of y node) ≤ℤ bound
      zero-most y is =
          let met = All-contains (Meets y) (ending_at incoming node) leads.edge (is.solution.meets node within) leads.there in
          let end : leads.edge.to ≡ node = All-contains (λ e. e.to ≡ node) (ending_at incoming node) leads.edge (network.ends node within) leads.there in
          let begins = leads.begins in
          let bounds = leads.bounds in
          omega (arith, ints, rw (end, begins, bounds) at met)

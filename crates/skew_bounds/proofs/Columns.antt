-- A table of differences that gets its columns one by one.
use Rattle.std.proofs.Common.{◌≡◌, ◌∙◌, ℕ, ◌+◌, ◌<◌, ◌≤◌, arith, below_more, List, [], ◌∷◌, ◌++◌, length, get_or, take, ℤ, pos}
use Rattle.std.proofs.lemmas.List.{get_or-take, get_or_append_left, get_or_push, length-append}
use Rattle.neg_cycle.specs.declared.system.Edge.{Edge}
use Rattle.neg_cycle.specs.Systems.{number_of}
use Rattle.skew_bounds.specs.Differences.{Stretch, entry, no_stretch, number_in}
use Rattle.skew_bounds.specs.Incoming.{IsLatest}
use Rattle.skew_bounds.specs.Table.{IsTableOf}

-- the greatest numbers that give a node 0 are those of a column
pub record IsHeld (size : ℕ) (incoming : List (List Edge)) (zero : List ℤ) (node : ℕ) (column : Stretch) : Type 0 where
  pub numbers : List ℤ
  pub latest : IsLatest incoming node numbers
  pub same : (i : ℕ) → i < size → number_in zero column i ≡ number_of numbers i

-- the first columns are those of their nodes
pub record AreHeldUpTo (size : ℕ) (incoming : List (List Edge)) (zero : List ℤ) (so_far : ℕ) (columns : List Stretch) : Type 0 where
  pub count : length columns ≡ so_far
  pub each : (node : ℕ) → node < so_far → IsHeld size incoming zero node (get_or columns node no_stretch)

pub held-more : (size : ℕ) (incoming : List (List Edge)) (zero : List ℤ) (node : ℕ) (columns : List Stretch) (numbers : List ℤ) (column : Stretch)
    → AreHeldUpTo size incoming zero node columns → IsLatest incoming node numbers
    → ((i : ℕ) → i < size → number_in zero column i ≡ number_of (take size numbers) i)
    → AreHeldUpTo size incoming zero (node + 1) (columns ++ column ∷ [])
held-more size incoming zero node columns numbers column up latest same = record {
  count = let count = up.count in omega (arith, count, length-append columns (column ∷ []));
  each = below_more (λ c. IsHeld size incoming zero c (get_or (columns ++ column ∷ []) c no_stretch)) node
      (λ c below. rw (get_or_append_left columns (column ∷ []) no_stretch c (rw up.count below)) (up.each c below))
      (rw (get_or_push columns column no_stretch node up.count) (record {
        numbers = numbers;
        latest = latest;
        same = λ i in-i. same i in-i ∙ get_or-take size numbers i (pos 0) in-i;
      }));
}

-- so many columns are a table
pub held-table : (size : ℕ) (incoming : List (List Edge)) (zero : List ℤ) (columns : List Stretch) → size ≤ length incoming
    → AreHeldUpTo size incoming zero size columns
    → IsTableOf size incoming (record { nodes = length columns; zero = zero; columns = columns })
unfolding entry
held-table size incoming zero columns within up = record {
  nodes = up.count;
  within = within;
  columns = λ node in-node. let held = up.each node (rw up.count at in-node) in record {
    numbers = held.numbers;
    latest = held.latest;
    entries = λ i in-i. held.same i (rw up.count at in-i);
  };
}

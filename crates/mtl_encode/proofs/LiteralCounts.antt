-- How many literals there are at most in the clauses of the rules of a number.
use Rattle.std.proofs.Common.{ℕ, ◌*◌, ◌≤◌, Bool, true, false, ◌&&◌, if◌then◌else◌, List, [], ◌∷◌, arith}
use Rattle.std.specs.Prelude.{is_ok, not, slice_index, sum_by}
use Rattle.std.proofs.lemmas.List.Sums.{sum_by-cons}
use Rattle.axiom_rules.specs.declared.rule.Rule.{Rule}
use Rattle.axiom_rules.specs.Clauses.{clause_of}
use Rattle.axiom_rules.specs.Sought.{Sought}
use Rattle.mtl_encode.proofs.RangeLemmas.{flat-within}
use Rattle.mtl_encode.specs.Growth.{most_in}
use Rattle.mtl_encode.specs.Instances.{kept, rule_at, with_none, with_one, with_three, with_two}

module _ (s : Sought) (out : Rule → Bool) where
  pub kept-few : (rule : Rule) → sum_by (most_in s) (kept s out rule) ≤ most_in s rule
  kept-few rule = go (is_ok (clause_of s rule) && not (out rule))
    where
      go : (b : Bool) → sum_by (most_in s) (let rs : List Rule = (if b then rule ∷ [] else []) in rs) ≤ most_in s rule
      go true = let sum = sum_by-cons (most_in s) rule [] in omega (arith, sum)
      go false = omega arith

  module _ (number : ℕ) (counts : List ℕ) (m : ℕ) where
    -- where none of those with this first argument has more than m
    module _ (a : ℕ) (few : (b c d : ℕ) → most_in s (rule_at number a b c d) ≤ m) where
      pub three-within : (b c : ℕ) → sum_by (most_in s) (with_three s out number counts a b c) ≤ slice_index counts 3 * m
      three-within b c =
          flat-within (most_in s) (λ d. kept s out (rule_at number a b c d)) m 0 (slice_index counts 3) (λ d. let low = kept-few (rule_at number a b c d) in omega (arith, low, few b c d))

      pub two-within : (b : ℕ) → sum_by (most_in s) (with_two s out number counts a b) ≤ slice_index counts 2 * (slice_index counts 3 * m)
      two-within b = flat-within (most_in s) (with_three s out number counts a b) (slice_index counts 3 * m) 0 (slice_index counts 2) (three-within b)

      pub one-within : sum_by (most_in s) (with_one s out number counts a) ≤ slice_index counts 1 * (slice_index counts 2 * (slice_index counts 3 * m))
      one-within = flat-within (most_in s) (with_two s out number counts a) (slice_index counts 2 * (slice_index counts 3 * m)) 0 (slice_index counts 1) two-within

    -- or none at all
    pub none-within : ((a b c d : ℕ) → most_in s (rule_at number a b c d) ≤ m)
        → sum_by (most_in s) (with_none s out number counts) ≤ slice_index counts 0 * (slice_index counts 1 * (slice_index counts 2 * (slice_index counts 3 * m)))
    none-within few =
        flat-within (most_in s) (with_one s out number counts) (slice_index counts 1 * (slice_index counts 2 * (slice_index counts 3 * m))) 0 (slice_index counts 0) (λ a. one-within a (few a))

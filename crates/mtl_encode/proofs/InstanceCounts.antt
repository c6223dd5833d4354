-- The clauses of all rules that are kept have few literals, by the size of the problem.
use Rattle.std.proofs.Common.{◌≡◌, ap, refl, ℕ, ◌+◌, ◌*◌, ◌<◌, ◌≤◌, Bool, true, List, [], ◌∷◌, length, arith}
use Rattle.std.specs.Prelude.{◌↔◌, slice_index, sum_by}
use Rattle.std.specs.List.{AllByRecursion, flat_map, range_with_len}
use Rattle.std.specs.Option.{option_map_or}
use Rattle.std.proofs.Math.Nat.{mul-le-mul_left, mul_assoc}
use Rattle.std.proofs.lemmas.List.Sums.{sum_by-append, sum_by-le}
use Rattle.std.proofs.lemmas.Nat.{mul-le}
use Rattle.mt_model.specs.Form.{Form, True}
use Rattle.mt_model.specs.declared.limits.TheConstants.{MAX_ROWS}
use Rattle.formula_arena.specs.Nodes.{IsArena, tree_at}
use Rattle.formula_arena.specs.Subtrees.{same_form}
use Rattle.axiom_rules.specs.declared.rule.Rule.{Rule}
use Rattle.axiom_rules.specs.NodeShapes.{changes_in, pulses_in}
use Rattle.axiom_rules.specs.Sought.{Sought}
use Rattle.mtl_encode.proofs.ChangeCounts.{changes_of_tree, pulses-few, pulses_of_tree, rows-few, rows_of_tree, sum-both, tree-few}
use Rattle.mtl_encode.proofs.ChangeRules.{change_count, first-thirds, no-change, no-pulse}
use Rattle.mtl_encode.proofs.Products.{product-few}
use Rattle.mtl_encode.proofs.LiteralCounts.{none-within, one-within, three-within}
use Rattle.mtl_encode.proofs.NodeLemmas.{shape-is}
use Rattle.mtl_encode.proofs.RangeLemmas.{flat-places, flat-within}
use Rattle.mtl_encode.proofs.ReachCounts.{one-event, spans, two-events}
use Rattle.mtl_encode.proofs.SpanRules.{gap-needless, past-needless, three-nothing, within-needless}
use Rattle.question.specs.declared.size.TheConstants.{MAX_SIZE}
use Rattle.mtl_encode.specs.Growth.{HasRoom, most_in, most_literals_of, pulse_count}
use Rattle.mtl_encode.specs.Instances.{instances, is_of_reach, of_number, rule_at, with_none, with_one, with_three, with_two}
use Rattle.question.specs.Extremes.{Extremes}
use Rattle.mtl_encode.specs.Needless.{is_needless, needs_no_span}
use Rattle.question.specs.Size.{size_by, tree_size}

module _ (x : Extremes) (s : Sought) (same : (f g : Form) → (same_form f g ≡ true) ↔ (f ≡ g)) (arena : IsArena s.trees)
    (some_rows : 1 ≤ length s.log.rows) (few_rows : length s.log.rows ≤ MAX_ROWS) (small : size_by x (length s.log.rows) s.trees ≤ MAX_SIZE) where
  abbrev out : Rule → Bool
  out rule = is_needless x s rule

  abbrev nodes : ℕ
  nodes = length s.trees

  abbrev rows : ℕ
  rows = length s.log.rows

  abbrev mass : List Rule → ℕ
  mass rules = sum_by (most_in s) rules

  -- no rule of a number has more literals
  abbrev HasAtMost : ℕ → ℕ → Type 0
  HasAtMost number m = (a b c d : ℕ) → most_in s (rule_at number a b c d) ≤ m

  of-node-event : (number : ℕ) → HasAtMost number 5 → mass (with_none s out number (nodes ∷ rows ∷ 1 ∷ 1 ∷ [])) ≤ 2621440
  of-node-event number few =
      let within = none-within s out number (nodes ∷ rows ∷ 1 ∷ 1 ∷ []) 5 few in
      let low = mul-le nodes (rows * (1 * (1 * 5))) 512 5120 (omega (arith, arena.few)) (omega (arith, few_rows)) in
      omega (arith, within, low)

  of-events : (number : ℕ) → HasAtMost number 5 → mass (with_none s out number (rows ∷ rows ∷ 1 ∷ 1 ∷ [])) ≤ 5242880
  of-events number few =
      let within = none-within s out number (rows ∷ rows ∷ 1 ∷ 1 ∷ []) 5 few in
      let low = mul-le rows (rows * (1 * (1 * 5))) 1024 5120 (omega (arith, few_rows)) (omega (arith, few_rows)) in
      omega (arith, within, low)

  of-event : (number : ℕ) → HasAtMost number (rows + 5) → mass (with_none s out number (rows ∷ 1 ∷ 1 ∷ 1 ∷ [])) ≤ 1053696
  of-event number few =
      let within = none-within s out number (rows ∷ 1 ∷ 1 ∷ 1 ∷ []) (rows + 5) few in
      let low = mul-le rows (1 * (1 * (1 * (rows + 5)))) 1024 1029 (omega (arith, few_rows)) (omega (arith, few_rows)) in
      omega (arith, within, low)

  of-nothing : (number : ℕ) → HasAtMost number (rows + 5) → mass (with_none s out number (1 ∷ 1 ∷ 1 ∷ 1 ∷ [])) ≤ 1029
  of-nothing number few = let within = none-within s out number (1 ∷ 1 ∷ 1 ∷ 1 ∷ []) (rows + 5) few in omega (arith, within, few_rows)

  -- the changes and pulses of a node are those of its tree
  changes-of : (k : ℕ) → k < nodes → change_count s k ≡ changes_of_tree s.log s.trees (tree_at s.trees k)
  changes-of k low = ap (λ shape. option_map_or (λ changes. length changes) (changes_in shape) 0) (shape-is same s arena.once arena.children_first k (tree_at s.trees k) low refl)

  pulses-of : (k : ℕ) → k < nodes → pulse_count s k ≡ pulses_of_tree s.log s.trees (tree_at s.trees k)
  pulses-of k low = ap (λ shape. option_map_or (λ pulses. length pulses) (pulses_in shape) 0) (shape-is same s arena.once arena.children_first k (tree_at s.trees k) low refl)

  -- rule 1, which has a literal for each pulse of its node
  of-start : mass (with_none s out 1 (nodes ∷ rows ∷ 1 ∷ 1 ∷ [])) ≤ 3670016
  of-start =
      let within = flat-places (most_in s) (with_one s out 1 (nodes ∷ rows ∷ 1 ∷ 1 ∷ [])) (λ f. pulses_of_tree s.log s.trees f + 5) True rows 0 s.trees of-one in
      let both = sum-both (pulses_of_tree s.log s.trees) (λ f. 5) s.trees in
      let fives = sum_by-le (λ (f : Form). 5) 5 s.trees (λ k d low. omega arith) in
      let low = mul-le rows (sum_by (λ f. pulses_of_tree s.log s.trees f + 5) s.trees) 1024 3584 few_rows (omega (arith, both, fives, pulses-few s.log s.trees arena.once, few_rows, arena.few)) in
      omega (arith, within, low)
    where
      of-one : (k : ℕ) → k < nodes → mass (with_one s out 1 (nodes ∷ rows ∷ 1 ∷ 1 ∷ []) (0 + k)) ≤ rows * (pulses_of_tree s.log s.trees (tree_at s.trees k) + 5)
      of-one k low =
          let e : 0 + k ≡ k = omega arith in
          let all = one-within s out 1 (nodes ∷ rows ∷ 1 ∷ 1 ∷ []) (pulse_count s k + 5) k (λ b c d. omega arith) in
          let wide : 1 * (1 * (pulse_count s k + 5)) ≡ pulse_count s k + 5 = omega arith in
          rw (e, ← pulses-of k low) (rw wide at all)

  -- rule 2, by the changes of its node, with a literal for each pulse
  of-change : mass (with_none s out 2 (nodes ∷ rows ∷ rows ∷ 1 ∷ [])) ≤ 273678336
  of-change =
      let within = flat-places (most_in s) (with_one s out 2 (nodes ∷ rows ∷ rows ∷ 1 ∷ [])) (rows_of_tree s.log s.trees) True (rows * 261) 0 s.trees of-one in
      let low = mul-le (rows * 261) (sum_by (rows_of_tree s.log s.trees) s.trees) 267264 1024 (omega (arith, few_rows)) (omega (arith, rows-few s.log s.trees arena.once, few_rows)) in
      omega (arith, within, low)
    where
      of-two : (k e : ℕ) → change_count s k ≤ rows → mass (with_two s out 2 (nodes ∷ rows ∷ rows ∷ 1 ∷ []) k e) ≤ change_count s k * (1 * (pulse_count s k + 5))
      of-two k e less =
          rw (first-thirds s out 2 (nodes ∷ rows ∷ rows ∷ 1 ∷ []) (change_count s k) k e less (λ p d past low. no-change s k e p d past))
          (flat-within (most_in s) (with_three s out 2 (nodes ∷ rows ∷ rows ∷ 1 ∷ []) k e) (1 * (pulse_count s k + 5)) 0 (change_count s k)
          (three-within s out 2 (nodes ∷ rows ∷ rows ∷ 1 ∷ []) (pulse_count s k + 5) k (λ b c d. omega arith) e))

      of-one : (k : ℕ) → k < nodes → mass (with_one s out 2 (nodes ∷ rows ∷ rows ∷ 1 ∷ []) (0 + k)) ≤ rows * 261 * rows_of_tree s.log s.trees (tree_at s.trees k)
      of-one k low =
          let e : 0 + k ≡ k = omega arith in
          let few = tree-few s.log s.trees (tree_at s.trees k) in
          let changes = changes-of k low in
          let pulses = pulses-of k low in
          let all =
          flat-within (most_in s) (with_two s out 2 (nodes ∷ rows ∷ rows ∷ 1 ∷ []) k) (change_count s k * (1 * (pulse_count s k + 5))) 0 rows (λ i. of-two k i (omega (arith, few, changes))) in
          let wide : 1 * (pulse_count s k + 5) ≡ pulse_count s k + 5 = omega arith in
          let product = mul-le-mul_left rows (product-few (change_count s k) (pulse_count s k) (omega (arith, few, changes, pulses, few_rows))) in
          let apart = mul_assoc rows 261 (change_count s k + pulse_count s k) in
          rw (e, ← changes, ← pulses) (omega (arith, rw wide at all, product, apart))

  -- rule 27, by the pulses of its node
  of-pulse : mass (with_none s out 27 (nodes ∷ rows ∷ rows ∷ 1 ∷ [])) ≤ 5242880
  of-pulse =
      let within = flat-places (most_in s) (with_one s out 27 (nodes ∷ rows ∷ rows ∷ 1 ∷ [])) (pulses_of_tree s.log s.trees) True (rows * 5) 0 s.trees of-one in
      let low = mul-le (rows * 5) (sum_by (pulses_of_tree s.log s.trees) s.trees) 5120 1024 (omega (arith, few_rows)) (omega (arith, pulses-few s.log s.trees arena.once, few_rows)) in
      omega (arith, within, low)
    where
      of-two : (k e : ℕ) → pulse_count s k ≤ rows → mass (with_two s out 27 (nodes ∷ rows ∷ rows ∷ 1 ∷ []) k e) ≤ pulse_count s k * (1 * 5)
      of-two k e less =
          rw (first-thirds s out 27 (nodes ∷ rows ∷ rows ∷ 1 ∷ []) (pulse_count s k) k e less (λ p d past low. no-pulse s k e p d past))
          (flat-within (most_in s) (with_three s out 27 (nodes ∷ rows ∷ rows ∷ 1 ∷ []) k e) (1 * 5) 0 (pulse_count s k)
          (three-within s out 27 (nodes ∷ rows ∷ rows ∷ 1 ∷ []) 5 k (λ b c d. omega arith) e))

      of-one : (k : ℕ) → k < nodes → mass (with_one s out 27 (nodes ∷ rows ∷ rows ∷ 1 ∷ []) (0 + k)) ≤ rows * 5 * pulses_of_tree s.log s.trees (tree_at s.trees k)
      of-one k low =
          let e : 0 + k ≡ k = omega arith in
          let few = tree-few s.log s.trees (tree_at s.trees k) in
          let pulses = pulses-of k low in
          let all = flat-within (most_in s) (with_two s out 27 (nodes ∷ rows ∷ rows ∷ 1 ∷ []) k) (pulse_count s k * (1 * 5)) 0 rows (λ i. of-two k i (omega (arith, few, pulses))) in
          let five : pulse_count s k * (1 * 5) ≡ 5 * pulse_count s k = omega arith in
          let apart = mul_assoc rows 5 (pulse_count s k) in
          rw (e, ← pulses) (omega (arith, rw five at all, apart))

  -- the rules of untils and sinces, by their sizes
  by-size : (number wide : ℕ) (counts : List ℕ) → slice_index counts 0 ≡ nodes → ((k : ℕ) → k < nodes → mass (with_one s out number counts k) ≤ wide * tree_size x rows (tree_at s.trees k))
      → mass (with_none s out number counts) ≤ wide * MAX_SIZE
  by-size number wide counts all each = rw all (
      let within = flat-places (most_in s) (with_one s out number counts) (tree_size x rows) True wide 0 s.trees (λ k low. let e : 0 + k ≡ k = omega arith in rw e (each k low)) in
      let low = mul-le-mul_left wide small in
      omega (arith, within, low))

  of-pair : (number wide : ℕ) → is_of_reach number ≡ true → HasAtMost number wide → mass (with_none s out number (nodes ∷ rows ∷ rows ∷ 1 ∷ [])) ≤ wide * MAX_SIZE
  of-pair number wide of few = by-size number wide (nodes ∷ rows ∷ rows ∷ 1 ∷ []) refl (λ k less. two-events x s number wide k of (few k))

  of-two : (number : ℕ) → is_of_reach number ≡ true → HasAtMost number 2 → mass (with_none s out number (nodes ∷ rows ∷ rows ∷ 1 ∷ [])) ≤ 8388608
  of-two number of few = let low = of-pair number 2 of few in omega (arith, low)

  of-five : (number : ℕ) → is_of_reach number ≡ true → HasAtMost number 5 → mass (with_none s out number (nodes ∷ rows ∷ rows ∷ 1 ∷ [])) ≤ 20971520
  of-five number of few = let low = of-pair number 5 of few in omega (arith, low)

  of-witnesses : mass (with_none s out 17 (nodes ∷ rows ∷ 1 ∷ 1 ∷ [])) ≤ 25165824
  of-witnesses = let low = by-size 17 6 (nodes ∷ rows ∷ 1 ∷ 1 ∷ []) refl (λ k less. one-event x s some_rows 17 k refl (λ i c d. omega arith)) in omega (arith, low)

  of-gaps : mass (with_none s out 20 (nodes ∷ rows ∷ rows ∷ 1 ∷ [])) ≤ 25165824
  of-gaps =
      let low = by-size 20 6 (nodes ∷ rows ∷ rows ∷ 1 ∷ []) refl (spans x s 20 1 6
      (λ k i j free. three-nothing s out 20 (nodes ∷ rows ∷ rows ∷ 1 ∷ []) k i j (gap-needless x s k i j free))
      (λ k i j. let within = three-within s out 20 (nodes ∷ rows ∷ rows ∷ 1 ∷ []) (rows + 5) k (λ b c d. omega arith) i j in omega (arith, within, some_rows)) same arena refl) in
      omega (arith, low)

  of-span : (number : ℕ) → is_of_reach number ≡ true → HasAtMost number 5 → ((k i j m : ℕ) → needs_no_span x s k i j ≡ true → out (record { number = number; args = k ∷ i ∷ j ∷ m ∷ [] }) ≡ true)
      → mass (with_none s out number (nodes ∷ rows ∷ rows ∷ rows ∷ [])) ≤ 20971520
  of-span number of few left =
      let low = by-size number 5 (nodes ∷ rows ∷ rows ∷ rows ∷ []) refl (spans x s number rows 5
      (λ k i j free. three-nothing s out number (nodes ∷ rows ∷ rows ∷ rows ∷ []) k i j (λ m. left k i j m free))
      (λ k i j. let within = three-within s out number (nodes ∷ rows ∷ rows ∷ rows ∷ []) 5 k (few k) i j in omega (arith, within)) same arena of) in
      omega (arith, low)

  -- how many literals there are at most in the clauses of the rules of a number
  abbrev most_of : List ℕ
  most_of = 0 ∷ 3670016 ∷ 273678336 ∷ 2621440 ∷ 2621440 ∷ 2621440 ∷ 2621440 ∷ 2621440 ∷ 2621440 ∷ 5242880 ∷ 1053696 ∷ 1029
      ∷ 8388608 ∷ 8388608 ∷ 8388608 ∷ 8388608 ∷ 20971520 ∷ 25165824 ∷ 8388608 ∷ 20971520 ∷ 25165824 ∷ 20971520 ∷ 8388608 ∷ 8388608 ∷ 1053696 ∷ 5242880 ∷ 5242880 ∷ 5242880 ∷ 20971520 ∷ []

  abbrev IsFew : ℕ → Type 0
  IsFew number = mass (of_number s out number) ≤ slice_index most_of number

  -- of rule 24 and those after it, ..
  last-few : AllByRecursion IsFew (range_with_len 24 5)
  last-few = (of-event 24 (λ a b c d. omega arith), (of-events 25 (λ a b c d. omega arith), (of-events 26 (λ a b c d. omega arith), (of-pulse, (of-five 28 refl (λ a b c d. omega arith), tt)))))

  -- .. of those of untils and sinces too, ..
  later-few : AllByRecursion IsFew (range_with_len 12 17)
  later-few = (
    of-two 12 refl
        (λ a b c d. omega arith),
    (
      of-two 13 refl
          (λ a b c d. omega arith),
      (
        of-two 14 refl
            (λ a b c d. omega arith),
        (
          of-two 15 refl
              (λ a b c d. omega arith),
          (
            of-five 16 refl
                (λ a b c d. omega
                arith),
            (
              of-witnesses,
              (
                of-two 18 refl
                    (λ a b c d. omega arith),
                (
                  of-span 19 refl (λ a b c d. omega arith) (λ k i j m free. within-needless x s k i j free m),
                  (
                    of-gaps,
                    (
                      of-span 21 refl (λ a b c d. omega arith) (λ k i j m free. past-needless x s k i j free m),
                      (of-two 22 refl (λ a b c d. omega arith), (of-two 23 refl (λ a b c d. omega arith), last-few)),
                    ),
                  ),
                ),
              ),
            ),
          ),
        ),
      ),
    ),
  )

  -- .. and of all
  each-few : AllByRecursion IsFew (range_with_len 0 29)
  each-few = (
    omega
        arith,
    (
      of-start,
      (
        of-change,
        (
          of-node-event 3
              (λ a b c d. omega arith),
          (
            of-node-event 4
                (λ a b c d. omega arith),
            (
              of-node-event 5
                  (λ a b c d. omega arith),
              (
                of-node-event 6
                    (λ a b c d. omega arith),
                (
                  of-node-event 7
                      (λ a b c d. omega arith),
                  (
                    of-node-event 8
                        (λ a b c d. omega arith),
                    (of-events 9 (λ a b c d. omega arith), (of-event 10 (λ a b c d. omega arith), (of-nothing 11 (λ a b c d. omega arith), later-few))),
                  ),
                ),
              ),
            ),
          ),
        ),
      ),
    ),
  )

  abbrev total : List ℕ → ℕ
  total [] = 0
  total (n ∷ ns) = slice_index most_of n + total ns

  flat-few : (ns : List ℕ) → AllByRecursion IsFew ns → mass (flat_map (of_number s out) ns) ≤ total ns
  flat-few [] few = omega arith
  flat-few (n ∷ ns) few =
      let ih = flat-few ns few.1 in
      let here = few.0 in
      let sum = sum_by-append (most_in s) (of_number s out n) (flat_map (of_number s out) ns) in
      omega (arith, ih, here, sum)

  -- there are variables for the atoms of all of them
  pub room-for-all : HasRoom s (instances s out)
  unfolding most_literals_of
  room-for-all =
      let few = flat-few (range_with_len 0 29) each-few in
      let sum : total (range_with_len 0 29) ≡ 509094917 = refl in
      omega (arith, few, sum)

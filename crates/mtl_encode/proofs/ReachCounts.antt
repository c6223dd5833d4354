-- How many literals there are at most in the clauses of the rules of an until or a since.
use Rattle.std.proofs.Common.{◌≡◌, ◌∙◌, ap, refl, ℕ, ◌+◌, ◌*◌, ◌^◌, ◌<◌, ◌≤◌, cond, Bool, true, false, ◌||◌, ◌&&◌, if◌then◌else◌, List, [], ◌∷◌, length, Option, Some, None, inl, inr, ℤ, pos, arith}
use Rattle.std.specs.Prelude.{◌↔◌, count_by, int_le, int_lt, sum_by}
use Rattle.std.specs.List.{range_with_len}
use Rattle.std.specs.Option.{option_map_or}
use Rattle.std.proofs.Math.Nat.{mul-le-mul_left, mul_assoc, mul_comm}
use Rattle.std.proofs.lemmas.Bool.{cases_Bool, or_left, or_right}
use Rattle.std.proofs.lemmas.Int.{ints}
use Rattle.mt_model.specs.declared.tree.Interval.{Interval}
use Rattle.mt_model.specs.Form.{Form, True, False, Prop, Not, And, Or, Implies, Until, Since, Eventually, Always, Once, Historically}
use Rattle.formula_arena.specs.declared.direction.Direction.{Direction}
use Rattle.formula_arena.specs.declared.direction.Direction.TheVariants.{Ahead, Behind}
use Rattle.formula_arena.specs.Nodes.{IsArena, tree_at}
use Rattle.formula_arena.specs.Subtrees.{same_form}
use Rattle.axiom_rules.specs.declared.reach.Reach.{Reach}
use Rattle.axiom_rules.specs.declared.rule.Rule.{Rule}
use Rattle.axiom_rules.specs.NodeShapes.{is_constant, number_of, reach_in, shape_at, shape_of}
use Rattle.axiom_rules.specs.Sought.{Sought}
use Rattle.question.proofs.Cubes.{square}
use Rattle.mtl_encode.proofs.LiteralCounts.{one-within}
use Rattle.mtl_encode.proofs.NodeLemmas.{child-there, shape-is}
use Rattle.mtl_encode.proofs.RangeLemmas.{flat-by, flat-nothing}
use Rattle.mtl_encode.proofs.ReachRules.{no-reach, one-nothing}
use Rattle.mtl_encode.specs.Growth.{most_in}
use Rattle.mtl_encode.specs.Instances.{is_of_reach, rule_at, with_one, with_three, with_two}
use Rattle.question.specs.Extremes.{Extremes, farthest, is_live, nearest}
use Rattle.mtl_encode.specs.Needless.{has_constant, is_dead, is_needless, needs_no_span}
use Rattle.question.specs.Size.{is_reach, is_true, live_pairs, tree_size}

-- a pair that isn't live is dead
low-fails : (a b : ℤ) → int_le a b ≡ false → int_lt b a ≡ true
low-fails a b fails = grind (arith, ints)

live-or-dead : (from : Bool) (low far near : ℤ) (high : Option ℕ) → int_le low far ≡ from → from && option_map_or (λ b. int_le near (pos b)) high true ≡ false
    → int_lt far low || option_map_or (λ b. int_lt (pos b) near) high false ≡ true
live-or-dead false low far near high is fails = or_left (int_lt far low) _ (low-fails low far is)
live-or-dead true low far near None is fails = absurd (cc)
live-or-dead true low far near (Some b) is fails = or_right (int_lt far low) (int_lt (pos b) near) (low-fails near (pos b) fails)

pub not-live : (x : Extremes) (u : Reach) (i j : ℕ) → is_live x u.direction u.interval i j ≡ false → is_dead x u i j ≡ true
not-live x u i j fails =
    live-or-dead (int_le (pos u.interval.low) (farthest x u.direction i j)) (pos u.interval.low) (farthest x u.direction i j) (nearest x u.direction i j) u.interval.high refl fails

-- the tree `true` is a constant
true-constant : (s : Sought) (f : Form) → is_true f ≡ true → is_constant (shape_of s.log s.trees f) ≡ true
true-constant s True is = refl
true-constant s False is = absurd (cc)
true-constant s (Prop host name) is = absurd (cc)
true-constant s (Not f) is = absurd (cc)
true-constant s (And f g) is = absurd (cc)
true-constant s (Or f g) is = absurd (cc)
true-constant s (Implies f g) is = absurd (cc)
true-constant s (Until I f g) is = absurd (cc)
true-constant s (Since I f g) is = absurd (cc)
true-constant s (Eventually I f) is = absurd (cc)
true-constant s (Always I f) is = absurd (cc)
true-constant s (Once I f) is = absurd (cc)
true-constant s (Historically I f) is = absurd (cc)

module _ (x : Extremes) (s : Sought) where
  abbrev rows : ℕ
  rows = length s.log.rows

  abbrev nodes : ℕ
  nodes = length s.trees

  abbrev mass : List Rule → ℕ
  mass rules = sum_by (most_in s) rules

  -- an until or a since is at least as large as the square of the rows
  square-low : (f : Form) → is_reach f ≡ true → rows * rows ≤ tree_size x rows f
  square-low True is = absurd (cc)
  square-low False is = absurd (cc)
  square-low (Prop host name) is = absurd (cc)
  square-low (Not f) is = absurd (cc)
  square-low (And f g) is = absurd (cc)
  square-low (Or f g) is = absurd (cc)
  square-low (Implies f g) is = absurd (cc)
  square-low (Until I f g) is = omega (arith, square rows)
  square-low (Since I f g) is = omega (arith, square rows)
  square-low (Eventually I f) is = absurd (cc)
  square-low (Always I f) is = absurd (cc)
  square-low (Once I f) is = absurd (cc)
  square-low (Historically I f) is = absurd (cc)

  -- rules of two events, each with at most so many literals
  pub two-events : (number wide k : ℕ) → is_of_reach number ≡ true → ((i j d : ℕ) → most_in s (rule_at number k i j d) ≤ wide)
      → mass (with_one s (is_needless x s) number (nodes ∷ rows ∷ rows ∷ 1 ∷ []) k) ≤ wide * tree_size x rows (tree_at s.trees k)
  two-events number wide k of few = elim (cases_Bool (is_reach (tree_at s.trees k))) [
    | inl is ↦
        let low = one-within s (is_needless x s) number (nodes ∷ rows ∷ rows ∷ 1 ∷ []) wide k few in
        let square = mul-le-mul_left wide (square-low (tree_at s.trees k) is) in
        let turned = mul_comm wide (rows * rows) in
        let apart = mul_assoc rows rows wide in
        let one : 1 * wide ≡ wide = omega arith in
        let within : mass (with_one s (is_needless x s) number (nodes ∷ rows ∷ rows ∷ 1 ∷ []) k) ≤ rows * (rows * wide) = rw one at low in
        omega (arith, within, square, turned, apart)
    | inr fails ↦ rw (one-nothing s (is_needless x s) k (no-reach s k fails) number (nodes ∷ rows ∷ rows ∷ 1 ∷ []) of) (omega arith)
  ]

  module _ (some_rows : 1 ≤ rows) where
    -- rules of one event, each with a literal for each event
    pub one-event : (number k : ℕ) → is_of_reach number ≡ true → ((i c d : ℕ) → most_in s (rule_at number k i c d) ≤ rows + 5)
        → mass (with_one s (is_needless x s) number (nodes ∷ rows ∷ 1 ∷ 1 ∷ []) k) ≤ 6 * tree_size x rows (tree_at s.trees k)
    one-event number k of few = elim (cases_Bool (is_reach (tree_at s.trees k))) [
      | inl is ↦
          let low = one-within s (is_needless x s) number (nodes ∷ rows ∷ 1 ∷ 1 ∷ []) (rows + 5) k few in
          let square = square-low (tree_at s.trees k) is in
          let wide : 1 * (1 * (rows + 5)) ≤ 6 * rows = omega (arith, some_rows) in
          let more = mul-le-mul_left rows wide in
          let less : rows * (6 * rows) ≤ 6 * tree_size x rows (tree_at s.trees k) = omega (arith, square) in
          omega (arith, low, more, less)
      | inr fails ↦ rw (one-nothing s (is_needless x s) k (no-reach s k fails) number (nodes ∷ rows ∷ 1 ∷ 1 ∷ []) of) (omega arith)
    ]

  -- rules of a span, which are left out where none is needed: those of two events have at most so many literals for each row
  module _ (number last wide : ℕ) (none : (k i j : ℕ) → needs_no_span x s k i j ≡ true → with_three s (is_needless x s) number (nodes ∷ rows ∷ rows ∷ last ∷ []) k i j ≡ [])
      (few : (k i j : ℕ) → mass (with_three s (is_needless x s) number (nodes ∷ rows ∷ rows ∷ last ∷ []) k i j) ≤ wide * rows) where
    abbrev counts : List ℕ
    counts = nodes ∷ rows ∷ rows ∷ last ∷ []

    module _ (k : ℕ) (u : Reach) (at : reach_in (shape_at s k) ≡ Some u) where
      not-needed : (i j : ℕ) → is_dead x u i j || has_constant x s u ≡ true → with_three s (is_needless x s) number counts k i j ≡ []
      not-needed i j is = none k i j (rw at is)

      of-pair : (i j : ℕ) → mass (with_three s (is_needless x s) number counts k i j) ≤ wide * rows * cond (is_live x u.direction u.interval i j) 1 0
      of-pair i j = elim (cases_Bool (is_live x u.direction u.interval i j)) [
        | inl live ↦ rw live (omega (arith, few k i j))
        | inr dead ↦ rw (dead, not-needed i j (or_left (is_dead x u i j) (has_constant x s u) (not-live x u i j dead))) (omega arith)
      ]

      of-event : (i : ℕ) → mass (with_two s (is_needless x s) number counts k i) ≤ wide * rows * count_by (is_live x u.direction u.interval i) (range_with_len 0 rows)
      of-event i = flat-by (most_in s) (with_three s (is_needless x s) number counts k i) (λ j. cond (is_live x u.direction u.interval i j) 1 0) (wide * rows) 0 rows (of-pair i)

      of-node : mass (with_one s (is_needless x s) number counts k) ≤ wide * rows * live_pairs x u.direction u.interval rows
      unfolding live_pairs
      of-node = flat-by (most_in s) (with_two s (is_needless x s) number counts k) (λ i. count_by (is_live x u.direction u.interval i) (range_with_len 0 rows)) (wide * rows) 0 rows of-event

      of-constant : has_constant x s u ≡ true → with_one s (is_needless x s) number counts k ≡ []
      of-constant is = flat-nothing (with_two s (is_needless x s) number counts k) 0 rows (λ i low-i high-i.
          flat-nothing (with_three s (is_needless x s) number counts k i) 0 rows (λ j low-j high-j. not-needed i j (or_right (is_dead x u i j) (has_constant x s u) is)))

      by-left : (free : Bool) → (free ≡ true → has_constant x s u ≡ true)
          → mass (with_one s (is_needless x s) number counts k) ≤ wide * (rows ^ 2 + (if free then 0 else rows * live_pairs x u.direction u.interval rows))
      by-left true constant = rw (of-constant (constant refl)) (omega arith)
      by-left false constant =
          let same = mul_assoc wide rows (live_pairs x u.direction u.interval rows) in
          let low = of-node in
          let more = mul-le-mul_left wide (let less : rows * live_pairs x u.direction u.interval rows ≤ rows ^ 2 + rows * live_pairs x u.direction u.interval rows = omega arith in less) in
          omega (arith, same, low, more)

    module _ (same : (f g : Form) → (same_form f g ≡ true) ↔ (f ≡ g)) (arena : IsArena s.trees) (of : is_of_reach number ≡ true) where
      -- the left side of an until or a since is a constant where it is the tree `true`
      left-constant : (k : ℕ) (tree f : Form) (direction : Direction) (I : Interval) (right : ℕ) → k < nodes → tree_at s.trees k ≡ tree
          → (number_of s.trees f < nodes) × (tree_at s.trees (number_of s.trees f) ≡ f)
          → is_true f ≡ true → has_constant x s (record { direction = direction; interval = I; left = number_of s.trees f; right = right }) ≡ true
      left-constant k tree f direction I right low at child is = ap is_constant (shape-is same s arena.once arena.children_first (number_of s.trees f) f child.0 child.1) ∙ true-constant s f is

      of-tree : (k : ℕ) (f : Form) → k < nodes → tree_at s.trees k ≡ f → is_reach f ≡ true → mass (with_one s (is_needless x s) number counts k) ≤ wide * tree_size x rows f
      of-tree k True low at is = absurd (cc)
      of-tree k False low at is = absurd (cc)
      of-tree k (Prop host name) low at is = absurd (cc)
      of-tree k (Not f) low at is = absurd (cc)
      of-tree k (And f g) low at is = absurd (cc)
      of-tree k (Or f g) low at is = absurd (cc)
      of-tree k (Implies f g) low at is = absurd (cc)
      of-tree k (Until I f g) low at is =
          let child = child-there same s arena.once arena.children_first k 0 (Until I f g) f low at (omega arith) refl in
          by-left k (record { direction = Ahead; interval = I; left = number_of s.trees f; right = number_of s.trees g })
          (ap reach_in (shape-is same s arena.once arena.children_first k (Until I f g) low at))
          (is_true f) (left-constant k (Until I f g) f Ahead I (number_of s.trees g) low at (child.low, child.tree))
      of-tree k (Since I f g) low at is =
          let child = child-there same s arena.once arena.children_first k 0 (Since I f g) f low at (omega arith) refl in
          by-left k (record { direction = Behind; interval = I; left = number_of s.trees f; right = number_of s.trees g })
          (ap reach_in (shape-is same s arena.once arena.children_first k (Since I f g) low at))
          (is_true f) (left-constant k (Since I f g) f Behind I (number_of s.trees g) low at (child.low, child.tree))
      of-tree k (Eventually I f) low at is = absurd (cc)
      of-tree k (Always I f) low at is = absurd (cc)
      of-tree k (Once I f) low at is = absurd (cc)
      of-tree k (Historically I f) low at is = absurd (cc)

      pub spans : (k : ℕ) → k < nodes → mass (with_one s (is_needless x s) number counts k) ≤ wide * tree_size x rows (tree_at s.trees k)
      spans k low = elim (cases_Bool (is_reach (tree_at s.trees k))) [
        | inl is ↦ of-tree k (tree_at s.trees k) low refl is
        | inr fails ↦ rw (one-nothing s (is_needless x s) k (no-reach s k fails) number counts of) (omega arith)
      ]

-- Each node has at each event the truth value of its tree.
use Rattle.std.proofs.Common.{◌≡◌, ◌∙◌, ap, refl, subst, ℕ, ◌<◌, Bool, true, false, not, ◌||◌, List, [], length, Option, Some, None, ℤ, ◌-ℤ◌, arith}
use Rattle.std.specs.Prelude.{◌↔◌, All, int_le, slice_index_or}
use Rattle.std.specs.List.{list_any}
use Rattle.std.specs.Option.{option_map_or}
use Rattle.std.specs.Ordering.{int_eq}
use Rattle.mt_model.specs.declared.tree.Interval.{Interval}
use Rattle.mt_model.specs.Form.{Form, True, False, Prop, Not, And, Or, Implies, Until, Since, Eventually, Always, Once, Historically}
use Rattle.mt_model.specs.Frame.{Frame, reaches}
use Rattle.mt_model.specs.State.{Change, changes_of, host_named, pulses_of, state}
use Rattle.mt_model.specs.Timing.{time_of}
use Rattle.mt_model.specs.Truth.{rows_in, truth_of}
use Rattle.mt_model.proofs.FrameLemmas.{Carries, reaches_same}
use Rattle.mt_model.proofs.Members.{Among}
use Rattle.formula_arena.specs.Cores.{IsCore}
use Rattle.formula_arena.specs.Nodes.{StandsBefore, tree_at}
use Rattle.formula_arena.specs.Subtrees.{children_of, same_form}
use Rattle.formula_arena.specs.Directions.{is_near, met}
use Rattle.formula_arena.specs.declared.direction.Direction.{Direction}
use Rattle.formula_arena.specs.declared.direction.Direction.TheVariants.{Ahead, Behind}
use Rattle.axiom_rules.specs.declared.literal.Atom.{Atom}
use Rattle.axiom_rules.specs.declared.literal.Atom.TheVariants.{Gap, Node, Order, Span, Wit}
use Rattle.axiom_rules.specs.NodeShapes.{is_constant, number_of, operand_in, proposition_in, pulses_named, reach_in, rows_named, shape_at, shape_of, sides_in}
use Rattle.axiom_rules.specs.Rules.{is_pulse_row}
use Rattle.axiom_rules.specs.Sought.{Sought}
use Rattle.axiom_rules.proofs.ChangeLemmas.{is_by, last_of}
use Rattle.axiom_rules.proofs.MeaningLemmas.{at_row, near-ahead, row_at}
use Rattle.axiom_rules.proofs.PulseLemmas.{IsPulse, pulses-are}
use Rattle.mtl_encode.specs.Exact.{SatisfiesKept}
use Rattle.question.specs.Extremes.{Extremes}
use Rattle.mtl_encode.specs.Needless.{is_dead, is_needless}
use Rattle.mtl_encode.proofs.ExtremeUses.{BoundsTimes}
use Rattle.mtl_encode.proofs.NodeLemmas.{IsThere, child-there, shape-is}
use Rattle.mtl_encode.proofs.NodeUses.{conjunction-exact, constant-exact, negation-exact, proposition-exact}
use Rattle.mtl_encode.proofs.PulseUses.{of-each}
use Rattle.mtl_encode.proofs.ReachExact.{reach-exact}
use Rattle.mtl_encode.proofs.ReachUses.{reach-allowed}

-- the points of a frame, carried to themselves
to_themselves : {X : Type 0} (F : Frame X) → Carries F F (λ x. x)
to_themselves F = record { into = λ x a. a; onto = λ y b. (y, b, refl); not_after = λ x y a b. refl; instant = λ x a. refl }

module _ (s : Sought) (x : Extremes) (v : Atom → Bool) (satisfied : SatisfiesKept s (is_needless x s) v) (t : List ℤ)
    (agrees : (e f : ℕ) (c : ℤ) → v (Order e f c) ≡ int_le (time_of t e -ℤ time_of t f) c)
    (bounded : BoundsTimes x t (length s.log.rows)) (count : length t ≡ length s.log.rows)
    (same : (f g : Form) → (same_form f g ≡ true) ↔ (f ≡ g)) (cores : (k : ℕ) → k < length s.trees → IsCore (tree_at s.trees k))
    (once : (j k : ℕ) → j < length s.trees → k < length s.trees → tree_at s.trees j ≡ tree_at s.trees k → j ≡ k)
    (children_first : (k : ℕ) → k < length s.trees → All (StandsBefore s.trees k) (children_of (tree_at s.trees k))) where
  abbrev told : Form → ℕ → Bool
  told f e = truth_of s.log t e f

  -- wherever the tree is a node, the node has its truth value at each event
  abbrev IsExact : Form → Type 0
  IsExact f = (k e : ℕ) → k < length s.trees → tree_at s.trees k ≡ f → e < length s.log.rows → v (Node k e) ≡ told f e

  -- the tree of a node is a core tree
  is_core : (k : ℕ) (f : Form) → k < length s.trees → tree_at s.trees k ≡ f → IsCore f
  is_core k f low tree = subst IsCore tree (cores k low)

  child : (k place : ℕ) (g h : Form) → k < length s.trees → tree_at s.trees k ≡ g → place < length (children_of g) → slice_index_or (children_of g) place h ≡ h
      → IsThere same s once children_first (number_of s.trees h) h
  child k place g h low tree within at = child-there same s once children_first k place g h low tree within at

  is-shape : (k : ℕ) (g : Form) → k < length s.trees → tree_at s.trees k ≡ g → shape_at s k ≡ shape_of s.log s.trees g
  is-shape k g low tree = shape-is same s once children_first k g low tree

  -- the pulses of a proposition are pulse rows of the log
  pulses-named : (host name : List ℕ) (u : ℕ) → Among (pulses_named s.log host name) u → (u < length s.log.rows) × (is_pulse_row s.log u ≡ true)
  pulses-named host name u = go (host_named s.log host)
    where
      go : (o : Option ℕ) → Among (option_map_or (λ h. pulses_of s.log h name) o []) u → (u < length s.log.rows) × (is_pulse_row s.log u ≡ true)
      go None among = absurd among
      go (Some h) among = of-each (IsPulse s.log h name) (pulses_of s.log h name) u (pulses-are s.log h name) among

  state-named : (instant : ℤ) (host name : List ℕ) (h : Option ℕ)
      → list_any (λ u. int_eq (time_of t u) instant) (option_map_or (λ h. pulses_of s.log h name) h []) || option_map_or (λ (c : Change). c.sets)
      (last_of (is_by t instant) (option_map_or (λ h. changes_of s.log h name) h [])) false
      ≡ option_map_or (λ h. state s.log t instant h name) h false
  state-named instant host name None = refl
  state-named instant host name (Some h) = refl

  exact-prop : (host name : List ℕ) → IsExact (Prop host name)
  exact-prop host name k e low tree in_ =
      proposition-exact s x v satisfied t agrees k e (rows_named s.log host name) low in_ (ap proposition_in (is-shape k (Prop host name) low tree)) (pulses-named host name)
      ∙ state-named (time_of t e) host name (host_named s.log host)

  exact-not : (f : Form) → IsExact f → IsExact (Not f)
  exact-not f exact k e low tree in_ =
      let a = child k 0 (Not f) f low tree (omega arith) refl in
      negation-exact s x v satisfied k e (number_of s.trees f) low in_ (ap operand_in (is-shape k (Not f) low tree)) ∙ ap not (exact (number_of s.trees f) e a.low a.tree in_)

  exact-and : (f g : Form) → IsExact f → IsExact g → IsExact (And f g)
  exact-and f g exact_f exact_g k e low tree in_ =
      let a = child k 0 (And f g) f low tree (omega arith) refl in
      let b = child k 1 (And f g) g low tree (omega arith) refl in
      conjunction-exact s x v satisfied k e (number_of s.trees f) (number_of s.trees g) low in_ (ap sides_in (is-shape k (And f g) low tree))
      ∙ rw (exact_f (number_of s.trees f) e a.low a.tree in_, exact_g (number_of s.trees g) e b.low b.tree in_) refl

  exact-reach : (direction : Direction) (I : Interval) (f g : Form) → IsExact f → IsExact g → (k e : ℕ) → k < length s.trees → e < length s.log.rows
      → reach_in (shape_at s k) ≡ Some (record { direction = direction; interval = I; left = number_of s.trees f; right = number_of s.trees g })
      → IsThere same s once children_first (number_of s.trees f) f → IsThere same s once children_first (number_of s.trees g) g
      → v (Node k e) ≡ reaches (met direction (rows_in t)) (is_near direction (rows_in t) I) (told f) (told g) e
  exact-reach direction I f g exact_f exact_g k e low in_ node a b =
      let O = met direction (rows_in t) in
      let near = is_near direction (rows_in t) I in
      let l = number_of s.trees f in
      let r = number_of s.trees g in
      let left : ℕ → Bool = λ x. v (Node l x) in
      let right : ℕ → Bool = λ x. v (Node r x) in
      let point = at_row s.log t s.trees direction e (omega (arith, in_, count)) in
      reach-exact O near (is_dead x (record { direction = direction; interval = I; left = l; right = r })) (is_constant (shape_at s l)) left right
      (λ x. v (Node k x)) (λ i j. v (Wit k i j)) (λ i j. v (Span k i j)) (λ i m. v (Gap k i m))
      (reach-allowed s x v satisfied t agrees bounded k low direction I l r node count a.low) (near-ahead s.log t s.trees direction I) e point
      ∙ reaches_same O O (λ x. x) (to_themselves O) near near (λ x y c d. refl) left (told f) (λ x c. exact_f l x a.low a.tree (in-log direction x c)) right
      (told g) (λ x c. exact_g r x b.low b.tree (in-log direction x c)) e point
    where
      in-log : (direction : Direction) (x : ℕ) → Among (met direction (rows_in t)).points x → x < length s.log.rows
      in-log direction x among = let less = row_at s.log t s.trees direction x among in omega (arith, less, count)

  pub node-exact : (f : Form) → IsExact f
  node-exact True k e low tree in_ = constant-exact s x v satisfied k e low in_ (ap is_constant (is-shape k True low tree))
  node-exact False k e low tree in_ = absurd (cc (is_core k False low tree))
  node-exact (Prop host name) k e low tree in_ = exact-prop host name k e low tree in_
  node-exact (Not f) k e low tree in_ = exact-not f (node-exact f) k e low tree in_
  node-exact (And f g) k e low tree in_ = exact-and f g (node-exact f) (node-exact g) k e low tree in_
  node-exact (Or f g) k e low tree in_ = absurd (cc (is_core k (Or f g) low tree))
  node-exact (Implies f g) k e low tree in_ = absurd (cc (is_core k (Implies f g) low tree))
  node-exact (Until I f g) k e low tree in_ =
      exact-reach Ahead I f g (node-exact f) (node-exact g) k e low in_ (ap reach_in (is-shape k (Until I f g) low tree))
      (child k 0 (Until I f g) f low tree (omega arith) refl) (child k 1 (Until I f g) g low tree (omega arith) refl)
  node-exact (Since I f g) k e low tree in_ =
      exact-reach Behind I f g (node-exact f) (node-exact g) k e low in_ (ap reach_in (is-shape k (Since I f g) low tree))
      (child k 0 (Since I f g) f low tree (omega arith) refl) (child k 1 (Since I f g) g low tree (omega arith) refl)
  node-exact (Eventually I f) k e low tree in_ = absurd (cc (is_core k (Eventually I f) low tree))
  node-exact (Always I f) k e low tree in_ = absurd (cc (is_core k (Always I f) low tree))
  node-exact (Once I f) k e low tree in_ = absurd (cc (is_core k (Once I f) low tree))
  node-exact (Historically I f) k e low tree in_ = absurd (cc (is_core k (Historically I f) low tree))

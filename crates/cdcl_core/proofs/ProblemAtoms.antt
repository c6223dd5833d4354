-- The atoms of a problem that fits are in range, and its orders are differences within the limits; so is the number of its edges.
use Rattle.std.proofs.Common.{◌≡◌, sym, ap, subst, ℕ, ◌+◌, ◌<◌, ◌≤◌, Bool, true, List, length, Some, Ok, arith, ℤ, pos, neg_ℤ}
use Rattle.std.specs.Prelude.{◌&&◌, All, IsTrue, nat_le, nat_lt, slice_index_or}
use Rattle.std.proofs.lemmas.Bool.{and_from, and_parts, leb-true, lt-ltb, ltb-true}
use Rattle.std.proofs.lemmas.Int.{ints}
use Rattle.std.proofs.lemmas.List.{length-map}
use Rattle.mt_model.specs.declared.bound.Bound.{Bound}
use Rattle.mt_model.specs.declared.limits.TheConstants.{MAX_DISTANCE, MAX_ORDER}
use Rattle.mt_model.specs.declared.tree.Interval.{Interval}
use Rattle.mt_model.specs.Bounds.{bounds_of}
use Rattle.mt_model.specs.Form.{Form, IsFormula, is_interval}
use Rattle.mt_model.specs.Log.{IsLog, IsWithin, Logged}
use Rattle.mt_model.proofs.Conflicts.{both_true}
use Rattle.mt_model.proofs.Members.{Among}
use Rattle.neg_cycle.specs.declared.system.Edge.{Edge}
use Rattle.neg_cycle.specs.declared.system.TheConstants.{MAX_EDGES}
use Rattle.skew_bounds.specs.Edges.{AreEdges}
use Rattle.skew_bounds.proofs.BoundCounts.{few-bounds}
use Rattle.formula_arena.specs.Laws.{CoresAreCores, NodesAreSubtrees}
use Rattle.axiom_rules.specs.declared.literal.Atom.{Atom}
use Rattle.axiom_rules.specs.declared.literal.Atom.TheVariants.{Order, Node, First, Same, Wit, Span, Gap}
use Rattle.axiom_rules.specs.declared.literal.Literal.{Literal}
use Rattle.axiom_rules.specs.declared.reach.Reach.{Reach}
use Rattle.axiom_rules.specs.declared.rule.Rule.{Rule}
use Rattle.axiom_rules.specs.Clauses.{clause_of}
use Rattle.axiom_rules.specs.NodeShapes.{reach_in, shape_at}
use Rattle.axiom_rules.specs.Sought.{Sought, sought_of}
use Rattle.axiom_rules.proofs.RulesMade.{AreBounds, BothWays, IsMadeOf, IsReach, atoms-made}
use Rattle.hint_refutation.proofs.Lists.{any_found}
use Rattle.proof_log.specs.Derivations.{is_event, is_in_range, is_reach}
use Rattle.mtl_encode.specs.declared.problem.Problem.{Problem}
use Rattle.mtl_encode.specs.Problems.{Fits, StandsIn}
use Rattle.mtl_encode.proofs.RangeLemmas.{among-at}
use Rattle.cdcl_core.specs.Orders.{IsOrderAmong}
use Rattle.cdcl_core.proofs.SoughtNodes.{interval-at, sought-nodes}

-- nothing is asked of a bound
abbrev Anything : ℤ → Type 0
Anything c = Unit {0}

low-of : (I : Interval) → is_interval I ≡ true → I.low ≤ MAX_DISTANCE
low-of I is = leb-true I.low MAX_DISTANCE (and_parts (nat_le I.low MAX_DISTANCE) _ is).0

high-of : (I : Interval) (b : ℕ) → I.high ≡ Some b → is_interval I ≡ true → b ≤ MAX_DISTANCE
high-of I b at is =
    let upper = (and_parts (nat_le I.low MAX_DISTANCE) _ is).1 in
    let known : (nat_le b MAX_DISTANCE && nat_le I.low b) ≡ true = rw at at upper in
    leb-true b MAX_DISTANCE (and_parts (nat_le b MAX_DISTANCE) (nat_le I.low b) known).0

upper-within : (n : ℕ) → n ≤ MAX_DISTANCE → BothWays (IsWithin MAX_ORDER) (pos n)
upper-within n few = record { bound = record { low = omega (arith, ints, few); high = omega (arith, ints, few) }; negated = record { low = omega (arith, ints, few); high = omega (arith, ints, few) } }

lower-within : (n : ℕ) → n ≤ MAX_DISTANCE → BothWays (IsWithin MAX_ORDER) (neg_ℤ (pos n))
lower-within n few = record { bound = record { low = omega (arith, ints, few); high = omega (arith, ints, few) }; negated = record { low = omega (arith, ints, few); high = omega (arith, ints, few) } }

-- each atom of a problem that fits stands in the clause of a rule
fits-atoms : (P : Atom → Type 0) (s : Sought) (p : Problem) → Fits s p → ((rule : Rule) (c : List Literal) (l : Literal) → clause_of s rule ≡ Ok c → Among c l → P l.atom) → All P p.atoms
fits-atoms P s p fits each k d low =
    let a = slice_index_or p.atoms k d in
    let (rule, has, stands) = any_found (StandsIn s a) p.rules (fits.atoms k d low) in
    let (l, there, is) = any_found (λ (x : Literal). x.atom ≡ a) stands.clause stands.there in
    let in_ : Among stands.clause l = subst (Among stands.clause) there.2 (among-at stands.clause there.0 l there.1) in
    subst P is (each rule stands.clause l stands.of_rule in_)

three-in-range : (s : Sought) (k i j : ℕ) → IsReach s k × (i < length s.log.rows) × (j < length s.log.rows) → (is_reach s k && is_event s i && is_event s j) ≡ true
three-in-range s k i j known =
    and_from (is_reach s k && is_event s i) (is_event s j) (and_from (is_reach s k) (is_event s i) known.0 (lt-ltb i (length s.log.rows) known.1)) (lt-ltb j (length s.log.rows) known.2)

-- below the number of the nodes
abbrev IsNode : Sought → ℕ → Type 0
IsNode s k = k < length s.trees

in-range-made : (s : Sought) (B : ℤ → Type 0) (a : Atom) → IsMadeOf s (IsNode s) B a → IsTrue (is_in_range s a)
in-range-made s B (Order e f c) made =
    and_from (nat_lt e (length s.log.rows)) (nat_lt f (length s.log.rows)) (lt-ltb e (length s.log.rows) (omega (arith, made.0, made.1))) (lt-ltb f (length s.log.rows) made.1)
in-range-made s B (Node k e) made = and_from (nat_lt k (length s.trees)) (nat_lt e (length s.log.rows)) (lt-ltb k (length s.trees) made.0) (lt-ltb e (length s.log.rows) made.1)
in-range-made s B (First e) made = lt-ltb e (length s.log.rows) made
in-range-made s B (Same e x) made =
    and_from (nat_lt e (length s.log.rows)) (nat_lt x (length s.log.rows)) (lt-ltb e (length s.log.rows) (omega (arith, made.0, made.1))) (lt-ltb x (length s.log.rows) made.1)
in-range-made s B (Wit k i j) made = three-in-range s k i j made
in-range-made s B (Span k i j) made = three-in-range s k i j made
in-range-made s B (Gap k i m) made = three-in-range s k i m made

among-made : (s : Sought) (a : Atom) → IsMadeOf s (IsNode s) (IsWithin MAX_ORDER) a → IsOrderAmong (length s.log.rows + 1) a
among-made s (Order e f c) made = record { smaller_first = made.0; second = let low = made.1 in omega (arith, low); bound = made.2.bound; negated = made.2.negated }
among-made s (Node k e) made = tt
among-made s (First e) made = tt
among-made s (Same e x) made = made.0
among-made s (Wit k i j) made = tt
among-made s (Span k i j) made = tt
among-made s (Gap k i m) made = tt

module _ (cores : CoresAreCores) (law : NodesAreSubtrees) (log : Logged) (f : Form) (v : Bool) (p : Problem) (fits : Fits (sought_of log f v) p) where
  abbrev s : Sought
  s = sought_of log f v

  -- the atoms are in range
  pub atoms-in-range : All (λ a. IsTrue (is_in_range s a)) p.atoms
  atoms-in-range k d low = in-range-made s Anything (slice_index_or p.atoms k d)
      (fits-atoms (IsMadeOf s (IsNode s) Anything) s p fits (atoms-made s (IsNode s) Anything (sought-nodes cores law log f v) anything) k d low)
    where
      both : (c : ℤ) → BothWays Anything c
      both c = record { bound = tt; negated = tt }

      anything : AreBounds s Anything
      anything = record { zero = both (pos 0); low = λ k u is. both (neg_ℤ (pos u.interval.low)); high = λ k u b is at. both (pos b) }

  -- order atoms are differences of two rows within the limits, where the formula is within its own
  pub orders-of-rows : IsFormula f → All (IsOrderAmong (length log.rows + 1)) p.atoms
  orders-of-rows valid k d low = among-made s (slice_index_or p.atoms k d)
      (fits-atoms (IsMadeOf s (IsNode s) (IsWithin MAX_ORDER)) s p fits (atoms-made s (IsNode s) (IsWithin MAX_ORDER) (sought-nodes cores law log f v) within) k d low)
    where
      is : (k : ℕ) (u : Reach) → reach_in (shape_at s k) ≡ Some u → is_interval u.interval ≡ true
      is k u at = interval-at cores law log f is_interval valid.intervals v k u at

      within : AreBounds s (IsWithin MAX_ORDER)
      within = record {
        zero = upper-within 0 (omega arith);
        low = λ k u at. lower-within u.interval.low (low-of u.interval (is k u at));
        high = λ k u b at has. upper-within b (high-of u.interval b has (is k u at));
      }

-- what is so among fewer nodes is so among more
order-more : (m n : ℕ) (a : Atom) → m ≤ n → IsOrderAmong m a → IsOrderAmong n a
order-more m n (Order e f c) le order = record { smaller_first = order.smaller_first; second = let second = order.second in omega (arith, second, le); bound = order.bound; negated = order.negated }
order-more m n (Node k e) le order = tt
order-more m n (First e) le order = tt
order-more m n (Same e x) le order = order
order-more m n (Wit k i j) le order = tt
order-more m n (Span k i j) le order = tt
order-more m n (Gap k i m_) le order = tt

pub orders-more : (m n : ℕ) (atoms : List Atom) → m ≤ n → All (IsOrderAmong m) atoms → All (IsOrderAmong n) atoms
orders-more m n atoms le all = λ k d low. order-more m n (slice_index_or atoms k d) le (all k d low)

-- what is in the range of a log and so among any nodes is so among the rows of the log
order-in-range : (s : Sought) (m : ℕ) (a : Atom) → IsOrderAmong m a → IsTrue (is_in_range s a) → IsOrderAmong (length s.log.rows + 1) a
order-in-range s m (Order e f c) order range =
    let rows = both_true (nat_lt e (length s.log.rows)) (nat_lt f (length s.log.rows)) range in
    let row = ltb-true f (length s.log.rows) rows.1 in
    record { smaller_first = order.smaller_first; second = omega (arith, row); bound = order.bound; negated = order.negated }
order-in-range s m (Node k e) order range = tt
order-in-range s m (First e) order range = tt
order-in-range s m (Same e x) order range = order
order-in-range s m (Wit k i j) order range = tt
order-in-range s m (Span k i j) order range = tt
order-in-range s m (Gap k i m_) order range = tt

pub orders-in-range : (s : Sought) (m : ℕ) (atoms : List Atom) → All (IsOrderAmong m) atoms → All (λ a. IsTrue (is_in_range s a)) atoms → All (IsOrderAmong (length s.log.rows + 1)) atoms
orders-in-range s m atoms all range = λ k d low. order-in-range s m (slice_index_or atoms k d) (all k d low) (range k d low)

-- a bound has one edge
pub edge-count : (log : Logged) (bounds : List Bound) (edges : List Edge) → AreEdges log bounds edges → length edges ≡ length bounds
edge-count log bounds edges are = sym (simp length-map at (ap length are))

-- with an edge for each atom there are few enough edges
pub edges-room : (s : Sought) (p : Problem) → IsLog s.log → Fits s p → length p.edges + length p.atoms ≤ MAX_EDGES
edges-room s p valid fits =
    let count = edge-count s.log p.bounds p.edges fits.edges in
    let listed : length p.bounds ≡ length (bounds_of s.log) = ap length fits.bounds in
    let few = few-bounds s.log in
    omega (arith, count, listed, few, valid.few_rows, valid.few_extras, fits.few_atoms)

-- with one edge more there are few enough
pub edges-room-one : (s : Sought) (p : Problem) → IsLog s.log → Fits s p → length p.edges + 1 ≤ MAX_EDGES
edges-room-one s p valid fits =
    let count = edge-count s.log p.bounds p.edges fits.edges in
    let listed : length p.bounds ≡ length (bounds_of s.log) = ap length fits.bounds in
    let few = few-bounds s.log in
    omega (arith, count, listed, few, valid.few_rows, valid.few_extras)

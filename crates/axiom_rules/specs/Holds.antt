-- What an atom means in a timing, and which literals and clauses hold there.
use Rattle.std.specs.Prelude.{ℕ, List, length, Bool, false, not, ◌&&◌, if◌then◌else◌, ℤ, ◌-ℤ◌, int_le}
use Rattle.std.specs.List.{list_all, list_any, range_with_len}
use Rattle.std.specs.Ordering.{int_eq}
use Rattle.mt_model.specs.declared.tree.Interval.{Interval}
use Rattle.mt_model.specs.Form.{Form, Until, Since}
use Rattle.mt_model.specs.Frame.{Frame, span, witness}
use Rattle.mt_model.specs.Log.{Logged}
use Rattle.mt_model.specs.Positions.{place_of, positions_of}
use Rattle.mt_model.specs.Timing.{time_of}
use Rattle.mt_model.specs.Truth.{positions_in, truth}
use Rattle.formula_arena.specs.declared.direction.Direction.{Direction}
use Rattle.formula_arena.specs.declared.direction.Direction.TheVariants.{Ahead, Behind}
use Rattle.formula_arena.specs.Directions.{is_near, met}
use Rattle.formula_arena.specs.Nodes.{tree_at}
use Rattle.axiom_rules.specs.declared.literal.Atom.{Atom}
use Rattle.axiom_rules.specs.declared.literal.Atom.TheVariants.{Order, Node, First, Same, Wit, Span, Gap}
use Rattle.axiom_rules.specs.declared.literal.Literal.{Literal}

-- z is from x on, and f fails there and holds from x on up to there
abbrev pub gap : {X : Type 0} → Frame X → (X → Bool) → X → X → Bool
gap F f x z = F.not_after x z && not (f z) && span F f x z

-- a test of an until or a since: where it looks, its interval, and its left and right side; other trees fail it
abbrev pub passes : (Direction → Interval → Form → Form → Bool) → Form → Bool
passes test (Until I f g) = test Ahead I f g
passes test (Since I f g) = test Behind I f g
passes test _ = false

module _ (log : Logged) (t : List ℤ) (trees : List Form) where
  abbrev pub positions : Frame ℕ
  positions = positions_in (positions_of t)

  -- the formula is true at a position
  abbrev pub true_at : Form → ℕ → Bool
  true_at f p = truth log t p f

  -- what an atom means
  abbrev pub means : Atom → Bool
  means (Order e f c) = int_le (time_of t e -ℤ time_of t f) c
  means (Node k e) = true_at (tree_at trees k) (place_of t e)
  means (First e) = list_all (λ x. int_le (time_of t e) (time_of t x)) (range_with_len 0 (length t))
  means (Same e x) = int_eq (time_of t e) (time_of t x)
  means (Span k i j) = passes (λ direction I f g. span (met direction positions) (true_at f) (place_of t i) (place_of t j)) (tree_at trees k)
  means (Wit k i j) = passes (λ direction I f g. witness (met direction positions) (is_near direction positions I) (true_at f) (true_at g) (place_of t i) (place_of t j)) (tree_at trees k)
  means (Gap k i m) = passes (λ direction I f g. gap (met direction positions) (true_at f) (place_of t i) (place_of t m)) (tree_at trees k)

  -- a positive literal holds where its atom does, and a negative one where it does not
  abbrev pub holds : Literal → Bool
  holds l = if l.positive then means l.atom else not (means l.atom)

  -- a clause holds where one of its literals does
  abbrev pub clause_holds : List Literal → Bool
  clause_holds c = list_any holds c

-- Which instances of rules are needless: those that the least and the greatest differences of events' times make true, or of no use.
use Rattle.std.specs.Prelude.{ℕ, Bool, true, false, ◌&&◌, ◌||◌, List, length, pos, int_le, int_lt}
use Rattle.std.specs.List.{list_any, range_with_len}
use Rattle.std.specs.Option.{option_map_or}
use Rattle.question.specs.Extremes.{Extremes, farthest, nearest}
use Rattle.axiom_rules.specs.declared.needless.Needless.{Needless}
use Rattle.axiom_rules.specs.declared.needless.Needless.TheVariants.{Never, NeverLater, NeverFirst, Reaches}
use Rattle.axiom_rules.specs.declared.needless.OfReach.{OfReach}
use Rattle.axiom_rules.specs.declared.needless.OfReach.TheVariants.{AlwaysFrom, AlwaysUpTo, Dead, DeadOrFree, NotWithin, NotPast, FreeOrNotBefore, Free}
use Rattle.axiom_rules.specs.declared.reach.Reach.{Reach}
use Rattle.axiom_rules.specs.declared.rule.Rule.{Rule}
use Rattle.axiom_rules.specs.Clauses.{arg, needless_of}
use Rattle.axiom_rules.specs.NodeShapes.{is_constant, reach_in, shape_at}
use Rattle.axiom_rules.specs.Sought.{Sought}

module _ (x : Extremes) where
  -- an event is never first where another one is always earlier
  abbrev pub is_never_first : ℕ → ℕ → Bool
  is_never_first rows e = list_any (λ f. int_lt (x.greatest e f) (pos 0)) (range_with_len 0 rows)

  -- event j's distance from event i is always from the lower bound on, never, and it may be; it is always up to the upper
  -- bound, and never
  abbrev pub is_always_from : Reach → ℕ → ℕ → Bool
  is_always_from u i j = int_le (pos u.interval.low) (nearest x u.direction i j)

  abbrev pub is_never_from : Reach → ℕ → ℕ → Bool
  is_never_from u i j = int_lt (farthest x u.direction i j) (pos u.interval.low)

  abbrev pub may_be_from : Reach → ℕ → ℕ → Bool
  may_be_from u i j = int_le (pos u.interval.low) (farthest x u.direction i j)

  abbrev pub is_always_up_to : Reach → ℕ → ℕ → Bool
  is_always_up_to u i j = option_map_or (λ b. int_le (farthest x u.direction i j) (pos b)) u.interval.high true

  abbrev pub is_never_up_to : Reach → ℕ → ℕ → Bool
  is_never_up_to u i j = option_map_or (λ b. int_lt (pos b) (nearest x u.direction i j)) u.interval.high false

  -- a pair of events is dead for an until or a since where its distance is never in the interval
  abbrev pub is_dead : Reach → ℕ → ℕ → Bool
  is_dead u i j = is_never_from u i j || is_never_up_to u i j

  -- event m is always before event i as the node looks, and never before it
  abbrev pub is_always_before : Reach → ℕ → ℕ → Bool
  is_always_before u m i = int_lt (farthest x u.direction i m) (pos 0)

  abbrev pub is_never_before : Reach → ℕ → ℕ → Bool
  is_never_before u m i = int_le (pos 0) (nearest x u.direction i m)

  module _ (s : Sought) where
    -- the left side is `true`
    abbrev pub has_constant : Reach → Bool
    has_constant u = is_constant (shape_at s u.left)

    -- where a test of an until or a since leaves the instance of these arguments out
    abbrev pub leaves_out_reach : OfReach → Reach → List ℕ → Bool
    leaves_out_reach AlwaysFrom u args = is_always_from u (arg args 1) (arg args 2) || (is_dead u (arg args 1) (arg args 2) && may_be_from u (arg args 1) (arg args 2))
    leaves_out_reach AlwaysUpTo u args = is_always_up_to u (arg args 1) (arg args 2) || is_never_from u (arg args 1) (arg args 2)
    leaves_out_reach Dead u args = is_dead u (arg args 1) (arg args 2)
    leaves_out_reach DeadOrFree u args = is_dead u (arg args 1) (arg args 2) || has_constant u
    leaves_out_reach NotWithin u args = is_dead u (arg args 1) (arg args 2) || has_constant u || is_always_before u (arg args 3) (arg args 1) || is_never_before u (arg args 3) (arg args 2)
    leaves_out_reach NotPast u args = is_dead u (arg args 1) (arg args 2) || has_constant u || is_always_before u (arg args 3) (arg args 2)
    leaves_out_reach FreeOrNotBefore u args = has_constant u || is_never_before u (arg args 2) (arg args 1)
    leaves_out_reach Free u args = has_constant u

    -- where a test leaves the instance of these arguments out
    abbrev pub leaves_out : Needless → List ℕ → Bool
    leaves_out Never args = false
    leaves_out NeverLater args = int_le (pos 0) (x.least (arg args 0) (arg args 1))
    leaves_out NeverFirst args = is_never_first (length s.log.rows) (arg args 0)
    leaves_out (Reaches test) args = option_map_or (λ u. leaves_out_reach test u args) (reach_in (shape_at s (arg args 0))) false

    -- the instance of a rule is left out
    abbrev pub is_needless : Rule → Bool
    is_needless rule = option_map_or (λ test. leaves_out test rule.args) (needless_of rule.number) false

    -- no span of an until or a since is needed from one event to another
    abbrev pub needs_no_span : ℕ → ℕ → ℕ → Bool
    needs_no_span k i j = option_map_or (λ u. is_dead u i j || has_constant u) (reach_in (shape_at s k)) false

-- a test of an until or a since leaves out each instance where the left side is `true`
abbrev pub is_of_free : OfReach → Bool
is_of_free DeadOrFree = true
is_of_free NotWithin = true
is_of_free NotPast = true
is_of_free FreeOrNotBefore = true
is_of_free Free = true
is_of_free _ = false

-- a test does
abbrev pub leaves_out_free : Needless → Bool
leaves_out_free (Reaches test) = is_of_free test
leaves_out_free _ = false

-- a test leaves out each instance on a third event where no span is needed
abbrev pub is_of_span : Needless → Bool
is_of_span (Reaches NotWithin) = true
is_of_span (Reaches NotPast) = true
is_of_span _ = false

-- a node is an until or a since whose left side is `true`
abbrev pub is_free : Sought → ℕ → Bool
is_free s k = option_map_or (λ u. is_constant (shape_at s u.left)) (reach_in (shape_at s k)) false

-- each instance of a rule for a node is left out, since the left side is `true`
abbrev pub is_needless_throughout : Sought → ℕ → ℕ → Bool
is_needless_throughout s number k = option_map_or leaves_out_free (needless_of number) false && is_free s k

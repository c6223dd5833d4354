-- What a node is, over the numbers of its children.
use Rattle.std.specs.Prelude.{ℕ, Bool, true, false, List, [], Option, Some, None, option_and_then, slice_get}
use Rattle.std.specs.List.{position_or_len}
use Rattle.std.specs.Option.{option_map_or}
use Rattle.mt_model.specs.Form.{Form, True, Prop, Not, And, Until, Since}
use Rattle.mt_model.specs.Log.{Logged}
use Rattle.mt_model.specs.State.{Change, changes_of, host_named, pulses_of}
use Rattle.formula_arena.specs.declared.direction.Direction.TheVariants.{Ahead, Behind}
use Rattle.formula_arena.specs.Subtrees.{same_form}
use Rattle.axiom_rules.specs.declared.proposition.PropositionRows.{PropositionRows}
use Rattle.axiom_rules.specs.declared.reach.Reach.{Reach}
use Rattle.axiom_rules.specs.declared.shape.Shape.{Shape}
use Rattle.axiom_rules.specs.declared.shape.Shape.TheVariants as shape
use Rattle.axiom_rules.specs.Sought.{Sought}

-- the changes of a proposition whose host is given by its name: none where the log has no such host
abbrev pub changes_named : Logged → List ℕ → List ℕ → List Change
changes_named log host name = option_map_or (λ h. changes_of log h name) (host_named log host) []

-- the pulse rows of a proposition whose host is given by its name: none where the log has no such host
abbrev pub pulses_named : Logged → List ℕ → List ℕ → List ℕ
pulses_named log host name = option_map_or (λ h. pulses_of log h name) (host_named log host) []

-- the rows that tell of such a proposition
abbrev pub rows_named : Logged → List ℕ → List ℕ → PropositionRows
rows_named log host name = record { changes = changes_named log host name; pulses = pulses_named log host name }

-- the number of a tree among the trees
abbrev pub number_of : List Form → Form → ℕ
number_of trees f = position_or_len (same_form f) trees

-- what a tree is, over the numbers of its children; a tree that is no core has no shape
abbrev pub shape_of : Logged → List Form → Form → Option Shape
shape_of log trees True = Some shape.True
shape_of log trees (Prop host name) = Some (shape.Prop host name (rows_named log host name))
shape_of log trees (Not f) = Some (shape.Not (number_of trees f))
shape_of log trees (And f g) = Some (shape.And (number_of trees f) (number_of trees g))
shape_of log trees (Until I f g) = Some (shape.Reach (record { direction = Ahead; interval = I; left = number_of trees f; right = number_of trees g }))
shape_of log trees (Since I f g) = Some (shape.Reach (record { direction = Behind; interval = I; left = number_of trees f; right = number_of trees g }))
shape_of log trees _ = None

-- what node k is, where there is such a node
abbrev pub shape_at : Sought → ℕ → Option Shape
shape_at s k = option_and_then (shape_of s.log s.trees) (slice_get s.trees k)

-- whether a node is `true`
abbrev pub is_constant : Option Shape → Bool
is_constant (Some shape.True) = true
is_constant _ = false

-- the rows that tell of a proposition
abbrev pub proposition_in : Option Shape → Option PropositionRows
proposition_in (Some (shape.Prop host name rows)) = Some rows
proposition_in _ = None

-- the changes of a proposition
abbrev pub changes_in : Option Shape → Option (List Change)
changes_in (Some (shape.Prop host name rows)) = Some rows.changes
changes_in _ = None

-- the pulse rows of a proposition
abbrev pub pulses_in : Option Shape → Option (List ℕ)
pulses_in (Some (shape.Prop host name rows)) = Some rows.pulses
pulses_in _ = None

-- the operand of a negation
abbrev pub operand_in : Option Shape → Option ℕ
operand_in (Some (shape.Not a)) = Some a
operand_in _ = None

-- the sides of a conjunction
abbrev pub sides_in : Option Shape → Option (ℕ × ℕ)
sides_in (Some (shape.And a b)) = Some (a, b)
sides_in _ = None

-- what an until or a since is
abbrev pub reach_in : Option Shape → Option Reach
reach_in (Some (shape.Reach r)) = Some r
reach_in _ = None

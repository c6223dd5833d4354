-- Operators over two trees that stay in a core.
use Rattle.std.specs.Prelude.{ℕ}
use Rattle.mt_model.specs.Form.{Form, And, Until, Since}
use Rattle.formula_arena.specs.declared.node.Core.{Core}
use Rattle.formula_arena.specs.declared.node.Core.TheVariants as core
use Rattle.formula_arena.specs.declared.node.Operator.{Operator}
use Rattle.formula_arena.specs.declared.node.Operator.TheVariants as operator

-- the tree of an operator over two trees
abbrev pub form_over : Operator → Form → Form → Form
form_over operator.And f g = And f g
form_over (operator.Until I) f g = Until I f g
form_over (operator.Since I) f g = Since I f g

-- the node of an operator over two nodes
abbrev pub node_over : Operator → ℕ → ℕ → Core
node_over operator.And a b = core.And a b
node_over (operator.Until I) a b = core.Until I a b
node_over (operator.Since I) a b = core.Since I a b

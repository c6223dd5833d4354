-- What the rules are about.
use Rattle.std.specs.Prelude.{ℕ, ◌-◌, Bool, List, length}
use Rattle.mt_model.specs.Form.{Form}
use Rattle.mt_model.specs.Log.{Logged}
use Rattle.formula_arena.specs.Nodes.{nodes_of}

-- what is sought: a timing of the log in which the tree of the root has the value at the first position
pub record Sought : Type 0 where
  pub log : Logged
  pub trees : List Form
  pub root : ℕ
  pub value : Bool

-- what is sought for a formula and a value: the root is the last of its nodes
abbrev pub sought_of : Logged → Form → Bool → Sought
sought_of log f v = record { log = log; trees = nodes_of f; root = length (nodes_of f) - 1; value = v }

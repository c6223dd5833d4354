-- What a walk over a formula has left to do, and what it leads to.
use Rattle.std.specs.Prelude.{◌≡◌, ℕ, ◌+◌, ◌*◌, ◌<◌, ◌≤◌, List, [], ◌∷◌, length, map, reverse, drop, All, Result, Err, OnOk}
use Rattle.mt_model.specs.Form.{Form, True, False, Prop, Not, And, Or, Implies, Until, Since, Eventually, Always, Once, Historically, form_of}
use Rattle.formula_arena.specs.declared.arena.TheConstants.{MAX_NODES}
use Rattle.formula_arena.specs.declared.fault.ArenaFault.{ArenaFault}
use Rattle.formula_arena.specs.declared.fault.ArenaFault.TheVariants.{TooManyNodes}
use Rattle.formula_arena.specs.declared.node.Operator.{Operator}
use Rattle.formula_arena.specs.declared.node.Operator.TheVariants as operator
use Rattle.formula_arena.specs.declared.walk.Task.{Task}
use Rattle.formula_arena.specs.declared.walk.Task.TheVariants as task
use Rattle.formula_arena.specs.Cores.{core_of}
use Rattle.formula_arena.specs.Growth.{with_subtrees, with_tree}
use Rattle.formula_arena.specs.Nodes.{Extends, tree_at}
use Rattle.formula_arena.specs.Operators.{form_over}
use Rattle.formula_arena.specs.Subtrees.{subtrees_of}

-- a step adds a tree with its subtrees, a leaf, the negation of the last tree that waits, or an operator over the last two
pub data Step : Type 0 where
  Whole : Form → Step
  Leaf : Form → Step
  Negation : Step
  Join : Operator → Step

-- the step that a task is
abbrev pub step_in : Task → Step
step_in (task.Tree tree) = Whole (core_of (form_of tree.now))
step_in task.True = Leaf True
step_in (task.Prop host name) = Leaf (Prop host.now name.now)
step_in task.Not = Negation
step_in (task.Over op) = Join op

-- the tasks as steps, the next one first
abbrev pub steps_in : List Task → List Step
steps_in tasks = map step_in (reverse tasks)

-- an operator over a formula and another one; over `true` and a formula; over `true` and the negation of a formula, and negated
abbrev pub over_two : Operator → Form → Form → List Step
over_two op f g = Whole (core_of f) ∷ Whole (core_of g) ∷ Join op ∷ []

abbrev pub over_some : Operator → Form → List Step
over_some op f = Leaf True ∷ Whole (core_of f) ∷ Join op ∷ []

abbrev pub over_each : Operator → Form → List Step
over_each op f = Leaf True ∷ Whole (core_of f) ∷ Negation ∷ Join op ∷ Negation ∷ []

-- what the core of a formula comes to: the parts of an operator before it
abbrev pub steps_of : Form → List Step
steps_of True = Leaf True ∷ []
steps_of False = Leaf True ∷ Negation ∷ []
steps_of (Prop host name) = Leaf (Prop host name) ∷ []
steps_of (Not f) = Whole (core_of f) ∷ Negation ∷ []
steps_of (And f g) = over_two operator.And f g
steps_of (Or f g) = Whole (core_of f) ∷ Negation ∷ Whole (core_of g) ∷ Negation ∷ Join operator.And ∷ Negation ∷ []
steps_of (Implies f g) = Whole (core_of f) ∷ Whole (core_of g) ∷ Negation ∷ Join operator.And ∷ Negation ∷ []
steps_of (Until I f g) = over_two (operator.Until I) f g
steps_of (Since I f g) = over_two (operator.Since I) f g
steps_of (Eventually I f) = over_some (operator.Until I) f
steps_of (Once I f) = over_some (operator.Since I) f
steps_of (Always I f) = over_each (operator.Until I) f
steps_of (Historically I f) = over_each (operator.Since I) f

-- how many of the trees that wait a step stands over
abbrev pub operands : Step → ℕ
operands (Whole f) = 0
operands (Leaf f) = 0
operands Negation = 1
operands (Join op) = 2

-- the tree that a step adds, where these trees wait, the last one first
abbrev pub tree_by : Step → List Form → Form
tree_by (Whole f) waiting = f
tree_by (Leaf f) waiting = f
tree_by Negation waiting = Not (tree_at waiting 0)
tree_by (Join op) waiting = form_over op (tree_at waiting 1) (tree_at waiting 0)

-- the trees that wait after a step
abbrev pub waiting_after : Step → List Form → List Form
waiting_after step waiting = tree_by step waiting ∷ drop (operands step) waiting

-- the trees that are held after a step
abbrev pub trees_after_step : Step → List Form → List Form → List Form
trees_after_step (Whole f) trees waiting = with_subtrees trees f
trees_after_step step trees waiting = with_tree trees (tree_by step waiting)

-- the steps lead from trees that are held, and those that wait, to the trees `grown`, where one tree waits
abbrev pub Leads : List Step → List Form → List Form → List Form → Form → Type 0
Leads [] trees waiting grown f = (trees ≡ grown) × (waiting ≡ f ∷ [])
Leads (step ∷ steps) trees waiting grown f = (operands step ≤ length waiting) × Leads steps (trees_after_step step trees waiting) (waiting_after step waiting) grown f

-- the work of a step: two for each subtree of a whole tree, and else one
abbrev pub work_of : Step → ℕ
work_of (Whole f) = 2 * length (subtrees_of f)
work_of step = 1

-- the work of steps, which each step makes less
abbrev pub work : List Step → ℕ
work [] = 0
work (step ∷ steps) = work_of step + work steps

-- the trees of nodes that wait, the last one first
abbrev pub waiting_in : List Form → List ℕ → List Form
waiting_in trees nodes = reverse (map (tree_at trees) nodes)

-- the nodes that wait are held
abbrev pub AreHeld : List Form → List ℕ → Type 0
AreHeld trees nodes = All (λ id. id < length trees) nodes

-- what a step over the last trees that wait leaves: its tree is held and waits; or a fault, which is one of too many nodes only where the trees
-- with it would be more than the limit. What was held is kept
pub record IsMade (old : List Form) (f : Form) (waiting : List Form) (result : Result (Unit {0}) ArenaFault) (new : List Form) (nodes : List ℕ) : Type 0 where
  pub held : OnOk result (AreHeld new nodes)
  pub waits : OnOk result (waiting_in new nodes ≡ f ∷ waiting)
  pub trees : OnOk result (new ≡ with_tree old f)
  pub too_many : result ≡ Err TooManyNodes → MAX_NODES < length (with_tree old f)
  pub kept : Extends old new

-- what a step leaves before others: they lead on to where it led with them, with less work
pub record IsTaken (steps : List Step) (old waiting : List Form) (result : Result (Unit {0}) ArenaFault) (left : List Step) (new : List Form) (nodes : List ℕ) : Type 0 where
  pub held : OnOk result (AreHeld new nodes)
  pub leads : (grown : List Form) (f : Form) → Leads steps old waiting grown f → OnOk result (Leads left new (waiting_in new nodes) grown f)
  pub less : OnOk result (work left < work steps)
  pub too_many : (grown : List Form) (f : Form) → Leads steps old waiting grown f → result ≡ Err TooManyNodes → MAX_NODES < length grown
  pub kept : Extends old new

-- the same of a task before tasks, where nodes wait
abbrev pub IsTaskTaken : Task → List Task → List Form → List ℕ → Result (Unit {0}) ArenaFault → List Task → List Form → List ℕ → Type 0
IsTaskTaken task tasks old waiting result left new nodes = IsTaken (step_in task ∷ steps_in tasks) old (waiting_in old waiting) result (steps_in left) new nodes

use Rattle.std.proofs.Common.{◌≡◌, ◌∙◌, ◌<◌, ◌≤◌, ℕ, List, [], ◌+◌, Result, Ok, Err, IfOk, OnOk, ap, length, subst, arith}
use Rattle.std.proofs.lemmas.Result.{on_ok_weaker}
use Rattle.mt_model.specs.declared.tree.Tree.{Tree}
use Rattle.mt_model.specs.Form.{Form, form_of}
use Rattle.formula_arena.specs.declared.arena.TheConstants.{MAX_NODES}
use Rattle.formula_arena.specs.declared.fault.ArenaFault.{ArenaFault}
use Rattle.formula_arena.specs.Cores.{core_of}
use Rattle.formula_arena.specs.Growth.{with_subtrees}
use Rattle.formula_arena.specs.Nodes.{IsAt, nodes_of, with_nodes_of}
use Rattle.formula_arena.proofs.GrowthLemmas.{with_subtrees_first, with_subtrees_nodes}
use Rattle.formula_arena.proofs.NodeLemmas.{root_last}
use Rattle.formula_arena.proofs.arena.Arena.intern.Goals as goal

-- the walk goes over the formula's own tree
walked : (old : List Form) (walked_over tree : Tree) → walked_over ≡ tree → with_subtrees old (core_of (form_of walked_over)) ≡ with_nodes_of old (form_of tree)
walked old walked_over tree same = ap (λ t. with_subtrees old (core_of (form_of t))) same ∙ with_subtrees_nodes old (form_of tree)

first_walked : (old : List Form) (walked_over tree : Tree) → walked_over ≡ tree → old ≡ [] → with_subtrees old (core_of (form_of walked_over)) ≡ nodes_of (form_of tree)
first_walked old walked_over tree same empty = (λ i. with_subtrees (empty i) (core_of (form_of (same i)))) ∙ with_subtrees_first (form_of tree)

last_one : (r : Result ℕ ArenaFault) (old new : List Form) (f : Form) → IfOk r (λ id. IsAt new id (core_of f)) → OnOk r (old ≡ [] → new ≡ nodes_of f) → IfOk r (λ id. old ≡ [] → id + 1 ≡ length new)
last_one (Ok id) old new f at first = λ empty. root_last f new id (first empty) at
last_one (Err e) old new f at first = tt

pub returns-clause-nodes : goal.returns-clause-nodes
returns-clause-nodes c = on_ok_weaker c.walk-node.result (λ e. e ∙ walked c.args.self.now c.tree.result.now c.args.f.now c.tree.ensures.same) c.walk-node.ensures.nodes

pub returns-clause-first : goal.returns-clause-first
returns-clause-first c = on_ok_weaker c.walk-node.result (λ e empty. e ∙ first_walked c.args.self.now c.tree.result.now c.args.f.now c.tree.ensures.same empty) c.walk-node.ensures.nodes

pub returns-clause-root : goal.returns-clause-root
returns-clause-root c =
    last_one c.walk-node.result c.args.self.now c.walk-node.new.self (form_of c.args.f.now)
    (subst (λ t. IfOk c.walk-node.result (λ id. IsAt c.walk-node.new.self id (core_of (form_of t)))) c.tree.ensures.same c.walk-node.ensures.at)
    (on_ok_weaker c.walk-node.result (λ e empty. e ∙ first_walked c.args.self.now c.tree.result.now c.args.f.now c.tree.ensures.same empty) c.walk-node.ensures.nodes)

few_of : (new all : List Form) → new ≡ all → length new ≤ MAX_NODES → length all ≤ MAX_NODES
few_of new all e few = omega (arith, ap length e)

pub returns-clause-enough : goal.returns-clause-enough
returns-clause-enough c =
    on_ok_weaker c.walk-node.result (λ e. few_of _ _ (e ∙ walked c.args.self.now c.tree.result.now c.args.f.now c.tree.ensures.same) c.len.ensures.arena.few) c.walk-node.ensures.nodes

pub returns-clause-too_many : goal.returns-clause-too_many
returns-clause-too_many c = λ e. subst (λ l. MAX_NODES < length l) (walked c.args.self.now c.tree.result.now c.args.f.now c.tree.ensures.same) (c.walk-node.ensures.too_many e)

-- The nodes of a formula.
use Rattle.std.proofs.Common.{◌≡◌, ◌∙◌, ℕ, ◌+◌, ◌-◌, inl, inr, sym, ap, subst, List, [], length, arith}
use Rattle.std.specs.Prelude.{Contains}
use Rattle.mt_model.specs.Form.{Form}
use Rattle.formula_arena.specs.Cores.{core_of}
use Rattle.formula_arena.specs.Laws.{NodesAreSubtrees}
use Rattle.formula_arena.specs.Subtrees.{IsSubtree}
use Rattle.formula_arena.specs.Nodes.{IsAt, nodes_of}
use Rattle.formula_arena.proofs.GrowthLemmas.{with_subtrees_first}
use Rattle.formula_arena.proofs.TreeLists.{Has, Last, Orderly, contains-has, from-with_subtrees, has-contains, has-subtree, has-with_subtrees, last-with_subtrees, none_of_nil, orderly-nil, orderly-with_subtrees}

pub orderly-nodes : (f : Form) → Orderly (nodes_of f)
orderly-nodes f = subst Orderly (with_subtrees_first f) (orderly-with_subtrees [] (core_of f) orderly-nil)

pub last-nodes : (f : Form) → Last (nodes_of f) (core_of f)
last-nodes f = subst (λ trees. Last trees (core_of f)) (with_subtrees_first f) (last-with_subtrees (core_of f))

has-core : (f : Form) → Has (nodes_of f) (core_of f)
has-core f = subst (λ trees. Has trees (core_of f)) (with_subtrees_first f) (has-with_subtrees [] (core_of f))

subtree-of : (f g : Form) → Contains (nodes_of f) g → IsSubtree g (core_of f)
subtree-of f g there = elim (from-with_subtrees [] g (core_of f) (subst (λ trees. Has trees g) (sym (with_subtrees_first f)) (contains-has (nodes_of f) g there))) [
  | inl none ↦ absurd (none_of_nil g none)
  | inr sub ↦ sub
]

pub nodes-subtrees : NodesAreSubtrees
nodes-subtrees = record {
  subtrees = λ f g. (subtree-of f g, λ sub. has-contains (nodes_of f) g (has-subtree (nodes_of f) (orderly-nodes f) g (core_of f) sub (has-core f)));
  once = λ f. (orderly-nodes f).once;
  children_first = λ f. (orderly-nodes f).children_first;
  root = last-nodes;
}

-- where the trees are the nodes of a formula, the node of its core is the last one
pub root_last : (f : Form) (trees : List Form) (id : ℕ) → trees ≡ nodes_of f → IsAt trees id (core_of f) → id + 1 ≡ length trees
root_last f trees id same at =
    let here : IsAt (nodes_of f) id (core_of f) = subst (λ l. IsAt l id (core_of f)) same at in
    let last = last-nodes f in
    let some = last.0 in
    let within = here.0 in
    let e : id ≡ length (nodes_of f) - 1 = (orderly-nodes f).once id (length (nodes_of f) - 1) within (omega arith) (here.1 ∙ sym last.1) in
    omega (arith, ap length same)

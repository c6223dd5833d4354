-- The nodes that an empty arena lacks.
use Rattle.std.proofs.Common.{◌≡◌, ap, refl, List, [], ◌∷◌, filter}
use Rattle.std.specs.Prelude.{not}
use Rattle.mt_model.specs.Form.{Form}
use Rattle.formula_arena.specs.Nodes.{has_form, nodes_of, with_nodes_of}

all_lacking : (fs : List Form) → filter (λ g. not (has_form [] g)) fs ≡ fs
all_lacking [] = refl
all_lacking (f ∷ fs) = ap (λ gs. f ∷ gs) (all_lacking fs)

-- they are all the nodes of a formula
pub with_nodes-empty : (trees : List Form) (f : Form) → trees ≡ [] → with_nodes_of trees f ≡ nodes_of f
with_nodes-empty trees f is = rw is (all_lacking (nodes_of f))

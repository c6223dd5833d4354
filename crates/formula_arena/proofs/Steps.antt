-- What a step of the walk does to the trees of an arena's table.
use Rattle.std.proofs.Common.{◌≡◌, ◌∙◌, ℕ, ◌≤◌, ◌<◌, false, sym, ap, subst, List, [], ◌∷◌, ◌++◌, length, slice_get, Some, arith}
use Rattle.std.specs.Prelude.{Contains}
use Rattle.mt_model.specs.Form.{Form}
use Rattle.formula_arena.specs.declared.arena.TheConstants.{MAX_NODES}
use Rattle.formula_arena.specs.declared.node.Core.{Core}
use Rattle.formula_arena.specs.declared.node.Core.TheVariants as core
use Rattle.formula_arena.specs.declared.node.Proposition.{Proposition}
use Rattle.formula_arena.specs.Growth.{with_tree}
use Rattle.formula_arena.specs.Nodes.{Extends, IsAt, has_form}
use Rattle.formula_arena.specs.Table.{IsOver, IsTable, tree_of_proposition, tree_over}
use Rattle.formula_arena.proofs.FormLemmas.{has_from_at}
use Rattle.formula_arena.proofs.GrowthLemmas.{with_tree-new, with_tree-old}
use Rattle.formula_arena.proofs.TableLemmas.{length-trees_of}
use Rattle.formula_arena.proofs.TreeLists.{IsAt-new}
use Rattle.formula_arena.proofs.Tables.{entry-absent, entry-lacks, entry-there, node-absent, node-known, props_in, table-push, table-push_prop, trees_in, trees-push, trees-push_prop}
use Rattle.std.proofs.lemmas.List.{length_push}

-- a full list of trees has no room for one that is not there
too_many : (old : List Form) (f : Form) → has_form old f ≡ false → MAX_NODES ≤ length old → MAX_NODES < length (with_tree old f)
too_many old f lacks full = omega (arith, ap length (with_tree-new old f lacks), length_push old f)

module _ (es : List (Proposition × ℕ)) (cs : List Core) (t : IsTable es cs) (old : List Form) (view : trees_in es cs ≡ old) where
  long : length old ≡ length cs
  long = ap length (sym view) ∙ length-trees_of (props_in es) cs

  -- a node that is no proposition
  module _ (c : Core) (over : IsOver 0 (length old) c) where
    over_trees : IsOver 0 (length (trees_in es cs)) c
    over_trees = subst (λ l. IsOver 0 (length l) c) (sym view) over

    pub known-at : (k : ℕ) → slice_get cs k ≡ Some c → IsAt old k (tree_over [] old c)
    known-at k at = subst (λ l. IsAt l k (tree_over [] l c)) view (node-known es cs t c over_trees k at)

    pub known-nodes : (k : ℕ) → slice_get cs k ≡ Some c → old ≡ with_tree old (tree_over [] old c)
    known-nodes k at = sym (with_tree-old old (tree_over [] old c) (has_from_at old (tree_over [] old c) k (known-at k at)))

    module _ (absent : Contains cs c → ⊥) where
      lacks : has_form old (tree_over [] old c) ≡ false
      lacks = subst (λ l. has_form l (tree_over [] l c) ≡ false) view (node-absent es cs t c over_trees absent)

      pub fresh-too_many : MAX_NODES ≤ length old → MAX_NODES < length (with_tree old (tree_over [] old c))
      fresh-too_many full = too_many old (tree_over [] old c) lacks full

      module _ (cs' : List Core) (pushed : cs' ≡ cs ++ c ∷ []) where
        pub fresh-table : length old < MAX_NODES → IsTable es cs'
        fresh-table room = subst (IsTable es) (sym pushed) (table-push es cs t c over_trees absent (omega (arith, ap length view)))

        grown : trees_in es cs' ≡ old ++ tree_over [] old c ∷ []
        grown = ap (trees_in es) pushed ∙ trees-push es cs c over_trees ∙ (λ i. view i ++ tree_over [] (view i) c ∷ [])

        pub fresh-nodes : trees_in es cs' ≡ with_tree old (tree_over [] old c)
        fresh-nodes = grown ∙ sym (with_tree-new old (tree_over [] old c) lacks)

        pub fresh-at : (k : ℕ) → k ≡ length old → IsAt (trees_in es cs') k (tree_over [] old c)
        fresh-at k last =
            subst (λ l. IsAt l k (tree_over [] old c)) (sym grown) (subst (λ j. IsAt (old ++ tree_over [] old c ∷ []) j (tree_over [] old c)) (sym last) (IsAt-new old (tree_over [] old c)))

        pub fresh-kept : Extends old (trees_in es cs')
        fresh-kept = (tree_over [] old c ∷ [], grown)

  -- a proposition
  module _ (q : Proposition) where
    pub entry-at : (k : ℕ) → Contains es (q, k) → IsAt old k (tree_of_proposition q)
    entry-at k there = subst (λ l. IsAt l k (tree_of_proposition q)) view (entry-there es cs t q k there)

    pub entry-nodes : (k : ℕ) → Contains es (q, k) → old ≡ with_tree old (tree_of_proposition q)
    entry-nodes k there = sym (with_tree-old old (tree_of_proposition q) (has_from_at old (tree_of_proposition q) k (entry-at k there)))

    pub no_entry-lacks : (Contains (props_in es) q → ⊥) → has_form old (tree_of_proposition q) ≡ false
    no_entry-lacks absent = subst (λ l. has_form l (tree_of_proposition q) ≡ false) view (entry-lacks es cs t q absent)

    module _ (lacks : has_form old (tree_of_proposition q) ≡ false) where
      lacks_tree : has_form (trees_in es cs) (tree_of_proposition q) ≡ false
      lacks_tree = subst (λ l. has_form l (tree_of_proposition q) ≡ false) (sym view) lacks

      pub prop-too_many : MAX_NODES ≤ length old → MAX_NODES < length (with_tree old (tree_of_proposition q))
      prop-too_many full = too_many old (tree_of_proposition q) lacks full

      pub prop-absent : Contains (props_in es) q → ⊥
      prop-absent = entry-absent es cs t q lacks_tree

      module _ (k : ℕ) (last : k ≡ length old) (es' : List (Proposition × ℕ)) (cs' : List Core) (entered : es' ≡ es ++ (q, k) ∷ []) (pushed : cs' ≡ cs ++ core.Prop (length es) ∷ []) where
        pub prop-table : length old < MAX_NODES → IsTable es' cs'
        prop-table room =
            subst (λ l. IsTable l cs') (sym entered) (subst (IsTable (es ++ (q, k) ∷ [])) (sym pushed) (table-push_prop es cs t q k (last ∙ long) lacks_tree (omega (arith, ap length view))))

        prop_grown : trees_in es' cs' ≡ old ++ tree_of_proposition q ∷ []
        prop_grown = (λ i. trees_in (entered i) (pushed i)) ∙ trees-push_prop es cs q k t ∙ ap (λ l. l ++ tree_of_proposition q ∷ []) view

        pub prop-nodes : trees_in es' cs' ≡ with_tree old (tree_of_proposition q)
        prop-nodes = prop_grown ∙ sym (with_tree-new old (tree_of_proposition q) lacks)

        pub prop-at : IsAt (trees_in es' cs') k (tree_of_proposition q)
        prop-at =
            subst (λ l. IsAt l k (tree_of_proposition q)) (sym prop_grown)
            (subst (λ j. IsAt (old ++ tree_of_proposition q ∷ []) j (tree_of_proposition q)) (sym last) (IsAt-new old (tree_of_proposition q)))

        pub prop-kept : Extends old (trees_in es' cs')
        prop-kept = (tree_of_proposition q ∷ [], prop_grown)

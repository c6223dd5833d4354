-- The children of a node are nodes, which are found by their numbers.
use Rattle.std.proofs.Common.{◌≡◌, ◌∙◌, sym, refl, ℕ, zero, suc, ◌+◌, ◌<◌, true, List, [], ◌∷◌, length, All, arith}
use Rattle.std.specs.Prelude.{◌↔◌, slice_index_or}
use Rattle.std.proofs.lemmas.Bool.{cases_Bool}
use Rattle.std.proofs.Common.{inl, inr}
use Rattle.mt_model.specs.Form.{Form}
use Rattle.formula_arena.specs.Nodes.{StandsBefore, tree_at}
use Rattle.formula_arena.specs.Subtrees.{children_of, same_form}
use Rattle.axiom_rules.specs.NodeShapes.{number_of}

module _ (same : (f g : Form) → (same_form f g ≡ true) ↔ (f ≡ g)) where
  -- the number of a tree that stands among the trees leads to it
  pub tree-number : (trees : List Form) (f : Form) (j : ℕ) → j < length trees → tree_at trees j ≡ f → tree_at trees (number_of trees f) ≡ f
  tree-number [] f j within is = absurd (omega arith)
  tree-number (g ∷ trees) f zero within is = let equal = (same f g).1 (sym is) in rw equal is
  tree-number (g ∷ trees) f (suc j) within is = elim (cases_Bool (same_form f g)) [
    | inl equal ↦ rw equal (sym ((same f g).0 equal))
    | inr differs ↦ let n : 1 + number_of trees f ≡ suc (number_of trees f) = omega arith in rw (differs, n) (tree-number trees f j (omega arith) is)
  ]

  number-below : (trees : List Form) (f : Form) (j : ℕ) → j < length trees → tree_at trees j ≡ f → number_of trees f < length trees
  number-below [] f j within is = absurd (omega arith)
  number-below (g ∷ trees) f zero within is = let equal = (same f g).1 (sym is) in rw equal (omega arith)
  number-below (g ∷ trees) f (suc j) within is = elim (cases_Bool (same_form f g)) [
    | inl equal ↦ rw equal (omega arith)
    | inr differs ↦ let less = number-below trees f j (omega arith) is in rw differs (omega (arith, less))
  ]

  -- a tree that stands once has the number of its place
  pub number-at : (trees : List Form) → ((j k : ℕ) → j < length trees → k < length trees → tree_at trees j ≡ tree_at trees k → j ≡ k) → (a : ℕ)
      → a < length trees → number_of trees (tree_at trees a) ≡ a
  number-at trees once a low = once (number_of trees (tree_at trees a)) a (number-below trees (tree_at trees a) a low refl) low (tree-number trees (tree_at trees a) a low refl)

  module _ (trees : List Form) (children_first : (k : ℕ) → k < length trees → All (StandsBefore trees k) (children_of (tree_at trees k))) where
    -- a child by its place
    pub child-number : (k place : ℕ) (g h : Form) → k < length trees → tree_at trees k ≡ g → place < length (children_of g)
        → slice_index_or (children_of g) place h ≡ h → tree_at trees (number_of trees h) ≡ h
    child-number k place g h low is within at =
        let (j, less, there) = children_first k low place h (rw is within) in
        tree-number trees h j (omega arith) (there ∙ (rw is at))

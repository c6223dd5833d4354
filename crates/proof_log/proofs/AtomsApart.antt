-- Atoms that are put in order: no two are equal where no two neighbours are.
use Rattle.std.proofs.Common.{Ordering, Less, Equal, Greater, ◌≡◌, ◌≢◌, ◌∙◌, sym, ap, subst, refl, Bool, true, false, ℕ, ◌+◌, ◌-◌, ◌<◌, ◌≤◌, ◌↔◌, List, length, map, get_or, arith}
use Rattle.std.specs.Prelude.{AllPairs, Decides, IsPermutation, IsSorted, IsTrue}
use Rattle.std.specs.List.{AllAdjacentBelow}
use Rattle.std.specs.Cmp.{IsTotalOrder, tied_itself, eq_by_cmp_equiv}
use Rattle.std.specs.Ordering.{eq_by_cmp, is_eq, is_lt, ordering_reverse}
use Rattle.std.proofs.lemmas.List.{get_or-map, get_or_default, length-map}
use Rattle.std.proofs.lemmas.List.Sorted.{IsPermutation-sym, all_adjacent_more, ranks_by, sorted_far}
use Rattle.std.proofs.lemmas.Map.Keys.{IsDistinct-IsPermutation}
use Rattle.std.proofs.lemmas.Map.Lookups.{CmpEqualImpliesEq}
use Rattle.std.proofs.lemmas.Map.Made.{AllPairs-from_IsDistinct, IsDistinct-from_AllPairs}
use Rattle.std.proofs.lemmas.Map.Views.{tells_apart}
use Rattle.axiom_rules.specs.contracts.literal.AtomOrd.TheImpl.{cmp-value as atom_cmp}
use Rattle.axiom_rules.specs.contracts.literal.AtomOrd.TheImpl.Laws.{matches_eq-law}
use Rattle.axiom_rules.specs.contracts.literal.AtomPartialEq.TheImpl.{eq-value as atom_eq}
use Rattle.axiom_rules.specs.declared.literal.Atom.{Atom}
use Rattle.axiom_rules.specs.declared.literal.Literal.{Literal}
use Rattle.axiom_rules.specs.Literals.{same_atom}
use Rattle.axiom_rules.proofs.AddingLemmas.{atom-itself}
use Rattle.axiom_rules.proofs.PartLemmas.{atoms_same}

-- no two are equal, by two neighbours and by any two
abbrev pub AreApart : {K : Type 0} → List K → Type 0
AreApart xs = AllPairs (λ a b. a ≢ b) xs

abbrev pub AreNextApart : {K : Type 0} → List K → ℕ → Type 0
AreNextApart xs high = AllAdjacentBelow (λ a b. a ≢ b) xs high

-- one more neighbour was compared
pub next_apart : {K : Type 0} (xs : List K) (next : ℕ) (d : K) → AreNextApart xs next → 1 ≤ next → next < length xs → get_or xs (next - 1) d ≢ get_or xs next d → AreNextApart xs (next + 1)
next_apart xs next d before some within other = all_adjacent_more xs (λ a b. a ≢ b) next some before (λ e same.
    other (get_or_default xs (next - 1) d e (omega (arith, some, within)) ∙ same ∙ get_or_default xs next e d within))

-- neither is less
tied : (r s : Ordering) → r ≡ ordering_reverse s → is_lt r ≡ false → is_lt s ≡ false → r ≡ Equal
tied Less s is one other = absurd (cc)
tied Equal s is one other = refl
tied Greater Less is one other = absurd (cc)
tied Greater Equal is one other = absurd (cc)
tied Greater Greater is one other = absurd (cc)

module _ {K : Type 0} {R : K → K → Ordering} (order : IsTotalOrder R) (exact : CmpEqualImpliesEq R) where
  told : (a b : K) → Decides (eq_by_cmp R a b) (a ≡ b)
  told a b = (tells_apart exact a b, λ same. subst (λ (c : K). eq_by_cmp R a c ≡ true) same (ap is_eq (tied_itself order a)))

  -- elements that change places stay apart
  kept_apart : (xs ys : List K) → IsPermutation xs ys → AreApart xs → AreApart ys
  kept_apart xs ys moved apart = AllPairs-from_IsDistinct told ys (IsDistinct-IsPermutation (eq_by_cmp R) (eq_by_cmp_equiv order).symm xs ys moved (IsDistinct-from_AllPairs told xs apart))

  -- what is between two equal elements is equal to them
  in_order : (xs : List K) → IsSorted R xs → AreNextApart xs (length xs) → AreApart xs
  in_order xs sorted next_apart i j d less within same =
      let a = get_or xs i d in
      let b = get_or xs (i + 1) d in
      let no_more : is_lt (R (get_or xs j d) b) ≡ false = sorted_far (λ (x y : K). is_lt (R x y)) (ranks_by order (λ (x : K). x)) xs sorted (i + 1) j d (omega (arith, less)) within in
      let no_less : is_lt (R b a) ≡ false = sorted i d (omega arith) (omega (arith, less, within)) in
      next_apart i d (omega (arith, less, within)) (exact a b (tied (R a b) (R b a) (order.antisymm a b) (ap (λ (x : K). is_lt (R x b)) same ∙ no_more) no_less))

  pub all_apart : (xs ys : List K) → IsPermutation xs ys → IsSorted R ys → AreNextApart ys (length ys) → AreApart xs
  all_apart xs ys moved sorted next_apart = kept_apart ys xs (IsPermutation-sym xs ys moved) (in_order ys sorted next_apart)

  pub met_next : (xs ys : List K) (next : ℕ) (d : K) → IsPermutation xs ys → 1 ≤ next → next < length ys → get_or ys (next - 1) d ≡ get_or ys next d → AreApart xs → ⊥
  met_next xs ys next d moved some within same apart = kept_apart xs ys moved apart (next - 1) next d (omega (arith, some)) within same

-- the comparison of atoms is that of the definition
atom_is : (a b : Atom) → atom_eq.it a b ≡ same_atom a b
atom_is a b = grind arith

pub atoms_equal : (a b : Atom) → atom_eq.it a b ≡ true → a ≡ b
atoms_equal a b equal = atoms_same a b (sym (atom_is a b) ∙ equal)

pub equal_atoms : (a b : Atom) → a ≡ b → atom_eq.it a b ≡ true
equal_atoms a b same = atom_is a b ∙ ap (same_atom a) (sym same) ∙ atom-itself a

-- the order of atoms tells them apart
pub atoms_told : CmpEqualImpliesEq atom_cmp.it
atoms_told a b equal = atoms_same a b (sym (atom_is a b) ∙ matches_eq-law a b ∙ ap is_eq equal)

-- ---- the atoms of literals

abbrev pub atom_of : Literal → Atom
atom_of l = l.atom

abbrev pub HaveAtomsOnce : List Literal → Type 0
HaveAtomsOnce lits = AllPairs (λ l m. m.atom ≡ l.atom → ⊥) lits

pub once_apart : (lits : List Literal) → AreApart (map atom_of lits) ↔ HaveAtomsOnce lits
once_apart lits = (
  λ apart i j d less within same.
      let size = length-map lits atom_of in
      apart i j d.atom less (omega (arith, within, size)) (get_or-map atom_of lits i d d.atom (omega (arith, less, within)) ∙ sym same ∙ sym (get_or-map atom_of lits j d d.atom within)),
  λ once i j a less within same.
      let size = length-map lits atom_of in
      let d : Literal = record { atom = a; positive = true } in
      let inside : j < length lits = omega (arith, within, size) in
      once i j d less inside (sym (get_or-map atom_of lits j d a inside) ∙ sym same ∙ get_or-map atom_of lits i d a (omega (arith, less, inside))),
)

-- whether the atoms of literals are apart
pub decided : (atoms : List Atom) (lits : List Literal) (b : Bool) → atoms ≡ map atom_of lits → IsTrue b ↔ AreApart atoms → IsTrue b ↔ HaveAtomsOnce lits
decided atoms lits b are apart = (λ yes. (once_apart lits).0 (subst AreApart are (apart.0 yes)), λ once. apart.1 (subst AreApart (sym are) ((once_apart lits).1 once)))

-- Atoms of a list in order, beside those of a set.
use Rattle.std.proofs.Common.{Ordering, ◌≡◌, ◌∙◌, ap, subst, ℕ, ◌↔◌, ◌⊎◌, inl, inr, List, ◌∷◌, ◌++◌, get_or, arith, Result, true}
use Rattle.std.specs.Prelude.{Contains, OnOk}
use Rattle.std.specs.BTreeSet.{BTreeSet, Updates}
use Rattle.std.specs.List.Sorted.{IsNonDecreasingBy, IsPartitionPoint, IsPermutation, IsSorted}
use Rattle.std.specs.Cmp.{tied_itself}
use Rattle.std.specs.Ordering.{ordering_index}
use Rattle.std.specs.declared.cmp.Ordering.TheVariants.{Equal, Greater, Less}
use Rattle.std.proofs.lemmas.Bool.{cases_lt}
use Rattle.std.proofs.lemmas.List.Sorted.{IsPermutation-append_left, searchable_from_sorted}
use Rattle.std.proofs.lemmas.Result.{on_ok_weaker}
use Rattle.hint_refutation.proofs.Lists.{contains_cases, contains_later}
use Rattle.axiom_rules.specs.declared.literal.Atom.{Atom}
use Rattle.axiom_rules.specs.contracts.literal.AtomOrd.TheImpl.{cmp-value as atom_cmp}
use Rattle.axiom_rules.specs.contracts.literal.AtomOrd.TheImpl.Laws.{total-law}
use Rattle.proof_log.proofs.AtomsApart.{atoms_told}
use Rattle.proof_log.proofs.OrderedSets.{has_more}
use Rattle.proof_check.specs.Refutation.{AreThose}
use Rattle.proof_check.proofs.ThoseLemmas.{stands_first, those_behind, those_by}

not_less : (o : Ordering) → o ≡ Less → o ≡ Equal → ⊥
not_less o less equal = absurd (cc)

not_greater : (o : Ordering) → o ≡ Greater → o ≡ Equal → ⊥
not_greater o greater equal = absurd (cc)

-- an atom that a search of a list in order doesn't find stands nowhere in it
pub not_found : (atoms : List Atom) (a : Atom) (at : ℕ) → IsSorted atom_cmp.it atoms
    → (IsNonDecreasingBy (λ b. ordering_index (atom_cmp.it b a)) atoms → IsPartitionPoint (λ b. atom_cmp.it b a ≡ Less) (λ b. atom_cmp.it b a ≡ Greater) atoms at) → Contains atoms a → ⊥
not_found atoms a at sorted parted (k, below, there) =
    let point = parted (searchable_from_sorted total-law (λ b. b) atoms a sorted) in
    let b = get_or atoms k a in
    let equal : atom_cmp.it b a ≡ Equal = ap (λ (x : Atom). atom_cmp.it x a) there ∙ tied_itself total-law a in
    elim (cases_lt k at) [
      | inl before ↦ not_less (atom_cmp.it b a) (point.0 k a (omega arith) before) equal
      | inr from ↦ not_greater (atom_cmp.it b a) (point.1 k a from below) equal
    ]

-- the atoms of a set that gets one more
pub set_more : (old new : BTreeSet Atom) (a : Atom) → Updates atom_cmp.it old new a true → AreThose (a ∷ old.keys) new.keys
set_more old new a updates = those_by (a ∷ old.keys) new.keys
    (λ b has. (grown b).1 (elim (contains_cases a b old.keys has) [ inl same ↦ inr same | inr before ↦ inl before ]))
    (λ b has. elim ((grown b).0 has) [
      | inl before ↦ contains_later a b old.keys before
      | inr same ↦ stands_first a b old.keys same
    ])
  where
    grown : (b : Atom) → Contains new.keys b ↔ (Contains old.keys b ⊎ (a ≡ b))
    grown b = has_more total-law atoms_told old new a updates b

-- one atom more behind those of a list
pub added_behind : (front keys old new : List Atom) (a : Atom) → front ++ keys ≡ old → AreThose (a ∷ keys) new → AreThose (a ∷ old) (front ++ new)
added_behind front keys old new a is those = subst (λ atoms. AreThose (a ∷ atoms) (front ++ new)) is (those_behind front keys new a those)

-- atoms that moved to the end of a list that was sorted then
pub sorted_behind : {T E : Type 0} (r : Result T E) (all list keys ordered : List Atom) → OnOk r (list ++ keys ≡ all) → IsPermutation list ordered → OnOk r (IsPermutation all (ordered ++ keys))
sorted_behind r all list keys ordered is moved = on_ok_weaker r (λ same. subst (λ atoms. IsPermutation atoms (ordered ++ keys)) same (IsPermutation-append_left keys list ordered moved)) is

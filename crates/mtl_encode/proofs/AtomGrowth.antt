-- Tables of atoms that grow by those of literals, and what is read through them.
use Rattle.std.proofs.Common.{◌≡◌, ◌∙◌, ap, refl, ℕ, zero, suc, ◌+◌, ◌<◌, ◌≤◌, List, [], ◌∷◌, ◌++◌, length, take, get_or, Option, Some, None, inl, inr, arith}
use Rattle.std.specs.Prelude.{All, option_map, slice_get, slice_index_or}
use Rattle.std.proofs.lemmas.Bool.{cases_Bool}
use Rattle.std.proofs.lemmas.List.{length-append, map-append, take_more}
use Rattle.std.proofs.lemmas.List.Elements.{All-push}
use Rattle.mt_model.proofs.Members.{Among}
use Rattle.clause_db.specs.declared.lit.Lit.{Lit}
use Rattle.clause_db.specs.Literals.{HasVarsOnce}
use Rattle.axiom_rules.specs.declared.literal.Atom.{Atom}
use Rattle.axiom_rules.specs.declared.literal.Atom.TheVariants.{First}
use Rattle.axiom_rules.specs.declared.literal.Literal.{Literal}
use Rattle.axiom_rules.specs.Atoms.{has_atom, with_atom}
use Rattle.axiom_rules.specs.Laws.{HasAtomsOnce}
use Rattle.axiom_rules.specs.Literals.{yes}
use Rattle.mtl_encode.specs.Growth.{with_atoms}
use Rattle.mtl_encode.specs.Problems.{ReadsAs, read_literal}
use Rattle.mt_list.proofs.Lists.{got_kept}

-- each atom has the variable that it had
abbrev pub Keeps : List Atom → List Atom → Type 0
Keeps old new = (v : ℕ) (a : Atom) → slice_get old v ≡ Some a → slice_get new v ≡ Some a

pub keeps-atom : (atoms : List Atom) (b : Atom) → Keeps atoms (with_atom atoms b)
keeps-atom atoms b v a is = elim (cases_Bool (has_atom atoms b)) [
  | inl there ↦ rw there is
  | inr absent ↦ rw absent (got_kept atoms (b ∷ []) v a is)
]

pub keeps-atoms : (ls : List Literal) (atoms : List Atom) → Keeps atoms (with_atoms atoms ls)
keeps-atoms [] atoms v a is = is
keeps-atoms (l ∷ ls) atoms v a is = keeps-atoms ls (with_atom atoms l.atom) v a (keeps-atom atoms l.atom v a is)

pub longer-atom : (atoms : List Atom) (b : Atom) → length (with_atom atoms b) ≤ length atoms + 1
longer-atom atoms b = elim (cases_Bool (has_atom atoms b)) [
  | inl there ↦ rw there (omega arith)
  | inr absent ↦ rw absent (omega (arith, length-append atoms (b ∷ [])))
]

-- there is at most one atom more for each literal
pub longer-atoms : (ls : List Literal) (atoms : List Atom) → length (with_atoms atoms ls) ≤ length atoms + length ls
longer-atoms [] atoms = omega arith
longer-atoms (l ∷ ls) atoms = let ih = longer-atoms ls (with_atom atoms l.atom) in omega (arith, ih, longer-atom atoms l.atom)

atoms-append : (xs ys : List Literal) (atoms : List Atom) → with_atoms atoms (xs ++ ys) ≡ with_atoms (with_atoms atoms xs) ys
atoms-append [] ys atoms = refl
atoms-append (x ∷ xs) ys atoms = atoms-append xs ys (with_atom atoms x.atom)

-- with one literal more
pub atoms-more : (atoms : List Atom) (clause : List Literal) (i : ℕ) (d : Literal) → i < length clause
    → with_atoms atoms (take (i + 1) clause) ≡ with_atom (with_atoms atoms (take i clause)) (get_or clause i d).atom
atoms-more atoms clause i d low = ap (with_atoms atoms) (take_more clause i d low) ∙ atoms-append (take i clause) (get_or clause i d ∷ []) atoms

-- what holds of the atoms and of those of the literals
pub all-atom : (P : Atom → Type 0) (atoms : List Atom) (b : Atom) → All P atoms → P b → All P (with_atom atoms b)
all-atom P atoms b all is = elim (cases_Bool (has_atom atoms b)) [
  | inl there ↦ rw there all
  | inr absent ↦ rw absent (All-push P atoms b all is)
]

pub all-atoms : (P : Atom → Type 0) (ls : List Literal) (atoms : List Atom) → All P atoms → ((l : Literal) → Among ls l → P l.atom) → All P (with_atoms atoms ls)
all-atoms P [] atoms all each = all
all-atoms P (l ∷ ls) atoms all each = all-atoms P ls (with_atom atoms l.atom) (all-atom P atoms l.atom all (each l (inl refl))) (λ m in_. each m (inr in_))

-- a literal is read as it was
lit-kept : (old new : List Atom) → Keeps old new → (l : Lit) (c : Literal) → read_literal old l ≡ Some c → read_literal new l ≡ Some c
lit-kept old new keeps l c is = go (slice_get old l.var) refl is
  where
    go : (o : Option Atom) → slice_get old l.var ≡ o → option_map (λ a. let x : Literal = record { atom = a; positive = l.positive } in x) o ≡ Some c → read_literal new l ≡ Some c
    go None at is = absurd (cc)
    go (Some a) at is = rw (keeps l.var a at) is

pub parts-read : (x y : Option Literal) (xs ys : List (Option Literal)) → x ∷ xs ≡ y ∷ ys → (x ≡ y) × (xs ≡ ys)
parts-read x y xs ys is = (cc, cc)

pub read-kept : (old new : List Atom) → Keeps old new → (lits : List Lit) (clause : List Literal) → ReadsAs old lits clause → ReadsAs new lits clause
read-kept old new keeps [] [] is = refl
read-kept old new keeps [] (c ∷ clause) is = absurd (cc)
read-kept old new keeps (l ∷ lits) [] is = absurd (cc)
read-kept old new keeps (l ∷ lits) (c ∷ clause) is =
    let both = parts-read _ _ _ _ is in
    rw (lit-kept old new keeps l c both.0, read-kept old new keeps lits clause both.1) refl

-- with one literal more
pub read-more : (old new : List Atom) (lits : List Lit) (clause : List Literal) (i : ℕ) (d : Literal) (l : Lit) → Keeps old new → i < length clause
    → ReadsAs old lits (take i clause) → read_literal new l ≡ Some (get_or clause i d) → ReadsAs new (lits ++ l ∷ []) (take (i + 1) clause)
read-more old new lits clause i d l keeps low at more =
    rw (
      take_more clause i d low,
      map-append (read_literal new) lits (l ∷ []),
      map-append (λ (x : Literal). Some x) (take i clause)
          (get_or clause i d ∷ []),
      read-kept old new keeps lits (take i clause) at,
      more,
    )
    refl

pub read-count : (atoms : List Atom) (lits : List Lit) (clause : List Literal) → ReadsAs atoms lits clause → length lits ≡ length clause
read-count atoms [] [] is = refl
read-count atoms [] (c ∷ clause) is = absurd (cc)
read-count atoms (l ∷ lits) [] is = absurd (cc)
read-count atoms (l ∷ lits) (c ∷ clause) is = ap suc (read-count atoms lits clause (parts-read _ _ _ _ is).1)

pub read-at : (atoms : List Atom) (lits : List Lit) (clause : List Literal) (i : ℕ) (d : Lit) (e : Literal) → ReadsAs atoms lits clause → i < length lits
    → read_literal atoms (slice_index_or lits i d) ≡ Some (slice_index_or clause i e)
read-at atoms [] clause i d e is low = absurd (omega arith)
read-at atoms (l ∷ lits) [] i d e is low = absurd (cc)
read-at atoms (l ∷ lits) (c ∷ clause) zero d e is low = (parts-read _ _ _ _ is).0
read-at atoms (l ∷ lits) (c ∷ clause) (suc i) d e is low = read-at atoms lits clause i d e (parts-read _ _ _ _ is).1 (omega arith)

-- the atom of a literal that is read
pub read-atom : (atoms : List Atom) (l : Lit) (c : Literal) → read_literal atoms l ≡ Some c → (slice_get atoms l.var ≡ Some c.atom) × (l.positive ≡ c.positive)
read-atom atoms l c is = go (slice_get atoms l.var) refl is
  where
    go : (o : Option Atom) → slice_get atoms l.var ≡ o → option_map (λ a. let x : Literal = record { atom = a; positive = l.positive } in x) o ≡ Some c
        → (slice_get atoms l.var ≡ Some c.atom) × (l.positive ≡ c.positive)
    go None at is = absurd (cc)
    go (Some a) at is =
        let same : (let x : Literal = record { atom = a; positive = l.positive } in x) ≡ c = cc in
        (at ∙ ap (λ (x : Literal). Some x.atom) same, ap (λ (x : Literal). x.positive) same)

-- in literals that are read as a clause without an atom twice no variable stands twice
pub vars-once : (atoms : List Atom) (lits : List Lit) (clause : List Literal) → ReadsAs atoms lits clause → HasAtomsOnce clause → HasVarsOnce lits
vars-once atoms lits clause is once i j d less low same =
    let e : Literal = yes (First 0) in
    let count = read-count atoms lits clause is in
    let first = (read-atom atoms _ _ (read-at atoms lits clause i d e is (omega arith))).0 in
    let second = (read-atom atoms _ _ (read-at atoms lits clause j d e is low)).0 in
    let again : slice_get atoms (slice_index_or lits j d).var ≡ Some (slice_index_or clause i e).atom = rw (← same) first in
    once i j e less (omega (arith, count)) (cc)

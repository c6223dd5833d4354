-- In a clause no atom stands twice.
use Rattle.std.proofs.Common.{◌≡◌, ◌∙◌, sym, ap, refl, subst, ℕ, zero, suc, ◌<◌, Bool, true, false, not, ◌||◌, if◌then◌else◌, List, [], ◌∷◌, length, Ok, Err, ◌⊎◌, inl, inr, arith}
use Rattle.std.specs.Prelude.{◌≢◌, Result, filter, slice_index_or}
use Rattle.std.specs.List.{list_any}
use Rattle.std.proofs.lemmas.Bool.{and_from, cases_Bool, not-true}
use Rattle.mt_model.proofs.Members.{Among, any_some}
use Rattle.axiom_rules.specs.declared.fault.RuleFault.{RuleFault}
use Rattle.axiom_rules.specs.declared.fault.RuleFault.TheVariants.{Trivial}
use Rattle.axiom_rules.specs.declared.literal.Literal.{Literal}
use Rattle.axiom_rules.specs.declared.part.Part.{Part}
use Rattle.axiom_rules.specs.Laws.{ClausesHaveAtomsOnce, HasAtomsOnce}
use Rattle.axiom_rules.specs.Literals.{has_literal, negated, same_literal}
use Rattle.axiom_rules.specs.Parts.{clause_of_parts, each_once, is_true, literals_in, opposes_itself}
use Rattle.axiom_rules.proofs.AddingLemmas.{atom-itself, once-among, opposes-from, stands}
use Rattle.axiom_rules.proofs.BoolLemmas.{apart}
use Rattle.axiom_rules.proofs.RowCases.{written-by}

-- the atom of each literal is that of no later one
abbrev Apart : List Literal → Type 0
Apart [] = Unit {0}
Apart (l ∷ ls) = ((m : Literal) → Among ls m → l.atom ≢ m.atom) × Apart ls

among-kept : (p : Literal → Bool) (ls : List Literal) (m : Literal) → Among (filter p ls) m → Among ls m
among-kept p [] m in_ = in_
among-kept p (x ∷ xs) m in_ = elim (cases_Bool (p x)) [
  | inl is ↦ elim (rw is at in_) [ inl here ↦ inl here | inr there ↦ inr (among-kept p xs m there) ]
  | inr fails ↦ inr (among-kept p xs m (rw fails at in_))
]

passes-kept : (p : Literal → Bool) (ls : List Literal) (m : Literal) → Among (filter p ls) m → p m ≡ true
passes-kept p [] m in_ = absurd in_
passes-kept p (x ∷ xs) m in_ = elim (cases_Bool (p x)) [
  | inl is ↦ elim (rw is at in_) [ inl here ↦ subst (λ y. p y ≡ true) here is | inr there ↦ passes-kept p xs m there ]
  | inr fails ↦ passes-kept p xs m (rw fails at in_)
]

apart-filter : (p : Literal → Bool) (ls : List Literal) → Apart ls → Apart (filter p ls)
apart-filter p [] is = tt
apart-filter p (l ∷ ls) is = elim (cases_Bool (p l)) [
  | inl passes ↦ rw passes ((λ m in_. is.0 m (among-kept p ls m in_)), apart-filter p ls is.1)
  | inr fails ↦ rw fails (apart-filter p ls is.1)
]

-- two senses are equal, or the one is the negation of the other
senses : (a b : Bool) → ((if a then b else not b) ≡ true) ⊎ (b ≡ not a)
senses true true = inl refl
senses true false = inr refl
senses false true = inr refl
senses false false = inl refl

-- where the atoms are the same, the literals are, or the one is the negation of the other
same-or-negated : (l m : Literal) → l.atom ≡ m.atom → (same_literal m l ≡ true) ⊎ (m ≡ negated l)
same-or-negated l m same = elim (senses m.positive l.positive) [
  | inl equal ↦ inl (and_from _ _ (rw same (atom-itself m.atom)) equal)
  | inr other ↦ inr
      (ap (λ a. let x : Literal = record { atom = a; positive = m.positive } in x) (sym same)
      ∙ ap (λ b. let x : Literal = record { atom = l.atom; positive = b } in x) (sym (ap not other ∙ twice m.positive)))
]
  where
    twice : (b : Bool) → not (not b) ≡ b
    twice true = refl
    twice false = refl

opposes-later : (l : Literal) (ls : List Literal) → opposes_itself (l ∷ ls) ≡ false → opposes_itself ls ≡ false
opposes-later l ls none = elim (cases_Bool (opposes_itself ls)) [
  | inr fails ↦ fails
  | inl opposes ↦
      let (m, in_, is) = any_some (λ m. has_literal ls (negated m)) ls opposes in
      absurd (apart _ (opposes-from (l ∷ ls) m (inr in_) (inr (stands ls (negated m) is))) none)
]

once-apart : (ls : List Literal) → opposes_itself ls ≡ false → Apart (each_once ls)
once-apart [] none = tt
once-apart (l ∷ ls) none = (
  (λ m in_ same. elim (same-or-negated l m same) [
    | inl equal ↦ apart _ equal (not-true _ (passes-kept (λ x. not (same_literal x l)) (each_once ls) m in_))
    | inr other ↦ apart _ (opposes-from (l ∷ ls) l (inl refl) (inr (subst (Among ls) other (once-among ls m (among-kept (λ x. not (same_literal x l)) (each_once ls) m in_))))) none
  ]),
  apart-filter (λ x. not (same_literal x l)) (each_once ls) (once-apart ls (opposes-later l ls none)),
)

pub among-at : (ls : List Literal) (j : ℕ) (d : Literal) → j < length ls → Among ls (slice_index_or ls j d)
among-at [] j d low = absurd (omega arith)
among-at (l ∷ ls) zero d low = inl refl
among-at (l ∷ ls) (suc j) d low = inr (among-at ls j d (omega arith))

atoms-once : (ls : List Literal) → Apart ls → HasAtomsOnce ls
atoms-once [] is i j d less low = absurd (omega arith)
atoms-once (l ∷ ls) is i zero d less low = absurd (omega arith)
atoms-once (l ∷ ls) is zero (suc j) d less low = is.0 _ (among-at ls j d (omega arith))
atoms-once (l ∷ ls) is (suc i) (suc j) d less low = atoms-once ls is.1 i j d (omega arith) (omega arith)

parts-once : (parts : List Part) (c : List Literal) → clause_of_parts parts ≡ Ok c → HasAtomsOnce c
parts-once parts c is = go (list_any is_true parts) (opposes_itself (literals_in parts)) refl is
  where
    go : (known opposes : Bool) → opposes_itself (literals_in parts) ≡ opposes
        → (let r : Result (List Literal) RuleFault = (if known || opposes then Err Trivial else Ok (each_once (literals_in parts))) in r ≡ Ok c)
        → HasAtomsOnce c
    go true opposes none is = absurd (cc)
    go false true none is = absurd (cc)
    go false false none is = let same : each_once (literals_in parts) ≡ c = cc in subst HasAtomsOnce same (atoms-once (each_once (literals_in parts)) (once-apart (literals_in parts) none))

pub clauses-once : ClausesHaveAtomsOnce
clauses-once s rule c is = let w = written-by s rule c is in parts-once w.parts c w.clause

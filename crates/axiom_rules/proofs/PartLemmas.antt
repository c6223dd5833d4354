-- A clause holds where a part of what is written does.
use Rattle.std.proofs.Common.{◌≡◌, ◌∙◌, sym, ap, refl, ℕ, Bool, true, false, not, ◌||◌, if◌then◌else◌, List, [], ◌∷◌, Ok, Err, ◌⊎◌, inl, inr, ℤ, pos, ◌-ℤ◌, ◌≤ℤ◌, neg_ℤ, arith}
use Rattle.std.specs.Ordering.{int_eq}
use Rattle.std.specs.Prelude.{◌==◌, int_le, filter, map, Result}
use Rattle.std.specs.List.{list_any}
use Rattle.std.proofs.lemmas.Int.{ints}
use Rattle.std.proofs.lemmas.Bool.{cases_Bool, cases_order, and_parts, or_cases, or_left, or_right, eqb-true, eq-eqb, ne_eqb, lt-ltb, le-ltb}
use Rattle.std.proofs.lemmas.Bool.Decides.{Decides-int_eq}
use Rattle.axiom_rules.specs.declared.fault.RuleFault.{RuleFault}
use Rattle.axiom_rules.specs.declared.fault.RuleFault.TheVariants.{Trivial}
use Rattle.axiom_rules.specs.declared.literal.Atom.{Atom}
use Rattle.axiom_rules.specs.declared.literal.Atom.TheVariants.{Order, Node, First, Same, Wit, Span, Gap}
use Rattle.axiom_rules.specs.declared.literal.Literal.{Literal}
use Rattle.axiom_rules.specs.declared.part.Part.{Part}
use Rattle.axiom_rules.specs.declared.part.Part.TheVariants.{Says, Known}
use Rattle.axiom_rules.specs.Literals.{same_atom, same_literal}
use Rattle.axiom_rules.specs.Parts.{clause_of_parts, each_once, is_true, literals_in, not_order, not_same, opposes_itself, order, same}
use Rattle.std.specs.Cmp.{both_ways}
use Rattle.mt_model.proofs.TruthLemmas.{and_3}

pub atoms_same : (a b : Atom) → same_atom a b ≡ true → a ≡ b
atoms_same (Order e f c) (Order g h d) is = let p = and_3 (e == g) (f == h) (int_eq c d) is in cc (eqb-true e g p.0, eqb-true f h p.1, (Decides-int_eq c d).0 p.2)
atoms_same (Node k e) (Node l f) is = let p = and_parts (k == l) (e == f) is in cc (eqb-true k l p.0, eqb-true e f p.1)
atoms_same (First e) (First f) is = cc (eqb-true e f is)
atoms_same (Same e x) (Same f y) is = let p = and_parts (e == f) (x == y) is in cc (eqb-true e f p.0, eqb-true x y p.1)
atoms_same (Wit k i j) (Wit l g h) is = let p = and_3 (k == l) (i == g) (j == h) is in cc (eqb-true k l p.0, eqb-true i g p.1, eqb-true j h p.2)
atoms_same (Span k i j) (Span l g h) is = let p = and_3 (k == l) (i == g) (j == h) is in cc (eqb-true k l p.0, eqb-true i g p.1, eqb-true j h p.2)
atoms_same (Gap k i j) (Gap l g h) is = let p = and_3 (k == l) (i == g) (j == h) is in cc (eqb-true k l p.0, eqb-true i g p.1, eqb-true j h p.2)
atoms_same _ _ is = absurd (cc)

senses_same : (a b : Bool) → (if a then b else not b) ≡ true → a ≡ b
senses_same true true is = refl
senses_same true false is = absurd (cc)
senses_same false true is = absurd (cc)
senses_same false false is = refl

pub literals_same : (l m : Literal) → same_literal l m ≡ true → l ≡ m
literals_same l m is =
    let p = and_parts (same_atom l.atom m.atom) (if l.positive then m.positive else not m.positive) is in
    ap (λ a. let x : Literal = record { atom = a; positive = l.positive } in x) (atoms_same l.atom m.atom p.0)
    ∙ ap (λ b. let x : Literal = record { atom = m.atom; positive = b } in x) (senses_same l.positive m.positive p.1)

module _ (v : Atom → Bool) where
  abbrev pub valued : Literal → Bool
  valued l = if l.positive then v l.atom else not (v l.atom)

  -- a part is true, where the atoms have these values
  abbrev pub part_holds : Part → Bool
  part_holds (Says l) = valued l
  part_holds (Known b) = b

  -- what holds and is not one literal is among the rest without that one
  rest_holds : (l : Literal) (ls : List Literal) → list_any valued ls ≡ true → (valued l || list_any valued (filter (λ m. not (same_literal m l)) ls)) ≡ true
  rest_holds l [] h = absurd (cc)
  rest_holds l (m ∷ ms) h = go (same_literal m l) refl (or_cases (valued m) (list_any valued ms) h) (λ there. rest_holds l ms there)
    where
      later : (a b r : Bool) → (a || r) ≡ true → (a || (b || r)) ≡ true
      later true b r h = refl
      later false true r h = refl
      later false false r h = h

      go : (b : Bool) → same_literal m l ≡ b → (valued m ≡ true) ⊎ (list_any valued ms ≡ true)
          → (list_any valued ms ≡ true → (valued l || list_any valued (filter (λ m. not (same_literal m l)) ms)) ≡ true)
          → (valued l || list_any valued (filter (λ m. not (same_literal m l)) (m ∷ ms))) ≡ true
      go true is (inl here) rest = let held : valued l ≡ true = rw (← literals_same m l is) here in or_left (valued l) _ held
      go true is (inr there) rest = rw is (rest there)
      go false is (inl here) rest = rw is (or_right (valued l) _ (or_left (valued m) _ here))
      go false is (inr there) rest = rw is (later (valued l) (valued m) _ (rest there))

  once_holds : (ls : List Literal) → list_any valued ls ≡ true → list_any valued (each_once ls) ≡ true
  once_holds [] h = h
  once_holds (l ∷ ls) h = elim (or_cases (valued l) (list_any valued ls) h) [
    | inl here ↦ or_left _ _ here
    | inr there ↦ rest_holds l (each_once ls) (once_holds ls there)
  ]

  literals_hold : (parts : List Part) → list_any is_true parts ≡ false → list_any part_holds parts ≡ true → list_any valued (literals_in parts) ≡ true
  literals_hold [] none h = h
  literals_hold (Says l ∷ parts) none h = elim (or_cases (valued l) (list_any part_holds parts) h) [
    | inl here ↦ or_left _ _ here
    | inr there ↦ or_right (valued l) _ (literals_hold parts none there)
  ]
  literals_hold (Known true ∷ parts) none h = absurd (cc)
  literals_hold (Known false ∷ parts) none h = literals_hold parts none h

  -- where a part is true, the clause holds
  pub clause_from_parts : (parts : List Part) (c : List Literal) → clause_of_parts parts ≡ Ok c → list_any part_holds parts ≡ true → list_any valued c ≡ true
  clause_from_parts parts c is h = go (list_any is_true parts) (opposes_itself (literals_in parts)) refl is
    where
      go : (known opposes : Bool) → list_any is_true parts ≡ known
          → (let r : Result (List Literal) RuleFault = (if known || opposes then Err Trivial else Ok (each_once (literals_in parts))) in r ≡ Ok c)
          → list_any valued c ≡ true
      go true opposes known is = absurd (cc)
      go false true known is = absurd (cc)
      go false false known is = let same : each_once (literals_in parts) ≡ c = cc in rw (← same) (once_holds (literals_in parts) (literals_hold parts known h))

-- some part of one kind holds where some place has it
pub any-map : {X Y : Type 0} (p : Y → Bool) (h : X → Y) (xs : List X) → list_any p (map h xs) ≡ list_any (λ x. p (h x)) xs
any-map p h [] = refl
any-map p h (x ∷ xs) = ap (λ r. p (h x) || r) (any-map p h xs)

-- two tests that say the same
pub le_same : (a b c d : ℤ) → (a ≤ℤ b → c ≤ℤ d) → (c ≤ℤ d → a ≤ℤ b) → int_le a b ≡ int_le c d
le_same a b c d f g = both_ways _ _ (λ h. let x = f (omega (arith, ints)) in grind (arith, ints)) (λ h. let x = g (omega (arith, ints)) in grind (arith, ints))

-- a distance is at most 0 where the one time is not after the other
pub not_after_is : (x y : ℤ) → int_le (x -ℤ y) (pos 0) ≡ int_le x y
not_after_is x y = le_same (x -ℤ y) (pos 0) x y (λ h. omega (arith, ints)) (λ h. omega (arith, ints))

-- at most -a the one way is at least a the other way
pub from_is : (x y : ℤ) (a : ℕ) → int_le (x -ℤ y) (neg_ℤ (pos a)) ≡ int_le (pos a) (y -ℤ x)
from_is x y a = le_same (x -ℤ y) (neg_ℤ (pos a)) (pos a) (y -ℤ x) (λ h. omega (arith, ints)) (λ h. omega (arith, ints))

-- the negation of a bound on a difference is one the other way
pub negated_is : (x y c : ℤ) → int_le (y -ℤ x) (neg_ℤ c -ℤ pos 1) ≡ not (int_le (x -ℤ y) c)
negated_is x y c = both_ways _ _ to from
  where
    to : int_le (y -ℤ x) (neg_ℤ c -ℤ pos 1) ≡ true → not (int_le (x -ℤ y) c) ≡ true
    to h = elim (cases_Bool (int_le (x -ℤ y) c)) [ inl is ↦ absurd (omega (arith, ints)) | inr fails ↦ rw fails refl ]

    from : not (int_le (x -ℤ y) c) ≡ true → int_le (y -ℤ x) (neg_ℤ c -ℤ pos 1) ≡ true
    from h = elim (cases_Bool (int_le (x -ℤ y) c)) [ inl is ↦ absurd (cc) | inr fails ↦ let g : (y -ℤ x) ≤ℤ (neg_ℤ c -ℤ pos 1) = omega (arith, ints) in grind (arith, ints) ]

module _ (v : Atom → Bool) (time : ℕ → ℤ) (agrees : (e f : ℕ) (c : ℤ) → v (Order e f c) ≡ int_le (time e -ℤ time f) c) where
  twice : (b : Bool) → not (not b) ≡ b
  twice true = refl
  twice false = refl

  -- an order literal says what it is written for
  pub order-says : (e f : ℕ) (c : ℤ) → part_holds v (order e f c) ≡ int_le (time e -ℤ time f) c
  order-says e f c = elim (cases_order e f) [
    | inl equal ↦ let q = eq-eqb e f equal in rw (q, equal) (constant (time f) c)
    | inr (inl less) ↦ let q = ne_eqb e f (λ s. absurd (omega arith)) in let p = lt-ltb e f less in rw (q, p) (agrees e f c)
    | inr (inr more) ↦ let q = ne_eqb e f (λ s. absurd (omega arith)) in let p = le-ltb e f (omega arith) in
        rw (q, p) (ap not (agrees f e (neg_ℤ c -ℤ pos 1)) ∙ (ap not (negated_is (time e) (time f) c) ∙ twice (int_le (time e -ℤ time f) c)))
  ]
    where
      constant : (x c : ℤ) → int_le (pos 0) c ≡ int_le (x -ℤ x) c
      constant x c = let none : x -ℤ x ≡ pos 0 = omega (arith, ints) in rw none refl

  pub not_order-says : (e f : ℕ) (c : ℤ) → part_holds v (not_order e f c) ≡ not (int_le (time e -ℤ time f) c)
  not_order-says e f c = order-says f e (neg_ℤ c -ℤ pos 1) ∙ negated_is (time e) (time f) c

-- two times are equal the one way where they are the other way
pub equal_turned : (x y : ℤ) → int_eq x y ≡ int_eq y x
equal_turned x y = both_ways _ _ (λ h. (Decides-int_eq y x).1 (sym ((Decides-int_eq x y).0 h))) (λ h. (Decides-int_eq x y).1 (sym ((Decides-int_eq y x).0 h)))

module _ (v : Atom → Bool) (time : ℕ → ℤ) (agrees : (e x : ℕ) → v (Same e x) ≡ int_eq (time e) (time x)) where
  -- what is written of two events at one instant says that they are
  pub same-says : (e x : ℕ) → part_holds v (same e x) ≡ int_eq (time e) (time x)
  same-says e x = elim (cases_order e x) [
    | inl equal ↦ let q = eq-eqb e x equal in rw (q, equal) (sym ((Decides-int_eq (time x) (time x)).1 refl))
    | inr (inl less) ↦ let q = ne_eqb e x (λ s. absurd (omega arith)) in let p = lt-ltb e x less in rw (q, p) (agrees e x)
    | inr (inr more) ↦ let q = ne_eqb e x (λ s. absurd (omega arith)) in let p = le-ltb e x (omega arith) in rw (q, p) (agrees x e ∙ equal_turned (time x) (time e))
  ]

  pub not_same-says : (e x : ℕ) → part_holds v (not_same e x) ≡ not (int_eq (time e) (time x))
  not_same-says e x = elim (cases_order e x) [
    | inl equal ↦ let q = eq-eqb e x equal in rw (q, equal) (sym (ap not ((Decides-int_eq (time x) (time x)).1 refl)))
    | inr (inl less) ↦ let q = ne_eqb e x (λ s. absurd (omega arith)) in let p = lt-ltb e x less in rw (q, p) (ap not (agrees e x))
    | inr (inr more) ↦ let q = ne_eqb e x (λ s. absurd (omega arith)) in let p = le-ltb e x (omega arith) in rw (q, p) (ap not (agrees x e ∙ equal_turned (time x) (time e)))
  ]

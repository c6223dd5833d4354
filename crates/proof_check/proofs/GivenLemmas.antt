-- Literals by their atoms, of which those of each sense stand apart.
use Rattle.std.proofs.Common.{◌≡◌, ◌∙◌, refl, sym, ap, subst, Bool, true, false, true≢false, ◌↔◌, inl, inr, List, ◌∷◌, ◌++◌, map}
use Rattle.std.specs.Prelude.{Contains, IsTrue}
use Rattle.std.proofs.lemmas.List.Elements.{Contains-append_cases, Contains-append_left, Contains-append_right}
use Rattle.hint_refutation.proofs.Lists.{contains_map, contains_unmap}
use Rattle.axiom_rules.specs.declared.literal.Atom.{Atom}
use Rattle.axiom_rules.specs.declared.literal.Literal.{Literal}
use Rattle.axiom_rules.specs.Literals.{yes, no}
use Rattle.proof_check.specs.Refutation.{AreThose}
use Rattle.proof_check.proofs.ThoseLemmas.{those_before, those_behind, those_mapped}

of_sense : (l : Literal) (sense : Bool) → l.positive ≡ sense → (let m : Literal = record { atom = l.atom; positive = sense } in m) ≡ l
of_sense l sense is = ap (λ b. let m : Literal = record { atom = l.atom; positive = b } in m) (sym is)

-- made of an atom of a list, a literal has it
unmade : (f : Atom → Literal) → ((a : Atom) → (f a).atom ≡ a) → (atoms : List Atom) (l : Literal) → Contains (map f atoms) l → Contains atoms l.atom
unmade f own atoms l has =
    let (a, there, is) = contains_unmap f atoms l has in
    subst (λ (b : Atom). Contains atoms b) (sym (own a) ∙ ap (λ (m : Literal). m.atom) is) there

-- and its sense
sense_of : (f : Atom → Literal) (sense : Bool) → ((a : Atom) → (f a).positive ≡ sense) → (atoms : List Atom) (l : Literal) → Contains (map f atoms) l → sense ≡ l.positive
sense_of f sense own atoms l has = let (a, _, is) = contains_unmap f atoms l has in sym (own a) ∙ ap (λ (m : Literal). m.positive) is

module _ (positive negative : List Atom) (l : Literal) where
  abbrev both : List Literal
  both = map yes positive ++ map no negative

  -- a positive literal stands there where its atom does
  yes_stands : l.positive ≡ true → Contains positive l.atom ↔ Contains both l
  yes_stands is = (
    λ has. Contains-append_left (map yes positive) (map no negative) l (subst (λ (m : Literal). Contains (map yes positive) m) (of_sense l true is) (contains_map yes positive l.atom has)),
    λ has. elim (Contains-append_cases (map yes positive) (map no negative) l has) [
      | inl there ↦ unmade yes (λ a. refl) positive l there
      | inr other ↦ absurd (true≢false (sym is ∙ sym (sense_of no false (λ a. refl) negative l other)))
    ],
  )

  -- and so does a negative one
  no_stands : l.positive ≡ false → Contains negative l.atom ↔ Contains both l
  no_stands is = (
    λ has. Contains-append_right (map yes positive) (map no negative) l (subst (λ (m : Literal). Contains (map no negative) m) (of_sense l false is) (contains_map no negative l.atom has)),
    λ has. elim (Contains-append_cases (map yes positive) (map no negative) l has) [
      | inl other ↦ absurd (true≢false (sense_of yes true (λ a. refl) positive l other ∙ is))
      | inr there ↦ unmade no (λ a. refl) negative l there
    ],
  )

  module _ (all : List Literal) (same : both ≡ all) where
    -- so a test for its atom tells whether it stands there
    told : (r : Bool) (P : Type 0) → P ↔ Contains both l → IsTrue r ↔ P → IsTrue r ↔ Contains all l
    told r P stands test = (
      λ yes. subst (λ ls. Contains ls l) same (stands.0 (test.0 yes)),
      λ has. test.1 (stands.1 (subst (λ ls. Contains ls l) (sym same) has)),
    )

    pub yes_told : (r : Bool) → l.positive ≡ true → IsTrue r ↔ Contains positive l.atom → IsTrue r ↔ Contains all l
    yes_told r is test = told r (Contains positive l.atom) (yes_stands is) test

    pub no_told : (r : Bool) → l.positive ≡ false → IsTrue r ↔ Contains negative l.atom → IsTrue r ↔ Contains all l
    no_told r is test = told r (Contains negative l.atom) (no_stands is) test

    -- and its atom adds it
    pub yes_added : (new : List Atom) → l.positive ≡ true → AreThose (l.atom ∷ positive) new → AreThose (l ∷ all) (map yes new ++ map no negative)
    yes_added new is those =
        let made = subst (λ (m : Literal). AreThose (m ∷ map yes positive) (map yes new)) (of_sense l true is) (those_mapped yes (l.atom ∷ positive) new those) in
        subst (λ ls. AreThose (l ∷ ls) (map yes new ++ map no negative)) same (those_before (l ∷ map yes positive) (map yes new) (map no negative) made)

    pub no_added : (new : List Atom) → l.positive ≡ false → AreThose (l.atom ∷ negative) new → AreThose (l ∷ all) (map yes positive ++ map no new)
    no_added new is those =
        let made = subst (λ (m : Literal). AreThose (m ∷ map no negative) (map no new)) (of_sense l false is) (those_mapped no (l.atom ∷ negative) new those) in
        subst (λ ls. AreThose (l ∷ ls) (map yes positive ++ map no new)) same (those_behind (map yes positive) (map no negative) (map no new) l made)

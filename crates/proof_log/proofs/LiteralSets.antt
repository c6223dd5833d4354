-- Sets of literals over some atoms, none with an atom twice: they are numbers with a digit in base three for each atom.
use Rattle.std.proofs.Common.{◌≡◌, ◌∙◌, ap, sym, subst, refl, ℕ, suc, ◌+◌, ◌*◌, ◌^◌, ◌<◌, ◌≤◌, inl, inr, List, [], ◌∷◌, length, map, get_or, arith, eqb, Bool, true, false, cond}
use Rattle.std.specs.Prelude.{All, AllPairs, Contains}
use Rattle.std.specs.List.{list_any}
use Rattle.std.proofs.lemmas.Bool.{cases_Bool, cases_eq, cases_lt, or_cases, ne_eqb}
use Rattle.std.proofs.lemmas.List.{get_or_default, get_or-map, length-map}
use Rattle.std.proofs.lemmas.List.Elements.{All-contains}
use Rattle.std.proofs.lemmas.Map.Keys.{IsDistinct-from_apart}
use Rattle.std.proofs.lemmas.Map.Steps.{length-le_from_distinct_below}
use Rattle.hint_refutation.proofs.Lists.{all_from, contains_cases, contains_first, contains_later, contains_none}
use Rattle.axiom_rules.specs.declared.literal.Atom.{Atom}
use Rattle.axiom_rules.specs.declared.literal.Literal.{Literal}
use Rattle.axiom_rules.specs.Literals.{same_atom}
use Rattle.axiom_rules.proofs.AddingLemmas.{atom-itself}
use Rattle.axiom_rules.proofs.PartLemmas.{atoms_same}
use Rattle.proof_log.specs.FreshLaws.{HaveSameLiterals}
use Rattle.mt_list.proofs.Lists.{first_below}

-- of an atom that is there the digit is 1 or 2, by the sense of its literal, and of any other atom it is 0
abbrev sense : Bool → ℕ
sense true = 1
sense false = 2

abbrev digit : Atom → List Literal → ℕ
digit a [] = 0
digit a (l ∷ ls) = cond (same_atom l.atom a) (sense l.positive) (digit a ls)

abbrev code : List Atom → List Literal → ℕ
code [] ls = 0
code (a ∷ rest) ls = digit a ls + 3 * code rest ls

-- no atom has two literals
abbrev pub IsPlain : List Literal → Type 0
IsPlain ls = (k l : Literal) → Contains ls k → Contains ls l → k.atom ≡ l.atom → k ≡ l

pub plain_once : (ls : List Literal) → AllPairs (λ l m. m.atom ≡ l.atom → ⊥) ls → IsPlain ls
plain_once ls once k l has_k has_l same = elim (cases_eq has_k.0 has_l.0) [
  | inl is ↦ sym has_k.2 ∙ get_or_default ls has_k.0 k l has_k.1 ∙ ap (λ i. get_or ls i l) is ∙ has_l.2
  | inr other ↦ elim (cases_lt has_k.0 has_l.0) [
    | inl before ↦ absurd (once has_k.0 has_l.0 k before has_l.1 (at_l ∙ sym same ∙ sym at_k))
    | inr after ↦ absurd (once has_l.0 has_k.0 k (omega (arith, after, other)) has_k.1 (at_k ∙ same ∙ sym at_l))
  ]
] where
  at_k : (get_or ls has_k.0 k).atom ≡ k.atom
  at_k = ap (λ (x : Literal). x.atom) has_k.2

  at_l : (get_or ls has_l.0 k).atom ≡ l.atom
  at_l = ap (λ (x : Literal). x.atom) (get_or_default ls has_l.0 k l has_l.1 ∙ has_l.2)

sense_most : (b : Bool) → sense b ≤ 2
sense_most true = omega arith
sense_most false = omega arith

digit_most : (a : Atom) (ls : List Literal) → digit a ls ≤ 2
digit_most a [] = omega arith
digit_most a (l ∷ ls) = either (same_atom l.atom a) (sense_most l.positive) (digit_most a ls) where
  either : (b : Bool) {x y : ℕ} → x ≤ 2 → y ≤ 2 → cond b x y ≤ 2
  either true p q = p
  either false p q = q

digit_below : (n d c : ℕ) → d ≤ 2 → c < 3 ^ n → d + 3 * c < 3 ^ suc n
digit_below n d c most below =
    let power : 3 ^ suc n ≡ 3 * 3 ^ n = omega arith in
    omega (arith, most, below, power)

code_below : (atoms : List Atom) (ls : List Literal) → code atoms ls < 3 ^ length atoms
code_below [] ls = omega arith
code_below (a ∷ rest) ls = digit_below (length rest) (digit a ls) (code rest ls) (digit_most a ls) (code_below rest ls)

-- a number has one digit of each atom
code_same : (atoms : List Atom) (xs ys : List Literal) → code atoms xs ≡ code atoms ys → (a : Atom) → Contains atoms a → digit a xs ≡ digit a ys
code_same [] xs ys same a has = absurd (contains_none a has)
code_same (b ∷ rest) xs ys same a has =
    let p = digit_most b xs in
    let q = digit_most b ys in
    let later : code rest xs ≡ code rest ys = omega (arith, p, q, same) in
    let here : digit b xs ≡ digit b ys = omega (arith, p, q, same, later) in
    elim (contains_cases b a rest has) [
      | inl is ↦ subst (λ (c : Atom). digit c xs ≡ digit c ys) is here
      | inr there ↦ code_same rest xs ys later a there
    ]

sense_same : (a b : Bool) → sense a ≡ sense b → a ≡ b
sense_same true true e = refl
sense_same false false e = refl
sense_same true false e = absurd (omega arith)
sense_same false true e = absurd (omega arith)

sense_some : (b : Bool) → sense b ≡ 0 → ⊥
sense_some true e = omega arith
sense_some false e = omega arith

literal_same : (k l : Literal) → k.atom ≡ l.atom → k.positive ≡ l.positive → k ≡ l
literal_same k l atom positive =
    let of : Atom → Bool → Literal = λ a b. record { atom = a; positive = b } in
    ap (λ a. of a k.positive) atom ∙ ap (λ b. of l.atom b) positive

-- a literal stands in the list exactly where its atom's digit is that of its sense
digit_in : (ls : List Literal) (l : Literal) → digit l.atom ls ≡ sense l.positive → Contains ls l
digit_in [] l is = absurd (sense_some l.positive (sym is))
digit_in (k ∷ ks) l is = elim (cases_Bool (same_atom k.atom l.atom)) [
  | inl on ↦
      let positive = sense_same k.positive l.positive (rw on at is) in
      subst (λ (x : Literal). Contains (k ∷ ks) x) (literal_same k l (atoms_same k.atom l.atom on) positive) (contains_first k ks)
  | inr off ↦ contains_later k l ks (digit_in ks l (rw off at is))
]

in_digit : (ls : List Literal) (l : Literal) → IsPlain ls → Contains ls l → digit l.atom ls ≡ sense l.positive
in_digit [] l plain has = absurd (contains_none l has)
in_digit (k ∷ ks) l plain has = elim (cases_Bool (same_atom k.atom l.atom)) [
  | inl on ↦
      let is : k ≡ l = plain k l (contains_first k ks) has (atoms_same k.atom l.atom on) in
      rw on (ap (λ (x : Literal). sense x.positive) is)
  | inr off ↦ rw off (in_digit ks l (λ x y has_x has_y. plain x y (contains_later k x ks has_x) (contains_later k y ks has_y)) (rest off))
] where
  rest : same_atom k.atom l.atom ≡ false → Contains ks l
  rest off = elim (contains_cases k l ks has) [
    | inl is ↦ let wrong : true ≡ false = sym (atom-itself k.atom) ∙ ap (λ (x : Literal). same_atom k.atom x.atom) is ∙ off in absurd (cc)
    | inr there ↦ there
  ]

module _ (atoms : List Atom) where
  codes_below : (clauses : List (List Literal)) (q : ℕ) → list_any (eqb q) (map (code atoms) clauses) ≡ true → q < 3 ^ length atoms
  codes_below [] q found = absurd cc
  codes_below (c ∷ cs) q found = elim (or_cases (eqb q (code atoms c)) (list_any (eqb q) (map (code atoms) cs)) found) [
    | inl here ↦ first_below q (code atoms c) (code_below atoms c) here
    | inr later ↦ codes_below cs q later
  ]

  abbrev AreAmong : List Literal → Type 0
  AreAmong c = All (λ l. Contains atoms l.atom) c

  code_into : (c d : List Literal) → IsPlain c → AreAmong c → code atoms c ≡ code atoms d → All (Contains d) c
  code_into c d plain among same = all_from (Contains d) c (λ l has.
      let digits = code_same atoms c d same l.atom (All-contains (λ (k : Literal). Contains atoms k.atom) c l among has) in
      digit_in d l (sym digits ∙ in_digit c l plain has))

  -- clauses over the atoms that differ as sets are at most three to the number of atoms
  pub few_sets : (clauses : List (List Literal)) → All IsPlain clauses → All AreAmong clauses → AllPairs (λ c d. HaveSameLiterals c d → ⊥) clauses → length clauses ≤ 3 ^ length atoms
  few_sets clauses plain among apart =
      let size = length-map clauses (code atoms) in
      let distinct = IsDistinct-from_apart eqb (map (code atoms) clauses) (λ i j e less within. codes_apart i j e less (omega (arith, within, size))) in
      let few = length-le_from_distinct_below (map (code atoms) clauses) (3 ^ length atoms) distinct (codes_below clauses) in
      omega (arith, few, size)
    where
      codes_apart : (i j e : ℕ) → i < j → j < length clauses → eqb (get_or (map (code atoms) clauses) i e) (get_or (map (code atoms) clauses) j e) ≡ false
      codes_apart i j e less j_in =
          let i_in : i < length clauses = omega (arith, less, j_in) in
          let c = get_or clauses i [] in
          let d = get_or clauses j [] in
          rw (get_or-map (code atoms) clauses i [] e i_in, get_or-map (code atoms) clauses j [] e j_in)
          (ne_eqb (code atoms c) (code atoms d) (λ same. apart i j [] less j_in (record {
            into = code_into c d (plain i [] i_in) (among i [] i_in) same;
            back = code_into d c (plain j [] j_in) (among j [] j_in) (sym same);
          })))

-- The clause of parts is what grows out of them, a part at a time.
use Rattle.std.proofs.Common.{◌≡◌, ◌∙◌, sym, ap, refl, subst, Bool, true, false, not, ◌||◌, if◌then◌else◌, List, [], ◌∷◌, ◌++◌, Ok, Err, ◌⊎◌, inl, inr}
use Rattle.std.specs.Prelude.{filter, Result}
use Rattle.std.specs.List.{list_any}
use Rattle.std.proofs.lemmas.Bool.{cases_Bool, and_from, eq-eqb, or_cases, or_left, or_right}
use Rattle.std.proofs.lemmas.Bool.Decides.{Decides-int_eq}
use Rattle.std.proofs.lemmas.List.{append-nil, append_assoc}
use Rattle.mt_model.proofs.Members.{Among, any_some, some_any}
use Rattle.axiom_rules.specs.declared.fault.RuleFault.{RuleFault}
use Rattle.axiom_rules.specs.declared.fault.RuleFault.TheVariants.{Trivial}
use Rattle.axiom_rules.specs.declared.literal.Atom.{Atom}
use Rattle.axiom_rules.specs.declared.literal.Atom.TheVariants.{Order, Node, First, Same, Wit, Span, Gap}
use Rattle.axiom_rules.specs.declared.literal.Literal.{Literal}
use Rattle.axiom_rules.specs.declared.part.Part.{Part}
use Rattle.axiom_rules.specs.declared.part.Part.TheVariants.{Says, Known}
use Rattle.axiom_rules.specs.Adding.{then_with, with_part, with_parts}
use Rattle.axiom_rules.specs.Literals.{has_literal, negated, same_atom, same_literal}
use Rattle.axiom_rules.specs.Parts.{clause_of_parts, each_once, is_true, literals_in, opposes_itself}
use Rattle.axiom_rules.proofs.BoolLemmas.{apart, from_3}
use Rattle.axiom_rules.proofs.PartLemmas.{literals_same}
use Rattle.std.specs.Cmp.{both_ways}

pub atom-itself : (a : Atom) → same_atom a a ≡ true
atom-itself (Order e f c) = from_3 _ _ _ (eq-eqb e e refl) (eq-eqb f f refl) ((Decides-int_eq c c).1 refl)
atom-itself (Node k e) = and_from _ _ (eq-eqb k k refl) (eq-eqb e e refl)
atom-itself (First e) = eq-eqb e e refl
atom-itself (Same e x) = and_from _ _ (eq-eqb e e refl) (eq-eqb x x refl)
atom-itself (Wit k i j) = from_3 _ _ _ (eq-eqb k k refl) (eq-eqb i i refl) (eq-eqb j j refl)
atom-itself (Span k i j) = from_3 _ _ _ (eq-eqb k k refl) (eq-eqb i i refl) (eq-eqb j j refl)
atom-itself (Gap k i j) = from_3 _ _ _ (eq-eqb k k refl) (eq-eqb i i refl) (eq-eqb j j refl)

sense-itself : (a : Bool) → (if a then a else not a) ≡ true
sense-itself true = refl
sense-itself false = refl

pub literal-itself : (l : Literal) → same_literal l l ≡ true
literal-itself l = and_from _ _ (atom-itself l.atom) (sense-itself l.positive)

twice : (b : Bool) → not (not b) ≡ b
twice true = refl
twice false = refl

pub negated-twice : (l : Literal) → negated (negated l) ≡ l
negated-twice l = ap (λ b. let x : Literal = record { atom = l.atom; positive = b } in x) (twice l.positive)

-- a literal stands in a list where the test says so
pub stands : (ls : List Literal) (l : Literal) → has_literal ls l ≡ true → Among ls l
stands ls l h = let (m, in_, is) = any_some (same_literal l) ls h in let same : m ≡ l = sym (literals_same l m is) in subst (Among ls) same in_

pub stands-has : (ls : List Literal) (l : Literal) → Among ls l → has_literal ls l ≡ true
stands-has ls l in_ = some_any (same_literal l) ls l in_ (literal-itself l)

among-left : (xs ys : List Literal) (l : Literal) → Among xs l → Among (xs ++ ys) l
among-left [] ys l in_ = absurd in_
among-left (x ∷ xs) ys l (inl here) = inl here
among-left (x ∷ xs) ys l (inr there) = inr (among-left xs ys l there)

among-right : (xs ys : List Literal) (l : Literal) → Among ys l → Among (xs ++ ys) l
among-right [] ys l in_ = in_
among-right (x ∷ xs) ys l in_ = inr (among-right xs ys l in_)

among-either : (xs ys : List Literal) (l : Literal) → Among (xs ++ ys) l → Among xs l ⊎ Among ys l
among-either [] ys l in_ = inr in_
among-either (x ∷ xs) ys l (inl here) = inl (inl here)
among-either (x ∷ xs) ys l (inr there) = elim (among-either xs ys l there) [ inl a ↦ inl (inr a) | inr b ↦ inr b ]

-- what stands in a list once stands in it
pub among-filter : (l : Literal) (xs : List Literal) (m : Literal) → Among (filter (λ x. not (same_literal x l)) xs) m → Among xs m
among-filter l [] m in_ = in_
among-filter l (x ∷ xs) m in_ = elim (cases_Bool (same_literal x l)) [
  | inl same ↦ inr (among-filter l xs m (rw same at in_))
  | inr differs ↦ elim (rw differs at in_) [ inl here ↦ inl here | inr there ↦ inr (among-filter l xs m there) ]
]

filter-among : (l : Literal) (xs : List Literal) (m : Literal) → Among xs m → (l ≡ m) ⊎ Among (filter (λ x. not (same_literal x l)) xs) m
filter-among l [] m in_ = absurd in_
filter-among l (x ∷ xs) m in_ = elim (cases_Bool (same_literal x l)) [
  | inl same ↦ elim in_ [ inl here ↦ inl (sym (literals_same x l same) ∙ here) | inr there ↦ rw same (filter-among l xs m there) ]
  | inr differs ↦ elim in_ [ inl here ↦ rw differs (inr (inl here)) | inr there ↦ elim (filter-among l xs m there) [ inl is ↦ inl is | inr kept ↦ rw differs (inr (inr kept)) ] ]
]

pub once-among : (ls : List Literal) (m : Literal) → Among (each_once ls) m → Among ls m
once-among [] m in_ = in_
once-among (l ∷ ls) m (inl here) = inl here
once-among (l ∷ ls) m (inr there) = inr (once-among ls m (among-filter l (each_once ls) m there))

pub among-once : (ls : List Literal) (m : Literal) → Among ls m → Among (each_once ls) m
among-once [] m in_ = in_
among-once (l ∷ ls) m (inl here) = inl here
among-once (l ∷ ls) m (inr there) = filter-among l (each_once ls) m (among-once ls m there)

has-once : (ls : List Literal) (l : Literal) → has_literal (each_once ls) l ≡ has_literal ls l
has-once ls l = both_ways _ _ (λ h. stands-has ls l (once-among ls l (stands (each_once ls) l h))) (λ h. stands-has (each_once ls) l (among-once ls l (stands ls l h)))

filter-append : (p : Literal → Bool) (xs ys : List Literal) → filter p (xs ++ ys) ≡ filter p xs ++ filter p ys
filter-append p [] ys = refl
filter-append p (x ∷ xs) ys = elim (cases_Bool (p x)) [
  | inl is ↦ rw is (ap (λ zs. x ∷ zs) (filter-append p xs ys))
  | inr fails ↦ rw fails (filter-append p xs ys)
]

-- a literal at the end is kept where it stands nowhere before
pub once-new : (ls : List Literal) (l : Literal) → has_literal ls l ≡ false → each_once (ls ++ l ∷ []) ≡ each_once ls ++ l ∷ []
once-new [] l absent = refl
once-new (m ∷ ls) l absent =
    let later : has_literal ls l ≡ false = elim (cases_Bool (has_literal ls l)) [ inl is ↦ absurd (apart _ (or_right (same_literal l m) _ is) absent) | inr fails ↦ fails ] in
    let other : same_literal l m ≡ false = elim (cases_Bool (same_literal l m)) [ inl is ↦ absurd (apart _ (or_left (same_literal l m) (has_literal ls l) is) absent) | inr fails ↦ fails ] in
    ap (λ zs. m ∷ filter (λ x. not (same_literal x m)) zs) (once-new ls l later) ∙ ap (λ zs. m ∷ zs) (filter-append (λ x. not (same_literal x m)) (each_once ls) (l ∷ []) ∙ rw other refl)

-- and left out where it stands before
pub once-old : (ls : List Literal) (l : Literal) → has_literal ls l ≡ true → each_once (ls ++ l ∷ []) ≡ each_once ls
once-old [] l there = absurd (cc)
once-old (m ∷ ls) l there = elim (cases_Bool (has_literal ls l)) [
  | inl is ↦ ap (λ zs. m ∷ filter (λ x. not (same_literal x m)) zs) (once-old ls l is)
  | inr absent ↦
      let same : same_literal l m ≡ true = elim (or_cases (same_literal l m) (has_literal ls l) there) [ inl is ↦ is | inr is ↦ absurd (apart _ is absent) ] in
      ap (λ zs. m ∷ filter (λ x. not (same_literal x m)) zs) (once-new ls l absent)
      ∙ ap (λ zs. m ∷ zs) (filter-append (λ x. not (same_literal x m)) (each_once ls) (l ∷ []) ∙ rw (same, append-nil) refl)
]

-- a list opposes itself where a literal and its negation stand in it
pub opposes-from : (ls : List Literal) (l : Literal) → Among ls l → Among ls (negated l) → opposes_itself ls ≡ true
opposes-from ls l in_ no_ = some_any (λ l. has_literal ls (negated l)) ls l in_ (stands-has ls (negated l) no_)

-- it does not come to that by a literal whose negation stands nowhere
opposes-push : (ls : List Literal) (l : Literal) → opposes_itself ls ≡ false → has_literal ls (negated l) ≡ false → opposes_itself (ls ++ l ∷ []) ≡ false
opposes-push ls l none absent = elim (cases_Bool (opposes_itself (ls ++ l ∷ []))) [
  | inr fails ↦ fails
  | inl opposes ↦
      let (m, in_, is) = any_some (λ m. has_literal (ls ++ l ∷ []) (negated m)) (ls ++ l ∷ []) opposes in
      absurd (no_pair m (among-either ls (l ∷ []) m in_) (among-either ls (l ∷ []) (negated m) (stands (ls ++ l ∷ []) (negated m) is)))
]
  where
    unlike : (b : Bool) → b ≡ not b → ⊥
    unlike true h = absurd (cc)
    unlike false h = absurd (cc)

    no_pair : (m : Literal) → Among ls m ⊎ Among (l ∷ []) m → Among ls (negated m) ⊎ Among (l ∷ []) (negated m) → ⊥
    no_pair m (inl a) (inl b) = apart _ (opposes-from ls m a b) none
    no_pair m (inl a) (inr (inl b)) =
        let is : m ≡ negated l = sym (negated-twice m) ∙ ap negated (sym b) in
        apart _ (stands-has ls (negated l) (subst (Among ls) is a)) absent
    no_pair m (inl a) (inr (inr b)) = absurd b
    no_pair m (inr (inl a)) (inl b) = apart _ (stands-has ls (negated l) (subst (Among ls) (ap negated (sym a)) b)) absent
    no_pair m (inr (inl a)) (inr (inl b)) = unlike l.positive (ap (λ x. x.positive) b ∙ ap (λ x. not x.positive) (sym a))
    no_pair m (inr (inl a)) (inr (inr b)) = absurd b
    no_pair m (inr (inr a)) other = absurd a

-- the clause of parts after literals that do not oppose themselves
abbrev after_literals : List Literal → List Part → Result (List Literal) RuleFault
after_literals ls parts = if list_any is_true parts || opposes_itself (ls ++ literals_in parts) then Err Trivial else Ok (each_once (ls ++ literals_in parts))

trivial-or : (a b : Bool) {X : Type 0} (x y : X) → b ≡ true → (if a || b then x else y) ≡ x
trivial-or true b x y h = refl
trivial-or false b x y h = rw h refl

parts-after : (parts : List Part) (ls : List Literal) → opposes_itself ls ≡ false → with_parts (each_once ls) parts ≡ after_literals ls parts
parts-after [] ls none = rw (append-nil, none) refl
parts-after (Known true ∷ parts) ls none = refl
parts-after (Known false ∷ parts) ls none = parts-after parts ls none
parts-after (Says l ∷ parts) ls none = step (cases_Bool (has_literal ls (negated l))) (cases_Bool (has_literal ls l)) (λ fine. parts-after parts (ls ++ l ∷ []) (opposes-push ls l none fine))
  where
    rest : ls ++ l ∷ literals_in parts ≡ (ls ++ l ∷ []) ++ literals_in parts
    rest = sym (append_assoc ls (l ∷ []) (literals_in parts))

    step : (has_literal ls (negated l) ≡ true) ⊎ (has_literal ls (negated l) ≡ false) → (has_literal ls l ≡ true) ⊎ (has_literal ls l ≡ false)
        → (has_literal ls (negated l) ≡ false → with_parts (each_once (ls ++ l ∷ [])) parts ≡ after_literals (ls ++ l ∷ []) parts)
        → with_parts (each_once ls) (Says l ∷ parts) ≡ after_literals ls (Says l ∷ parts)
    step (inl meets) other ih =
        let opposes =
        opposes-from (ls ++ l ∷ literals_in parts) l (among-right ls (l ∷ literals_in parts) l (inl refl)) (among-left ls (l ∷ literals_in parts) (negated l) (stands ls (negated l) meets)) in
        rw (has-once ls (negated l), meets) (sym (trivial-or (list_any is_true parts) _ _ _ opposes))
    step (inr fine) (inl old) ih = rw (has-once ls (negated l), fine, has-once ls l, old) (rw (rest, ← once-old ls l old) (ih fine))
    step (inr fine) (inr new) ih = rw (has-once ls (negated l), fine, has-once ls l, new) (rw (rest, ← once-new ls l new) (ih fine))

-- the clause of parts grows out of nothing
pub clause_grows : (parts : List Part) → with_parts [] parts ≡ clause_of_parts parts
clause_grows parts = parts-after parts [] refl

then-with : (c : Result (List Literal) RuleFault) (parts more : List Part) → ((d : List Literal) → with_parts d (parts ++ more) ≡ then_with (λ d. with_parts d more) (with_parts d parts))
    → then_with (λ d. with_parts d (parts ++ more)) c ≡ then_with (λ d. with_parts d more) (then_with (λ d. with_parts d parts) c)
then-with (Ok c) parts more h = h c
then-with (Err fault) parts more h = refl

parts-append : (parts more : List Part) (c : List Literal) → with_parts c (parts ++ more) ≡ then_with (λ d. with_parts d more) (with_parts c parts)
parts-append [] more c = refl
parts-append (p ∷ parts) more c = then-with (with_part c p) parts more (λ d. parts-append parts more d)

-- a clause that grows by more parts
pub clause_more : (parts more : List Part) (start c : List Literal) → start ≡ [] → with_parts start parts ≡ Ok c → with_parts c more ≡ clause_of_parts (parts ++ more)
clause_more parts more start c empty is = sym (sym (clause_grows (parts ++ more)) ∙ parts-append parts more [] ∙ (let first : with_parts [] parts ≡ Ok c = rw (← empty) is in rw first refl))

pub clause_fault : (parts more : List Part) (start : List Literal) (fault : RuleFault) → start ≡ [] → with_parts start parts ≡ Err fault → clause_of_parts (parts ++ more) ≡ Err fault
clause_fault parts more start fault empty is = sym (clause_grows (parts ++ more)) ∙ parts-append parts more [] ∙ (let first : with_parts [] parts ≡ Err fault = rw (← empty) is in rw first refl)

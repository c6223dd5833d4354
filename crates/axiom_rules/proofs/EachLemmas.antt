-- A clause that grows by a part for each event, or for each of some.
use Rattle.std.proofs.Common.{◌≡◌, ◌∙◌, sym, ap, refl, subst, ℕ, suc, ◌+◌, ◌-◌, ◌<◌, ◌≤◌, ◌==◌, Bool, true, false, if◌then◌else◌, List, [], ◌∷◌, ◌++◌, drop, length, map, Some, Ok, inl, inr, arith, ℤ, pos, ◌-ℤ◌, neg_ℤ}
use Rattle.std.specs.Prelude.{◌≢◌, AllPairs, nat_lt, int_le, is_none, slice_index}
use Rattle.std.specs.List.{AllByRecursion, list_all, range_with_len}
use Rattle.std.proofs.lemmas.Bool.{and_parts, cases_Bool, eq-eqb}
use Rattle.std.proofs.lemmas.List.{drop_more}
use Rattle.mt_model.proofs.Members.{Among}
use Rattle.axiom_rules.specs.declared.clause.Each.{Each}
use Rattle.axiom_rules.specs.declared.clause.Each.TheVariants as each
use Rattle.axiom_rules.specs.declared.literal.Atom.TheVariants.{Order, First, Same, Wit, Gap}
use Rattle.axiom_rules.specs.declared.literal.Literal.{Literal}
use Rattle.axiom_rules.specs.declared.part.Part.{Part}
use Rattle.axiom_rules.specs.declared.part.Part.TheVariants.{Says, Known}
use Rattle.axiom_rules.specs.Adding.{with_part, with_parts}
use Rattle.axiom_rules.specs.Each.{AreBefore, IsNew, event_in, is_other, part_at}
use Rattle.axiom_rules.specs.Literals.{has_literal, negated, no, same_literal, yes}
use Rattle.axiom_rules.specs.Parts.{after, clause_of_parts, same}
use Rattle.axiom_rules.proofs.AddingLemmas.{clause_grows}
use Rattle.axiom_rules.proofs.PartLemmas.{literals_same}
use Rattle.axiom_rules.proofs.PartsMade.{OfParts, of-clause}

-- the part of event x first, then those of the events after it
pub each-more : (each : Each) (c d : List Literal) (x events : ℕ) (part : Part) → x < events → part ≡ part_at each x → with_part c part ≡ Ok d
    → with_parts d (map (part_at each) (range_with_len (x + 1) (events - (x + 1)))) ≡ with_parts c (map (part_at each) (range_with_len x (events - x)))
each-more each c d x events part less is added =
    let n : events - x ≡ suc (events - (x + 1)) = omega arith in
    let here : with_part c (part_at each x) ≡ Ok d = rw (← is) added in
    rw (n, here) refl

-- the part of the event at a place first, then those of the events after it
pub each-more-of : (each : Each) (c d : List Literal) (events : List ℕ) (i : ℕ) (part : Part) → i < length events → part ≡ part_at each (slice_index events i) → with_part c part ≡ Ok d
    → with_parts d (map (part_at each) (drop (i + 1) events)) ≡ with_parts c (map (part_at each) (drop i events))
each-more-of each c d events i part low is added =
    let here : with_part c (part_at each (slice_index events i)) ≡ Ok d = rw (← is) added in
    rw (drop_more events i 0 low, here) refl

-- a literal whose atom the clause lacks doesn't stand in it
lacks : (c : List Literal) (l : Literal) → AllByRecursion (λ m. m.atom ≢ l.atom) c → has_literal c l ≡ false
lacks [] l new = refl
lacks (m ∷ c) l new = elim (cases_Bool (same_literal l m)) [
  | inl same ↦ absurd (new.0 (ap (λ (x : Literal). x.atom) (sym (literals_same l m same))))
  | inr differs ↦ rw differs (lacks c l new.1)
]

-- so it is added at the end
pub new-at-end : (c : List Literal) (l : Literal) → IsNew c (Says l) → with_part c (Says l) ≡ Ok (c ++ l ∷ [])
new-at-end c l new = rw (lacks c (negated l) new, lacks c l new) refl

-- the part for an event speaks of an atom that may be written for that event, ..
after-event : (e x : ℕ) (l : Literal) → after e x ≡ Says l → event_in (each.After e) l.atom ≡ Some x
after-event e x l is = go (x == e) (nat_lt x e) refl is
  where
    c : ℤ
    c = neg_ℤ (pos 0) -ℤ pos 1

    go : (same less : Bool) → x == e ≡ same
        → (let p : Part = (if same then Known (int_le (pos 0) c) else Says (if less then yes (Order x e c) else no (Order e x (neg_ℤ c -ℤ pos 1)))) in p) ≡ Says l
        → event_in (each.After e) l.atom ≡ Some x
    go true less apart is = absurd (cc)
    go false true apart is = let same : yes (Order x e c) ≡ l = cc in rw (← same) (rw apart refl)
    go false false apart is = let same : no (Order e x (neg_ℤ c -ℤ pos 1)) ≡ l = cc in rw (← same) (rw (eq-eqb e e refl) refl)

same-event : (e x : ℕ) (l : Literal) → same x e ≡ Says l → event_in (each.Same e) l.atom ≡ Some x
same-event e x l is = go (x == e) (nat_lt x e) refl is
  where
    go : (equal less : Bool) → x == e ≡ equal → (let p : Part = (if equal then Known true else Says (yes (if less then Same x e else Same e x))) in p) ≡ Says l → event_in (each.Same e) l.atom ≡ Some x
    go true less apart is = absurd (cc)
    go false true apart is = let one : yes (Same x e) ≡ l = cc in rw (← one) (rw apart refl)
    go false false apart is = let one : yes (Same e x) ≡ l = cc in rw (← one) (rw (eq-eqb e e refl) refl)

part-event : (each : Each) (x : ℕ) (l : Literal) → part_at each x ≡ Says l → event_in each l.atom ≡ Some x
part-event (each.After e) x l is = after-event e x l is
part-event each.First x l is = let same : yes (First x) ≡ l = cc in rw (← same) refl
part-event (each.Same e) x l is = same-event e x l is
part-event (each.Wit k i) x l is = let same : yes (Wit k i x) ≡ l = cc in rw (← same) refl
part-event (each.Gap k i) x l is = let same : yes (Gap k i x) ≡ l = cc in rw (← same) refl

-- .. which no literal has that is written for an earlier one
not-before : (each : Each) (x : ℕ) (l : Literal) (c : List Literal) → event_in each l.atom ≡ Some x → AreBefore each x c → AllByRecursion (λ (m : Literal). m.atom ≢ l.atom) c
not-before each x l [] is before = tt
not-before each x l (m ∷ c) is before = (
  (λ same. let less : x < x = before.0 x (ap (event_in each) same ∙ is) in omega (arith, less)),
  not-before each x l c is before.1,
)

new-part : (each : Each) (x : ℕ) (c : List Literal) (p : Part) → part_at each x ≡ p → AreBefore each x c → IsNew c p
new-part each x c (Says l) is before = not-before each x l c (part-event each x l is) before
new-part each x c (Known b) is before = tt

pub part-new : (each : Each) (x : ℕ) (c : List Literal) (p : Part) → p ≡ part_at each x → AreBefore each x c → IsNew c p
part-new each x c p is before = new-part each x c p (sym is) before

before-more : (each : Each) (x y : ℕ) (c : List Literal) → x ≤ y → AreBefore each x c → AreBefore each y c
before-more each x y [] le before = tt
before-more each x y (m ∷ c) le before = ((λ z is. let less = before.0 z is in omega (arith, less, le)), before-more each x y c le before.1)

before-push : (each : Each) (x : ℕ) (c : List Literal) (l : Literal) → event_in each l.atom ≡ Some x → AreBefore each x c → AreBefore each (x + 1) (c ++ l ∷ [])
before-push each x [] l is before = ((λ y at. let same : x ≡ y = cc in omega (arith, same)), tt)
before-push each x (m ∷ c) l is before = ((λ z at. let less = before.0 z at in omega (arith, less)), before-push each x c l is before.1)

-- with the part of event x added, the literals are written for events up to it
before-added : (each : Each) (x : ℕ) (c d : List Literal) (p : Part) → part_at each x ≡ p → IsNew c p → with_part c p ≡ Ok d → AreBefore each x c → AreBefore each (x + 1) d
before-added each x c d (Says l) is new added before =
    let same : c ++ l ∷ [] ≡ d = let both : Ok (c ++ l ∷ []) ≡ Ok d = sym (new-at-end c l new) ∙ added in cc in
    rw (← same) (before-push each x c l (part-event each x l is) before)
before-added each x c d (Known true) is new added before = absurd (cc)
before-added each x c d (Known false) is new added before = let same : c ≡ d = cc in rw (← same) (before-more each x (x + 1) c (omega arith) before)

pub part-added : (each : Each) (x : ℕ) (c d : List Literal) (p : Part) → p ≡ part_at each x → IsNew c p → with_part c p ≡ Ok d → AreBefore each x c → AreBefore each (x + 1) d
part-added each x c d p is new added before = before-added each x c d p (sym is) new added before

-- no literal of a clause of other parts is written for an event
others-all : (each : Each) (parts : List Part) → list_all (is_other each) parts ≡ true → OfParts (λ a. is_none (event_in each a) ≡ true) parts
others-all each [] is = tt
others-all each (Says l ∷ parts) is = let both = and_parts (is_none (event_in each l.atom)) (list_all (is_other each) parts) is in (both.0, others-all each parts both.1)
others-all each (Known b ∷ parts) is = (tt, others-all each parts is)

all-from : (P : Literal → Type 0) (c : List Literal) → ((l : Literal) → Among c l → P l) → AllByRecursion P c
all-from P [] each = tt
all-from P (l ∷ c) each = (each l (inl refl), all-from P c (λ m in_. each m (inr in_)))

pub others-before : (each : Each) (parts : List Part) (start c : List Literal) → list_all (is_other each) parts ≡ true → start ≡ [] → with_parts start parts ≡ Ok c → AreBefore each 0 c
others-before each parts start c others empty is =
    let clause : clause_of_parts parts ≡ Ok c = sym (clause_grows parts) ∙ subst (λ s. with_parts s parts ≡ Ok c) empty is in
    all-from _ c (λ l in_ y at.
    let none = of-clause (λ a. is_none (event_in each a) ≡ true) parts c l clause (others-all each parts others) in_ in
    let no : is_none (Some y) ≡ true = subst (λ o. is_none o ≡ true) at none in absurd (cc))

-- no literal is written for any of the events from a place on
abbrev pub AreBeforeRest : Each → List ℕ → ℕ → List Literal → Type 0
AreBeforeRest each events i c = (j : ℕ) → i ≤ j → j < length events → AreBefore each (slice_index events j) c

-- with the part of the event at a place added, of those after it
pub rest-added : (each : Each) (events : List ℕ) (i : ℕ) (c d : List Literal) (p : Part) → AllPairs (λ x y. x < y) events → i < length events
    → p ≡ part_at each (slice_index events i) → with_part c p ≡ Ok d
    → AreBeforeRest each events i c → AreBeforeRest each events (i + 1) d
rest-added each events i c d p rising here is added before j from low =
    let x = slice_index events i in
    let now = before i (omega arith) here in
    let upto = part-added each x c d p is (part-new each x c p is now) added now in
    let less : x < slice_index events j = rising i j 0 (omega (arith, from)) low in
    before-more each (x + 1) (slice_index events j) d (omega (arith, less)) upto

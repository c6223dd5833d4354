-- What holds of each atom that a rule writes, and how much it writes.
use Rattle.std.proofs.Common.{◌≡◌, refl, subst, ℕ, zero, suc, ◌+◌, ◌<◌, ◌≤◌, Bool, true, false, not, ◌||◌, if◌then◌else◌, List, [], ◌∷◌, length, map, Option, Some, None, Ok, Err, inl, inr, arith}
use Rattle.std.specs.Prelude.{Result, filter}
use Rattle.std.specs.List.{AllByRecursion, list_any, range_with_len}
use Rattle.std.specs.Option.{option_map_or}
use Rattle.std.proofs.lemmas.List.FromFn.{length-map-range_with_len}
use Rattle.mt_model.proofs.Members.{Among}
use Rattle.axiom_rules.specs.declared.fault.RuleFault.{RuleFault}
use Rattle.axiom_rules.specs.declared.fault.RuleFault.TheVariants.{Kind, Trivial}
use Rattle.axiom_rules.specs.declared.literal.Atom.{Atom}
use Rattle.axiom_rules.specs.declared.literal.Literal.{Literal}
use Rattle.axiom_rules.specs.declared.part.Part.{Part}
use Rattle.axiom_rules.specs.declared.part.Part.TheVariants.{Says, Known}
use Rattle.axiom_rules.specs.Literals.{same_literal}
use Rattle.axiom_rules.specs.Parts.{Written, clause_of_parts, each_once, is_true, literals_in, opposes_itself}
use Rattle.axiom_rules.specs.Rules.{for_each_event, of_kind}
use Rattle.axiom_rules.specs.Sought.{Sought}
use Rattle.axiom_rules.proofs.AddingLemmas.{once-among}

-- a clause has the literals of its parts, ..
clause-is : (parts : List Part) (c : List Literal) → clause_of_parts parts ≡ Ok c → each_once (literals_in parts) ≡ c
clause-is parts c is = go (list_any is_true parts || opposes_itself (literals_in parts)) is
  where
    go : (b : Bool) → (let r : Result (List Literal) RuleFault = (if b then Err Trivial else Ok (each_once (literals_in parts))) in r ≡ Ok c) → each_once (literals_in parts) ≡ c
    go true is = absurd (cc)
    go false is = cc

module _ (P : Atom → Type 0) where
  -- it holds of the atom that a part speaks of
  abbrev pub OfPart : Part → Type 0
  OfPart (Says l) = P l.atom
  OfPart (Known b) = Unit {0}

  abbrev pub OfParts : List Part → Type 0
  OfParts parts = AllByRecursion OfPart parts

  of-literals : (parts : List Part) (l : Literal) → OfParts parts → Among (literals_in parts) l → P l.atom
  of-literals [] l all in_ = absurd in_
  of-literals (Says m ∷ parts) l all (inl here) = subst (λ (x : Literal). P x.atom) here all.0
  of-literals (Says m ∷ parts) l all (inr there) = of-literals parts l all.1 there
  of-literals (Known b ∷ parts) l all in_ = of-literals parts l all.1 in_

  pub of-clause : (parts : List Part) (c : List Literal) (l : Literal) → clause_of_parts parts ≡ Ok c → OfParts parts → Among c l → P l.atom
  of-clause parts c l is all in_ = of-literals parts l all (once-among (literals_in parts) l (rw (clause-is parts c is) in_))

module _ (s : Sought) (P : Atom → Type 0) where
  -- what is written speaks of such atoms, and has at most so many parts
  abbrev pub IsMade : ℕ → Written → Type 0
  IsMade most w = (parts : List Part) → w ≡ Ok parts → OfParts P parts × (length parts ≤ most)

  module _ (most : ℕ) where
    pub of-ok : (xs : List Part) → OfParts P xs → length xs ≤ most → IsMade most (Ok xs)
    of-ok xs all few parts is = let same : xs ≡ parts = cc in subst (λ (ps : List Part). OfParts P ps × (length ps ≤ most)) same (all, few)

    of-err : (fault : RuleFault) → IsMade most (Err fault)
    of-err fault parts is = absurd (cc)

    pub of-kind : {X : Type 0} (o : Option X) (write : X → Written) → ((x : X) → o ≡ Some x → IsMade most (write x)) → IsMade most (of_kind o write)
    of-kind None write each = of-err Kind
    of-kind (Some x) write each = each x refl

    pub of-option : {X : Type 0} (o : Option X) (write : X → Written) (fault : RuleFault) → ((x : X) → o ≡ Some x → IsMade most (write x)) → IsMade most (option_map_or write o (Err fault))
    of-option None write fault each = of-err fault
    of-option (Some x) write fault each = each x refl

    pub of-if : (b : Bool) (w : Written) (fault : RuleFault) → IsMade most w → IsMade most (if b then w else Err fault)
    of-if true w fault of = of
    of-if false w fault of = of-err fault

  pub of-1 : (p : Part) → OfPart P p → IsMade 5 (Ok (p ∷ []))
  of-1 p a = of-ok 5 (p ∷ []) (a, tt) (omega arith)

  pub of-2 : (p q : Part) → OfPart P p → OfPart P q → IsMade 5 (Ok (p ∷ q ∷ []))
  of-2 p q a b = of-ok 5 (p ∷ q ∷ []) (a, (b, tt)) (omega arith)

  pub of-3 : (p q r : Part) → OfPart P p → OfPart P q → OfPart P r → IsMade 5 (Ok (p ∷ q ∷ r ∷ []))
  of-3 p q r a b c = of-ok 5 (p ∷ q ∷ r ∷ []) (a, (b, (c, tt))) (omega arith)

  pub of-4 : (p q r t : Part) → OfPart P p → OfPart P q → OfPart P r → OfPart P t → IsMade 5 (Ok (p ∷ q ∷ r ∷ t ∷ []))
  of-4 p q r t a b c d = of-ok 5 (p ∷ q ∷ r ∷ t ∷ []) (a, (b, (c, (d, tt)))) (omega arith)

  pub of-5 : (p q r t u : Part) → OfPart P p → OfPart P q → OfPart P r → OfPart P t → OfPart P u → IsMade 5 (Ok (p ∷ q ∷ r ∷ t ∷ u ∷ []))
  of-5 p q r t u a b c d e = of-ok 5 (p ∷ q ∷ r ∷ t ∷ u ∷ []) (a, (b, (c, (d, (e, tt))))) (omega arith)

  of-range : (part : ℕ → Part) (a n : ℕ) → ((x : ℕ) → a ≤ x → x < a + n → OfPart P (part x)) → OfParts P (map part (range_with_len a n))
  of-range part a zero each = tt
  of-range part a (suc n) each = (each a (omega arith) (omega arith), of-range part (a + 1) n (λ x low high. each x (omega arith) (omega arith)))

  each-of : (part : ℕ → Part) → ((x : ℕ) → x < length s.log.rows → OfPart P (part x)) → OfParts P (for_each_event s part)
  each-of part each = of-range part 0 (length s.log.rows) (λ x low high. each x (omega arith))

  count-of : (part : ℕ → Part) → length (for_each_event s part) ≡ length s.log.rows
  count-of part = length-map-range_with_len part 0 (length s.log.rows)

  pub of-each : (part : ℕ → Part) → ((x : ℕ) → x < length s.log.rows → OfPart P (part x)) → IsMade (length s.log.rows + 5) (Ok (for_each_event s part))
  of-each part each = of-ok (length s.log.rows + 5) (for_each_event s part) (each-of part each) (omega (arith, count-of part))

  pub of-first-and-each : (p : Part) (part : ℕ → Part) → OfPart P p → ((x : ℕ) → x < length s.log.rows → OfPart P (part x)) → IsMade (length s.log.rows + 5) (Ok (p ∷ for_each_event s part))
  of-first-and-each p part a each = of-ok (length s.log.rows + 5) (p ∷ for_each_event s part) (a, each-of part each) (omega (arith, count-of part))

kept-short : (p : Literal → Bool) (ls : List Literal) → length (filter p ls) ≤ length ls
kept-short p [] = omega arith
kept-short p (l ∷ ls) = go (p l) (kept-short p ls)
  where
    go : (b : Bool) → length (filter p ls) ≤ length ls → length (if b then l ∷ filter p ls else filter p ls) ≤ length (l ∷ ls)
    go true ih = omega (arith, ih)
    go false ih = omega (arith, ih)

once-short : (ls : List Literal) → length (each_once ls) ≤ length ls
once-short [] = omega arith
once-short (l ∷ ls) = let ih = once-short ls in omega (arith, ih, kept-short (λ m. not (same_literal m l)) (each_once ls))

literals-short : (parts : List Part) → length (literals_in parts) ≤ length parts
literals-short [] = omega arith
literals-short (Says l ∷ parts) = let ih = literals-short parts in omega (arith, ih)
literals-short (Known b ∷ parts) = let ih = literals-short parts in omega (arith, ih)

-- .. and no more of them
pub clause-short : (parts : List Part) (c : List Literal) → clause_of_parts parts ≡ Ok c → length c ≤ length parts
clause-short parts c is = rw (← clause-is parts c is) (omega (arith, once-short (literals_in parts), literals-short parts))

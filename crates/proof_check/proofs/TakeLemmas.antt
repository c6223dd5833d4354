-- What is left of a clause as it is read, and what is assumed.
use Rattle.std.proofs.Common.{◌≡◌, ◌≢◌, ◌∙◌, sym, ap, refl, subst, ℕ, ◌+◌, ◌<◌, ◌≤◌, true, false, ◌⊎◌, inl, inr, List, [], ◌∷◌, ◌++◌, length, get_or, map, take, drop, take-append-drop, not, true≢false, Bool, Option, Some, None, arith}
use Rattle.std.specs.Prelude.{Contains}
use Rattle.std.specs.Ordering.{is_eq}
use Rattle.std.proofs.lemmas.Bool.{cases_Bool}
use Rattle.std.proofs.Math.Seq.{take-length}
use Rattle.std.proofs.lemmas.List.{take_more}
use Rattle.std.proofs.lemmas.List.Elements.{All-push, Contains-append_left, Contains-get_or, Contains-push}
use Rattle.std.proofs.lemmas.Map.Lookups.{CmpEqualImpliesEq}
use Rattle.hint_refutation.specs.Hints.{Gives, IsFalseUnder}
use Rattle.hint_refutation.proofs.Hinted.{is_false, left_or_false}
use Rattle.hint_refutation.proofs.Lists.{all_from, contains_map, contains_unmap}
use Rattle.axiom_rules.specs.declared.literal.Literal.{Literal}
use Rattle.axiom_rules.specs.contracts.literal.LiteralOrd.TheImpl.{cmp-value as literal_cmp}
use Rattle.axiom_rules.specs.contracts.literal.LiteralOrd.TheImpl.Laws.{matches_eq-law}
use Rattle.axiom_rules.specs.contracts.literal.LiteralPartialEq.TheImpl.{eq-value as literal_eq}
use Rattle.axiom_rules.specs.Literals.{negated, same_literal}
use Rattle.axiom_rules.proofs.AddingLemmas.{literal-itself, negated-twice}
use Rattle.axiom_rules.proofs.PartLemmas.{literals_same}
use Rattle.proof_check.specs.Refutation.{IsNeither}

-- the comparison of literals is that of the definition
literal_is : (l m : Literal) → literal_eq.it l m ≡ same_literal l m
literal_is l m = grind arith

-- so the order of literals tells them apart
pub literals_told : CmpEqualImpliesEq literal_cmp.it
literals_told l m equal = literals_same l m (sym (literal_is l m) ∙ matches_eq-law l m ∙ ap is_eq equal)

-- what a test of two literals for being equal says
pub equal_same : (l m : Literal) (b : Bool) → b ≡ literal_eq.it l m → b ≡ true → l ≡ m
equal_same l m b is equal = literals_same l m (sym (literal_is l m) ∙ sym is ∙ equal)

pub unequal_apart : (l m : Literal) (b : Bool) → b ≡ literal_eq.it l m → b ≡ false → l ≡ m → ⊥
unequal_apart l m b is unequal same =
    let equal : literal_eq.it l m ≡ true = literal_is l m ∙ ap (same_literal l) (sym same) ∙ literal-itself l in
    true≢false (sym equal ∙ sym is ∙ unequal)

-- what a test for a difference of two literals says
differ : (l m : Literal) (b : Bool) → b ≡ not (literal_eq.it l m) → b ≡ true → m ≢ l
differ l m b is unequal same =
    let equal : literal_eq.it l m ≡ true = literal_is l m ∙ ap (same_literal l) same ∙ literal-itself l in
    true≢false (sym unequal ∙ is ∙ ap not equal)

agree : (l m : Literal) (b : Bool) → b ≡ not (literal_eq.it l m) → b ≡ false → m ≡ l
agree l m b is equal = elim (cases_Bool (literal_eq.it l m)) [
  | inl same ↦ sym (literals_same l m (sym (literal_is l m) ∙ same))
  | inr other ↦ absurd (true≢false (sym (is ∙ ap not other) ∙ equal))
]

-- a literal is denied where its negation stands in the clause
pub denied_has : (lits : List Literal) (l : Literal) → Contains lits (negated l) → Contains (map negated lits) l
denied_has lits l has = subst (λ (k : Literal). Contains (map negated lits) k) (negated-twice l) (contains_map negated lits (negated l) has)

pub has_denied : (lits : List Literal) (l : Literal) → Contains (map negated lits) l → Contains lits (negated l)
has_denied lits l has =
    let (m, there, is) = contains_unmap negated lits l has in
    subst (λ (k : Literal). Contains lits k) (sym (negated-twice m) ∙ ap negated is) there

module _ (assumed : List Literal) where
  -- each literal that was read is false, or one is open, which the clause would give if it ended here
  abbrev pub IsOpen : List Literal → Option Literal → Type 0
  IsOpen read None = IsFalseUnder negated assumed read
  IsOpen read (Some u) = Gives negated assumed read u

  false_more : (read : List Literal) (l : Literal) → IsFalseUnder negated assumed read → Contains assumed (negated l) → IsFalseUnder negated assumed (read ++ l ∷ [])
  false_more read l falsified denied = All-push (λ k. Contains assumed (negated k)) read l falsified denied

  -- the one that is open stays so past itself and past false ones
  gives_more : (read : List Literal) (l u : Literal) → Gives negated assumed read u → (l ≡ u) ⊎ Contains assumed (negated l) → Gives negated assumed (read ++ l ∷ []) u
  gives_more read l u gives past = record {
    leaves = record {
      has = Contains-append_left read (l ∷ []) u gives.leaves.has;
      others_false = All-push (λ k. (k ≡ u) ⊎ Contains assumed (negated k)) read l gives.leaves.others_false past;
    };
    not_true = gives.not_true;
    not_false = gives.not_false;
  }

  -- the first one that is open
  gives_first : (read : List Literal) (l : Literal) → IsFalseUnder negated assumed read → (Contains assumed l → ⊥) → (Contains assumed (negated l) → ⊥) → Gives negated assumed (read ++ l ∷ []) l
  gives_first read l falsified not_true not_false = record {
    leaves = record {
      has = Contains-push read l;
      others_false = All-push (λ k. (k ≡ l) ⊎ Contains assumed (negated k)) read l
          (all_from (λ k. (k ≡ l) ⊎ Contains assumed (negated k)) read (λ k has. inr (is_false negated assumed read k falsified has))) (inl refl);
    };
    not_true = not_true;
    not_false = not_false;
  }

  module _ (clause : List Literal) where
    -- a clause with a true literal that isn't false too is neither false nor gives a literal
    true_neither : (l : Literal) → Contains clause l → (Contains assumed (negated l) → ⊥) → Contains assumed l → IsNeither assumed clause
    true_neither l has not_false held = record {
      not_false = λ falsified. not_false (is_false negated assumed clause l falsified has);
      gives_none = λ u gives. elim (left_or_false negated assumed clause u l gives.leaves has) [
        | inl same ↦ gives.not_true (subst (λ (k : Literal). Contains assumed k) same held)
        | inr denied ↦ not_false denied
      ];
    }

    -- so is one with two different literals that aren't false
    two_neither : (l m : Literal) → Contains clause l → Contains clause m → (Contains assumed (negated l) → ⊥) → (Contains assumed (negated m) → ⊥) → l ≢ m → IsNeither assumed clause
    two_neither l m has_l has_m l_open m_open differ = record {
      not_false = λ falsified. l_open (is_false negated assumed clause l falsified has_l);
      gives_none = λ u gives. elim (left_or_false negated assumed clause u l gives.leaves has_l) [
        | inr denied ↦ l_open denied
        | inl first ↦ elim (left_or_false negated assumed clause u m gives.leaves has_m) [
          | inr denied ↦ m_open denied
          | inl second ↦ differ (first ∙ sym second)
        ]
      ];
    }

    -- a literal that was read, and the next one
    read_stands : (i : ℕ) (l : Literal) → Contains (take i clause) l → Contains clause l
    read_stands i l has = subst (λ (ls : List Literal). Contains ls l) (take-append-drop i clause) (Contains-append_left (take i clause) (drop i clause) l has)

    module _ (i : ℕ) (d n : Literal) (below : i < length clause) (negation : n ≡ negated (get_or clause i d)) where
      abbrev next : Literal
      next = get_or clause i d

      further : (u : Option Literal) → IsOpen (take i clause ++ next ∷ []) u → IsOpen (take (i + 1) clause) u
      further u is = subst (λ (ls : List Literal). IsOpen ls u) (sym (take_more clause i d below)) is

      still_open : (Contains assumed n → ⊥) → Contains assumed (negated next) → ⊥
      still_open not_false denied = not_false (subst (λ (l : Literal). Contains assumed l) (sym negation) denied)

      -- a false one is passed over
      pub open_past : (u : Option Literal) → IsOpen (take i clause) u → Contains assumed n → IsOpen (take (i + 1) clause) u
      open_past u is denied = go u is (subst (λ (l : Literal). Contains assumed l) negation denied)
        where
          go : (u : Option Literal) → IsOpen (take i clause) u → Contains assumed (negated next) → IsOpen (take (i + 1) clause) u
          go None falsified denied = further None (false_more (take i clause) next falsified denied)
          go (Some u) gives denied = further (Some u) (gives_more (take i clause) next u gives (inr denied))

      -- one that is open may be the only one
      pub open_first : (o p : Option Literal) → o ≡ None → p ≡ Some next → IsOpen (take i clause) o → (Contains assumed n → ⊥) → (Contains assumed next → ⊥) → IsOpen (take (i + 1) clause) p
      open_first o p none one is not_false not_true =
          subst (IsOpen (take (i + 1) clause)) (sym one) (further (Some next) (gives_first (take i clause) next (subst (IsOpen (take i clause)) none is) not_true (still_open not_false)))

      pub open_again : (o p : Option Literal) (u : Literal) (b : Bool) → o ≡ Some u → p ≡ Some u → IsOpen (take i clause) o → b ≡ not (literal_eq.it u next)
          → b ≡ false → IsOpen (take (i + 1) clause) p
      open_again o p u b one kept is test equal =
          subst (IsOpen (take (i + 1) clause)) (sym kept) (further (Some u) (gives_more (take i clause) next u (subst (IsOpen (take i clause)) one is) (inl (agree u next b test equal))))

      -- or the clause is neither false nor gives a literal
      pub next_true : (Contains assumed n → ⊥) → Contains assumed next → IsNeither assumed clause
      next_true not_false held = true_neither next (Contains-get_or clause i d below) (still_open not_false) held

      pub next_other : (o : Option Literal) (u : Literal) (b : Bool) → o ≡ Some u → IsOpen (take i clause) o → (Contains assumed n → ⊥)
          → b ≡ not (literal_eq.it u next) → b ≡ true → IsNeither assumed clause
      next_other o u b one is not_false test unequal =
          let gives = subst (IsOpen (take i clause)) one is in
          two_neither next u (Contains-get_or clause i d below) (read_stands i u gives.leaves.has) (still_open not_false) gives.not_false (differ u next b test unequal)

    -- where all was read
    pub open_all : (i : ℕ) (u : Option Literal) → i ≤ length clause → length clause ≤ i → IsOpen (take i clause) u → IsOpen clause u
    open_all i u most least is =
        let same : i ≡ length clause = omega (arith, most, least) in
        subst (λ (ls : List Literal). IsOpen ls u) (ap (λ n. take n clause) same ∙ take-length clause) is

-- Hints that are taken one after another.
use Rattle.std.proofs.Common.{◌≡◌, ◌∙◌, sym, ap, refl, subst, ℕ, ◌+◌, ◌-◌, ◌<◌, ◌≤◌, Bool, false, IsTrue, nat_eq, List, [], ◌∷◌, length, drop, get_or, map, Option, Some, None, Ok, Err, ◌↔◌, arith, eq-eqb, eqb-true, length-drop}
use Rattle.std.specs.Prelude.{All, IfOk, MatchOption, Result}
use Rattle.std.proofs.lemmas.List.{drop_more}
use Rattle.std.proofs.Math.ListN.{drop_of_length-le}
use Rattle.hint_refutation.specs.Hints.{Refutes}
use Rattle.hint_refutation.specs.Laws.{AssumedIsSet, RefutersGive, StepsAreForced}
use Rattle.axiom_rules.specs.declared.literal.Literal.{Literal}
use Rattle.axiom_rules.specs.Literals.{negated}
use Rattle.axiom_rules.specs.Sought.{Sought}
use Rattle.proof_log.specs.declared.line.Hint.{Hint}
use Rattle.proof_log.specs.declared.line.Line.{Line}
use Rattle.proof_log.specs.Derivations.{HasClauses, IsLearnt, clause_of_hint, is_in_range}
use Rattle.proof_check.specs.declared.refutation.Taken.{Taken}
use Rattle.proof_check.specs.declared.refutation.Taken.TheVariants as taken
use Rattle.proof_check.specs.Judging.{AreRefuting, IsHintTaken}
use Rattle.proof_check.specs.Refutation.{AreThose, IsTaken}
use Rattle.proof_check.proofs.StepLemmas.{none_refute, same_set, taken_false, taken_gives, taken_stuck}

module _ (s : Sought) (lines : List Line) (n : ℕ) where
  -- the clauses of some hints, taken apart
  record Split (h : Hint) (later : List Hint) (clauses : List (List Literal)) : Type 0 where
    first : List Literal
    others : List (List Literal)
    whole : clauses ≡ first ∷ others
    cites : clause_of_hint s lines n h ≡ Some first
    cite : HasClauses s lines n later others

  split : (h : Hint) (later : List Hint) (clauses : List (List Literal)) → HasClauses s lines n (h ∷ later) clauses → Split h later clauses
  split h later [] has = absurd (cc)
  split h later (c ∷ cs) has = record { first = c; others = cs; whole = refl; cites = cc; cite = cc }

  -- the clauses refute, where the first hint has one
  begun : (old : List Literal) (h : Hint) (later : List Hint) → AreRefuting s lines n old (h ∷ later) → (c : List Literal) → clause_of_hint s lines n h ≡ Some c
      → (cs : List (List Literal)) × HasClauses s lines n later cs × Refutes negated old (c ∷ cs)
  begun old h later are c is =
      let parts = split h later are.clauses are.cited in
      let same : parts.first ≡ c = let both : Some parts.first ≡ Some c = sym parts.cites ∙ is in cc in
      (parts.others, parts.cite, subst (λ (k : List Literal). Refutes negated old (k ∷ parts.others)) same (subst (Refutes negated old) parts.whole are.refuted))

  none_begun : (old : List Literal) (h : Hint) (later : List Hint) → AreRefuting s lines n old (h ∷ later) → clause_of_hint s lines n h ≡ None → ⊥
  none_begun old h later are none =
      let parts = split h later are.clauses are.cited in
      let both : Some parts.first ≡ None = sym parts.cites ∙ none in
      absurd (cc)

  pub none_refuting : (old : List Literal) → AreRefuting s lines n old [] → ⊥
  none_refuting old are = none old are.clauses are.cited are.refuted
    where
      none : (old : List Literal) (clauses : List (List Literal)) → HasClauses s lines n [] clauses → Refutes negated old clauses → ⊥
      none old [] has refutes = none_refute old refutes
      none old (c ∷ cs) has refutes = absurd (cc)

  module _ (giving : RefutersGive Literal) (set : AssumedIsSet Literal) (forced : StepsAreForced Literal) (old new : List Literal) (h : Hint) (later : List Hint) where
    -- a hint that gives a literal refutes with later ones exactly where these do under what is assumed then
    pub refuting_gives : IsHintTaken s lines n h old new taken.Gives → AreRefuting s lines n old (h ∷ later) ↔ AreRefuting s lines n new later
    refuting_gives is = go (clause_of_hint s lines n h) refl is
      where
        go : (o : Option (List Literal)) → clause_of_hint s lines n h ≡ o → MatchOption o (taken.Gives ≡ taken.Stuck) (λ c. IsTaken old c new taken.Gives)
            → AreRefuting s lines n old (h ∷ later) ↔ AreRefuting s lines n new later
        go None none is = absurd (cc)
        go (Some c) cites is = (
          λ are. let (cs, cited, refutes) = begun old h later are c cites in record { clauses = cs; cited = cited; refuted = (taken_gives giving set forced old c new cs is).0 refutes },
          λ are. record { clauses = c ∷ are.clauses; cited = let more = are.cited in cc; refuted = (taken_gives giving set forced old c new are.clauses is).1 are.refuted },
        )

    -- a false one refutes exactly as the last
    pub refuting_false : IsHintTaken s lines n h old new taken.False → AreRefuting s lines n old (h ∷ later) ↔ (later ≡ [])
    refuting_false is = go (clause_of_hint s lines n h) refl is
      where
        empty : (later : List Hint) (cs : List (List Literal)) → HasClauses s lines n later cs → cs ≡ [] → later ≡ []
        empty [] cs has none = refl
        empty (k ∷ later) cs has none = let both : map Some cs ≡ [] = ap (map Some) none in absurd (cc)

        go : (o : Option (List Literal)) → clause_of_hint s lines n h ≡ o → MatchOption o (taken.False ≡ taken.Stuck) (λ c. IsTaken old c new taken.False)
            → AreRefuting s lines n old (h ∷ later) ↔ (later ≡ [])
        go None none is = absurd (cc)
        go (Some c) cites is = (
          λ are. let (cs, cited, refutes) = begun old h later are c cites in empty later cs cited ((taken_false giving set forced old c new cs is).0 refutes),
          λ last. record { clauses = c ∷ []; cited = rw last (let first = cites in cc); refuted = (taken_false giving set forced old c new [] is).1 refl },
        )

    -- and any other refutes nothing
    pub refuting_stuck : IsHintTaken s lines n h old new taken.Stuck → AreRefuting s lines n old (h ∷ later) → ⊥
    refuting_stuck is are = go (clause_of_hint s lines n h) refl is
      where
        go : (o : Option (List Literal)) → clause_of_hint s lines n h ≡ o → MatchOption o (taken.Stuck ≡ taken.Stuck) (λ c. IsTaken old c new taken.Stuck) → ⊥
        go None none is = none_begun old h later are none
        go (Some c) cites is = let (cs, cited, refutes) = begun old h later are c cites in taken_stuck giving set forced old c new cs is refutes

-- what is known before hint i, and after it
module _ (s : Sought) (lines : List Line) (n : ℕ) (start : List Literal) (hints : List Hint) where
  -- the hints from i on refute what is assumed before hint i exactly where all refute what was assumed at the start
  abbrev SoFar : List Literal → ℕ → Type 0
  SoFar assumed i = AreRefuting s lines n assumed (drop i hints) ↔ AreRefuting s lines n start hints

  pub ends_none : (old : List Literal) (i : ℕ) → length hints ≤ i → SoFar old i → IsTrue false ↔ AreRefuting s lines n start hints
  ends_none old i past so_far = (
    λ no. absurd (cc),
    λ are. absurd (none_refuting s lines n old (subst (AreRefuting s lines n old) (drop_of_length-le hints past) (so_far.1 are))),
  )

  module _ (giving : RefutersGive Literal) (set : AssumedIsSet Literal) (forced : StepsAreForced Literal) (old new : List Literal) (i : ℕ) (d : Hint)
      (low : i < length hints) (so_far : SoFar old i) where
    next : drop i hints ≡ get_or hints i d ∷ drop (i + 1) hints
    next = drop_more hints i d low

    from_next : AreRefuting s lines n old (get_or hints i d ∷ drop (i + 1) hints) → AreRefuting s lines n start hints
    from_next are = so_far.0 (subst (AreRefuting s lines n old) (sym next) are)

    to_next : AreRefuting s lines n start hints → AreRefuting s lines n old (get_or hints i d ∷ drop (i + 1) hints)
    to_next are = subst (AreRefuting s lines n old) next (so_far.1 are)

    pub goes_on : IsHintTaken s lines n (get_or hints i d) old new taken.Gives → SoFar new (i + 1)
    goes_on is =
        let step = refuting_gives s lines n giving set forced old new (get_or hints i d) (drop (i + 1) hints) is in
        (λ are. from_next (step.1 are), λ are. step.0 (to_next are))

    pub ends_false : IsHintTaken s lines n (get_or hints i d) old new taken.False → IsTrue (nat_eq (i + 1) (length hints)) ↔ AreRefuting s lines n start hints
    ends_false is =
        let step = refuting_false s lines n giving set forced old new (get_or hints i d) (drop (i + 1) hints) is in (
          λ yes. let all : length hints ≤ i + 1 = omega (arith, eqb-true (i + 1) (length hints) yes) in from_next (step.1 (drop_of_length-le hints all)),
          λ are.
              let none : drop (i + 1) hints ≡ [] = step.0 (to_next are) in
              let count : length hints - (i + 1) ≡ 0 = sym (length-drop (i + 1) hints) ∙ ap length none in
              eq-eqb (i + 1) (length hints) (omega (arith, low, count)),
        )

    pub ends_stuck : IsHintTaken s lines n (get_or hints i d) old new taken.Stuck → IsTrue false ↔ AreRefuting s lines n start hints
    ends_stuck is = (
      λ no. absurd (cc),
      λ are. absurd (refuting_stuck s lines n giving set forced old new (get_or hints i d) (drop (i + 1) hints) is (to_next are)),
    )

-- a hint whose clause is taken, and one that has none
pub cited_taken : {E : Type 0} (s : Sought) (lines : List Line) (n : ℕ) (h : Hint) (old new c : List Literal) → clause_of_hint s lines n h ≡ Some c
    → (r : Result Taken E) → IfOk r (λ found. IsTaken old c new found)
    → IfOk r (λ found. IsHintTaken s lines n h old new found)
cited_taken s lines n h old new c is (Ok found) so = rw is so
cited_taken s lines n h old new c is (Err e) so = tt

pub none_taken : (s : Sought) (lines : List Line) (n : ℕ) (h : Hint) (old : List Literal) → clause_of_hint s lines n h ≡ None → IsHintTaken s lines n h old old taken.Stuck
none_taken s lines n h old none = rw none refl

module _ (s : Sought) (lines : List Line) (n : ℕ) where
  -- literals in range whose negations hints refute are learnt
  pub learnt : {E : Type 0} → RefutersGive Literal → AssumedIsSet Literal → StepsAreForced Literal → (lits : List Literal) (hints : List Hint) (assumed : List Literal)
      → All (λ l. IsTrue (is_in_range s l.atom)) lits → AreThose (map negated lits) assumed
      → (r : Result Bool E) → IfOk r (λ b. IsTrue b ↔ AreRefuting s lines n assumed hints) → IfOk r (λ b. IsTrue b ↔ IsLearnt s lines n lits hints)
  learnt giving set forced lits hints assumed range those (Err e) are = tt
  learnt giving set forced lits hints assumed range those (Ok b) are = (
    λ yes.
        let refuting = are.0 yes in
        record {
          in_range = range;
          clauses = refuting.clauses;
          cited = refuting.cited;
          refuted = (same_set giving set forced (map negated lits) assumed refuting.clauses those.has those.only).1 refuting.refuted;
        },
    λ is. are.1 (record {
      clauses = is.clauses;
      cited = is.cited;
      refuted = (same_set giving set forced (map negated lits) assumed is.clauses those.has those.only).0 is.refuted;
    }),
  )

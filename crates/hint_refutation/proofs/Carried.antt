-- Words carried from one type of literals to another.
use Rattle.std.proofs.Common.{◌≡◌, ◌∙◌, ap, sym, subst, refl, ◌⊎◌, inl, inr, Bool, true, false, List, [], ◌∷◌, ◌↔◌}
use Rattle.std.specs.Prelude.{map, filter, cond, IsTrue}
use Rattle.std.specs.List.{All, Contains}
use Rattle.std.proofs.lemmas.List.Elements.{All-nil, All-cons, All-head, All-tail, All-map, All-contains, All-contains_itself, All-filter, filter_passes}
use Rattle.hint_refutation.specs.Hints.{IsFalseUnder, LeavesOnly, Gives, Refutes, RefutesGiving, StandsIn, AreSpent, Used}
use Rattle.hint_refutation.specs.Propagation.{ClosedUnder, Misses}
use Rattle.hint_refutation.specs.Maps.{Carrier, AreAmong, WordsAreCarried}
use Rattle.hint_refutation.proofs.Lists.{contains_none, contains_first, contains_later, contains_cases, all_from, any_found, any_from, contains_map, contains_unmap}
use Rattle.hint_refutation.proofs.Hinted.{refuters_give, givers_refute, left_or_false, is_false, false_more, leaves_more}

map_none : {X Y : Type 0} (f : X → Y) (xs : List X) → map f xs ≡ [] → xs ≡ []
map_none f [] is = refl
map_none f (x ∷ xs) is = absurd cc

-- what a filter keeps of a list
kept : {X : Type 0} (p : X → Bool) (xs : List X) (x : X) → Contains xs x → IsTrue (p x) → Contains (filter p xs) x
kept p [] x has is = absurd (contains_none x has)
kept p (y ∷ ys) x has is = elim (contains_cases y x ys has) [
  | inl same ↦ rw (ap p same ∙ is) (subst (λ z. Contains (y ∷ filter p ys) z) same (contains_first y (filter p ys)))
  | inr later ↦ elim (p y) as (λ b. Contains (cond b (y ∷ filter p ys) (filter p ys)) x) [ true ↦ contains_later y x (filter p ys) (kept p ys x later is) | false ↦ kept p ys x later is ]
]

of_filter : {X : Type 0} (p : X → Bool) (xs : List X) (x : X) → Contains (filter p xs) x → Contains xs x
of_filter p xs x has = All-contains (Contains xs) (filter p xs) x (All-filter p (Contains xs) xs (All-contains_itself xs)) has

module _ {L M : Type 0} (c : Carrier L M) where
  abbrev carried : List L → List M
  carried lits = map c.carry lits

  abbrev carried_all : List (List L) → List (List M)
  carried_all clauses = map (map c.carry) clauses

  is_among : (lits : List L) (l : L) → AreAmong c lits → Contains lits l → IsTrue (c.among l)
  is_among lits l among has = All-contains (λ (k : L). IsTrue (c.among k)) lits l among has

  clause_among : (clauses : List (List L)) (clause : List L) → All (AreAmong c) clauses → Contains clauses clause → AreAmong c clause
  clause_among clauses clause among has = All-contains (AreAmong c) clauses clause among has

  more_among : (l : L) (lits : List L) → IsTrue (c.among l) → AreAmong c lits → AreAmong c (l ∷ lits)
  more_among l lits one among = All-cons (λ (k : L). IsTrue (c.among k)) l lits one among

  negations_among : (lits : List L) → AreAmong c lits → AreAmong c (map c.neg lits)
  negations_among lits among = All-map (λ (k : L). IsTrue (c.among k)) c.neg lits (all_from (λ (l : L). IsTrue (c.among (c.neg l))) lits (λ l has. c.negated l (is_among lits l among has)))

  negations_carried : (lits : List L) → AreAmong c lits → carried (map c.neg lits) ≡ map c.opposite (carried lits)
  negations_carried [] among = refl
  negations_carried (l ∷ ls) among =
      ap (λ (m : M). m ∷ carried (map c.neg ls)) (c.commutes l (All-head (λ (k : L). IsTrue (c.among k)) l ls among))
      ∙ ap (λ (ms : List M). c.opposite (c.carry l) ∷ ms) (negations_carried ls (All-tail (λ (k : L). IsTrue (c.among k)) l ls among))

  back : (lits : List L) (l : L) → AreAmong c lits → IsTrue (c.among l) → Contains (carried lits) (c.carry l) → Contains lits l
  back lits l among one has =
      let (k, in_, same) = contains_unmap c.carry lits (c.carry l) has in
      subst (λ (x : L). Contains lits x) (c.apart k l (is_among lits k among in_) one same) in_

  negated_to : (assumed : List L) (l : L) → IsTrue (c.among l) → Contains assumed (c.neg l) → Contains (carried assumed) (c.opposite (c.carry l))
  negated_to assumed l one has = subst (λ (m : M). Contains (carried assumed) m) (c.commutes l one) (contains_map c.carry assumed (c.neg l) has)

  negated_back : (assumed : List L) (l : L) → AreAmong c assumed → IsTrue (c.among l) → Contains (carried assumed) (c.opposite (c.carry l)) → Contains assumed (c.neg l)
  negated_back assumed l among one has = back assumed (c.neg l) among (c.negated l one) (subst (λ (m : M). Contains (carried assumed) m) (sym (c.commutes l one)) has)

  module _ (assumed clause : List L) (among : AreAmong c assumed) (own : AreAmong c clause) where
    false_to : IsFalseUnder c.neg assumed clause → IsFalseUnder c.opposite (carried assumed) (carried clause)
    false_to falsified = All-map (λ (m : M). Contains (carried assumed) (c.opposite m)) c.carry clause
        (all_from (λ (l : L). Contains (carried assumed) (c.opposite (c.carry l))) clause (λ l has. negated_to assumed l (is_among clause l own has) (is_false c.neg assumed clause l falsified has)))

    false_back : IsFalseUnder c.opposite (carried assumed) (carried clause) → IsFalseUnder c.neg assumed clause
    false_back falsified = all_from (λ (l : L). Contains assumed (c.neg l)) clause (λ l has.
        negated_back assumed l among (is_among clause l own has) (is_false c.opposite (carried assumed) (carried clause) (c.carry l) falsified (contains_map c.carry clause l has)))

    leaves_to : (u : L) → LeavesOnly c.neg assumed clause u → LeavesOnly c.opposite (carried assumed) (carried clause) (c.carry u)
    leaves_to u leaves = record {
      has = contains_map c.carry clause u leaves.has;
      others_false = All-map (λ (m : M). (m ≡ c.carry u) ⊎ Contains (carried assumed) (c.opposite m)) c.carry clause
          (all_from (λ (l : L). (c.carry l ≡ c.carry u) ⊎ Contains (carried assumed) (c.opposite (c.carry l))) clause (λ l has. elim (left_or_false c.neg assumed clause u l leaves has) [
            | inl same ↦ inl (ap c.carry same)
            | inr denied ↦ inr (negated_to assumed l (is_among clause l own has) denied)
          ]));
    }

    leaves_back : (u : L) → IsTrue (c.among u) → LeavesOnly c.opposite (carried assumed) (carried clause) (c.carry u) → LeavesOnly c.neg assumed clause u
    leaves_back u one leaves = record {
      has = back clause u own one leaves.has;
      others_false = all_from (λ (l : L). (l ≡ u) ⊎ Contains assumed (c.neg l)) clause (λ l has.
          let l_among = is_among clause l own has in
          elim (left_or_false c.opposite (carried assumed) (carried clause) (c.carry u) (c.carry l) leaves (contains_map c.carry clause l has)) [
            | inl same ↦ inl (c.apart l u l_among one same)
            | inr denied ↦ inr (negated_back assumed l among l_among denied)
          ]);
    }

    gives_to : (u : L) → Gives c.neg assumed clause u → Gives c.opposite (carried assumed) (carried clause) (c.carry u)
    gives_to u gives =
        let one = is_among clause u own gives.leaves.has in
        record {
          leaves = leaves_to u gives.leaves;
          not_true = λ has. gives.not_true (back assumed u among one has);
          not_false = λ has. gives.not_false (negated_back assumed u among one has);
        }

    gives_back : (u : L) → IsTrue (c.among u) → Gives c.opposite (carried assumed) (carried clause) (c.carry u) → Gives c.neg assumed clause u
    gives_back u one gives = record {
      leaves = leaves_back u one gives.leaves;
      not_true = λ has. gives.not_true (contains_map c.carry assumed u has);
      not_false = λ has. gives.not_false (negated_to assumed u one has);
    }

  giving_to : (assumed : List L) (hints : List (List L)) (given : List L) → AreAmong c assumed → All (AreAmong c) hints
      → RefutesGiving c.neg assumed hints given → RefutesGiving c.opposite (carried assumed) (carried_all hints) (carried given)
  giving_to assumed [] given among own refutes = absurd refutes
  giving_to assumed (hint ∷ later) [] among own (last, falsified) = (ap carried_all last, false_to assumed hint among (All-head (AreAmong c) hint later own) falsified)
  giving_to assumed (hint ∷ later) (u ∷ us) among own (gives, rest) =
      let first = All-head (AreAmong c) hint later own in (
        gives_to assumed hint among first u gives,
        giving_to (u ∷ assumed) later us (more_among u assumed (is_among hint u first gives.leaves.has) among) (All-tail (AreAmong c) hint later own) rest,
      )

  given_back : (assumed : List L) (hints : List (List L)) (others : List M) → AreAmong c assumed → All (AreAmong c) hints → RefutesGiving c.opposite (carried assumed) (carried_all hints) others
      → (given : List L) × RefutesGiving c.neg assumed hints given × (carried given ≡ others)
  given_back assumed [] others among own refutes = absurd refutes
  given_back assumed (hint ∷ later) [] among own (last, falsified) =
      ([], (map_none (map c.carry) later last, false_back assumed hint among (All-head (AreAmong c) hint later own) falsified), refl)
  given_back assumed (hint ∷ later) (w ∷ ws) among own (gives, rest) =
      let first = All-head (AreAmong c) hint later own in
      let (u, has, same) = contains_unmap c.carry hint w gives.leaves.has in
      let one = is_among hint u first has in
      let gives_u = subst (λ (m : M). Gives c.opposite (carried assumed) (carried hint) m) (sym same) gives in
      let rest_u = subst (λ (m : M). RefutesGiving c.opposite (m ∷ carried assumed) (carried_all later) ws) (sym same) rest in
      let (us, refutes, are) = given_back (u ∷ assumed) later ws (more_among u assumed one among) (All-tail (AreAmong c) hint later own) rest_u in
      (u ∷ us, (gives_back assumed hint among first u one gives_u, refutes), ap (λ (m : M). m ∷ carried us) same ∙ ap (λ (ms : List M). w ∷ ms) are)

  given_among : (assumed : List L) (hints : List (List L)) (given : List L) → All (AreAmong c) hints → RefutesGiving c.neg assumed hints given → AreAmong c given
  given_among assumed [] given own refutes = absurd refutes
  given_among assumed (hint ∷ later) [] own last = All-nil (λ (k : L). IsTrue (c.among k))
  given_among assumed (hint ∷ later) (u ∷ us) own (gives, rest) =
      more_among u us (is_among hint u (All-head (AreAmong c) hint later own) gives.leaves.has) (given_among (u ∷ assumed) later us (All-tail (AreAmong c) hint later own) rest)

  refutes_carried : (assumed : List L) (hints : List (List L)) → AreAmong c assumed → All (AreAmong c) hints → Refutes c.neg assumed hints ↔ Refutes c.opposite (carried assumed) (carried_all hints)
  refutes_carried assumed hints among own = (to, from) where
    to : Refutes c.neg assumed hints → Refutes c.opposite (carried assumed) (carried_all hints)
    to refutes =
        let (given, giving) = refuters_give c.neg assumed hints refutes in
        givers_refute c.opposite (carried assumed) (carried_all hints) (carried given) (giving_to assumed hints given among own giving)

    from : Refutes c.opposite (carried assumed) (carried_all hints) → Refutes c.neg assumed hints
    from refutes =
        let (others, giving) = refuters_give c.opposite (carried assumed) (carried_all hints) refutes in
        let (given, back_, are) = given_back assumed hints others among own giving in
        givers_refute c.neg assumed hints given back_

  stands_to : (clauses : List (List L)) (l : L) → StandsIn clauses l → StandsIn (carried_all clauses) (c.carry l)
  stands_to clauses l stands =
      let (clause, named, has) = any_found (λ (d : List L). Contains d l) clauses stands in
      any_from (λ (d : List M). Contains d (c.carry l)) (carried_all clauses) (carried clause) (contains_map (map c.carry) clauses clause named) (contains_map c.carry clause l has)

  stands_back : (clauses : List (List L)) (l : L) → All (AreAmong c) clauses → IsTrue (c.among l) → StandsIn (carried_all clauses) (c.carry l) → StandsIn clauses l
  stands_back clauses l own one stands =
      let (other, named, has) = any_found (λ (d : List M). Contains d (c.carry l)) (carried_all clauses) stands in
      let (clause, in_, same) = contains_unmap (map c.carry) clauses other named in
      any_from (λ (d : List L). Contains d l) clauses clause in_ (back clause l (clause_among clauses clause own in_) one (subst (λ (d : List M). Contains d (c.carry l)) (sym same) has))

  spent_to : (hints : List (List L)) (given : List L) → AreAmong c given → AreSpent c.neg hints given → AreSpent c.opposite (carried_all hints) (carried given)
  spent_to hints [] among spent = tt
  spent_to [] (u ∷ us) among spent = absurd spent
  spent_to (hint ∷ later) (u ∷ us) among (stands, rest) = (
    subst (λ (m : M). StandsIn (carried_all later) m) (c.commutes u (All-head (λ (k : L). IsTrue (c.among k)) u us among)) (stands_to later (c.neg u) stands),
    spent_to later us (All-tail (λ (k : L). IsTrue (c.among k)) u us among) rest,
  )

  spent_back : (hints : List (List L)) (given : List L) → All (AreAmong c) hints → AreAmong c given → AreSpent c.opposite (carried_all hints) (carried given) → AreSpent c.neg hints given
  spent_back hints [] own among spent = tt
  spent_back [] (u ∷ us) own among spent = absurd spent
  spent_back (hint ∷ later) (u ∷ us) own among (stands, rest) =
      let one = All-head (λ (k : L). IsTrue (c.among k)) u us among in
      let tail = All-tail (AreAmong c) hint later own in (
        stands_back later (c.neg u) tail (c.negated u one) (subst (λ (m : M). StandsIn (carried_all later) m) (sym (c.commutes u one)) stands),
        spent_back later us tail (All-tail (λ (k : L). IsTrue (c.among k)) u us among) rest,
      )

  used_to : (lits : List L) (hints : List (List L)) → AreAmong c lits → All (AreAmong c) hints → Used c.neg lits hints → Used c.opposite (carried lits) (carried_all hints)
  used_to lits hints among own used = record {
    stand = All-map (StandsIn (carried_all hints)) c.carry lits (all_from (λ (l : L). StandsIn (carried_all hints) (c.carry l)) lits (λ l has.
        stands_to hints l (All-contains (StandsIn hints) lits l used.stand has)));
    given = carried used.given;
    refutes = subst (λ (assumed : List M). RefutesGiving c.opposite assumed (carried_all hints) (carried used.given)) (negations_carried lits among)
        (giving_to (map c.neg lits) hints used.given (negations_among lits among) own used.refutes);
    spent = spent_to hints used.given (given_among (map c.neg lits) hints used.given own used.refutes) used.spent;
  }

  used_back : (lits : List L) (hints : List (List L)) → AreAmong c lits → All (AreAmong c) hints → Used c.opposite (carried lits) (carried_all hints) → Used c.neg lits hints
  used_back lits hints among own used =
      let (given, refutes, are) = given_back (map c.neg lits) hints used.given (negations_among lits among) own
      (subst (λ (assumed : List M). RefutesGiving c.opposite assumed (carried_all hints) used.given) (sym (negations_carried lits among)) used.refutes) in
      record {
        stand = all_from (StandsIn hints) lits (λ l has. stands_back hints l own (is_among lits l among has)
            (All-contains (StandsIn (carried_all hints)) (carried lits) (c.carry l) used.stand (contains_map c.carry lits l has)));
        given = given;
        refutes = refutes;
        spent = spent_back hints given own (given_among (map c.neg lits) hints given own refutes)
            (subst (λ (ms : List M). AreSpent c.opposite (carried_all hints) ms) (sym are) used.spent);
      }

  closed_to : (clauses : List (List L)) (set : List L) → All (AreAmong c) clauses → AreAmong c set → ClosedUnder c.neg clauses set → ClosedUnder c.opposite (carried_all clauses) (carried set)
  closed_to clauses set own among closed = record {
    none_false = All-map (λ (d : List M). IsFalseUnder c.opposite (carried set) d → ⊥) (map c.carry) clauses
        (all_from (λ (clause : List L). IsFalseUnder c.opposite (carried set) (carried clause) → ⊥) clauses (λ clause has falsified.
        All-contains (λ (d : List L). IsFalseUnder c.neg set d → ⊥) clauses clause closed.none_false has (false_back set clause among (clause_among clauses clause own has) falsified)));
    keeps = All-map (λ (d : List M). (w : M) → LeavesOnly c.opposite (carried set) d w → Contains (carried set) w) (map c.carry) clauses
        (all_from (λ (clause : List L). (w : M) → LeavesOnly c.opposite (carried set) (carried clause) w → Contains (carried set) w) clauses (λ clause has w leaves.
        let (u, in_, same) = contains_unmap c.carry clause w leaves.has in
        let clean = clause_among clauses clause own has in
        let leaves_u = leaves_back set clause among clean u (is_among clause u clean in_) (subst (λ (m : M). LeavesOnly c.opposite (carried set) (carried clause) m) (sym same) leaves) in
        let has_u = All-contains (λ (d : List L). (l : L) → LeavesOnly c.neg set d l → Contains set l) clauses clause closed.keeps has u leaves_u in
        subst (λ (m : M). Contains (carried set) m) same (contains_map c.carry set u has_u)));
  }

  closed_back : (clauses : List (List L)) (set : List L) → All (AreAmong c) clauses → AreAmong c set → ClosedUnder c.opposite (carried_all clauses) (carried set) → ClosedUnder c.neg clauses set
  closed_back clauses set own among closed = record {
    none_false = all_from (λ (clause : List L). IsFalseUnder c.neg set clause → ⊥) clauses (λ clause has falsified.
        All-contains (λ (d : List M). IsFalseUnder c.opposite (carried set) d → ⊥) (carried_all clauses) (carried clause) closed.none_false (contains_map (map c.carry) clauses clause has)
        (false_to set clause among (clause_among clauses clause own has) falsified));
    keeps = all_from (λ (clause : List L). (u : L) → LeavesOnly c.neg set clause u → Contains set u) clauses (λ clause has u leaves.
        let clean = clause_among clauses clause own has in
        let has_u = All-contains (λ (d : List M). (w : M) → LeavesOnly c.opposite (carried set) d w → Contains (carried set) w) (carried_all clauses) (carried clause) closed.keeps (contains_map (map c.carry) clauses clause has)
        (c.carry u) (leaves_to set clause among clean u leaves) in
        back set u among (is_among clause u clean leaves.has) has_u);
  }

  -- the literals of a closed set that the map keeps apart are closed too
  closed_kept : (clauses : List (List L)) (set : List L) → All (AreAmong c) clauses → ClosedUnder c.neg clauses set → ClosedUnder c.neg clauses (filter c.among set)
  closed_kept clauses set own closed = record {
    none_false = all_from (λ (clause : List L). IsFalseUnder c.neg (filter c.among set) clause → ⊥) clauses (λ clause has falsified.
        All-contains (λ (d : List L). IsFalseUnder c.neg set d → ⊥) clauses clause closed.none_false has (false_more c.neg (filter c.among set) set clause some falsified));
    keeps = all_from (λ (clause : List L). (u : L) → LeavesOnly c.neg (filter c.among set) clause u → Contains (filter c.among set) u) clauses (λ clause has u leaves.
        let has_u =
        All-contains (λ (d : List L). (l : L) → LeavesOnly c.neg set d l → Contains set l) clauses clause closed.keeps has u
        (leaves_more c.neg (filter c.among set) set clause u some leaves) in
        kept c.among set u has_u (is_among clause u (clause_among clauses clause own has) leaves.has));
  } where
    some : All (Contains set) (filter c.among set)
    some = All-filter c.among (Contains set) set (All-contains_itself set)

  missed_to : (clauses : List (List L)) (assumed : List L) (l : L) → All (AreAmong c) clauses → AreAmong c assumed → IsTrue (c.among l)
      → Misses c.neg clauses assumed l → Misses c.opposite (carried_all clauses) (carried assumed) (c.carry l)
  missed_to clauses assumed l own among one missed = record {
    set = carried own_set;
    closed = closed_to clauses own_set own passes (closed_kept clauses missed.set own missed.closed);
    has = All-map (Contains (carried own_set)) c.carry assumed (all_from (λ (a : L). Contains (carried own_set) (c.carry a)) assumed (λ a has.
        contains_map c.carry own_set a (kept c.among missed.set a (All-contains (Contains missed.set) assumed a missed.has has) (is_among assumed a among has))));
    lacks = λ has. missed.lacks (of_filter c.among missed.set l (back own_set l passes one has));
  } where
    own_set : List L
    own_set = filter c.among missed.set

    passes : AreAmong c own_set
    passes = filter_passes c.among missed.set

pub words-carried : (L M : Type 0) → WordsAreCarried L M
words-carried L M = record {
  refutes = refutes_carried;
  giving = giving_to;
  given_back = given_back;
  stands = λ c clauses l own one. (stands_to c clauses l, stands_back c clauses l own one);
  used = λ c lits hints among own. (used_to c lits hints among own, used_back c lits hints among own);
  closed = λ c clauses set own among. (closed_to c clauses set own among, closed_back c clauses set own among);
  missed = missed_to;
}

-- Sets of literals that are closed under unit propagation.
use Rattle.std.proofs.Common.{◌≡◌, ◌∙◌, sym, subst, List, [], ◌∷◌, ◌++◌, inl, inr}
use Rattle.std.specs.List.{All, Contains}
use Rattle.std.proofs.lemmas.List.Elements.{All-nil, All-cons, All-head, All-tail, All-append, All-contains}
use Rattle.hint_refutation.specs.Hints.{IsFalseUnder, LeavesOnly, Refutes}
use Rattle.hint_refutation.specs.Propagation.{ClosedUnder, Reaches, Misses, IsConsistent, IsSettled}
use Rattle.hint_refutation.specs.Laws.{ClosedHasReached, WholeReachedIsClosed, ClosedIsNotRefuted, SettledIsClosed, ClosedByClauses}
use Rattle.hint_refutation.proofs.Lists.{all_from, any_found, any_from}
use Rattle.hint_refutation.proofs.Hinted.{false_more, leaves_more, left_or_false, is_false}

module _ {L : Type 0} (neg : L → L) where
  -- no clause that has come to be false is one of those under which the set is closed
  pub closed_not_false : (clauses : List (List L)) (set assumed clause : List L) → ClosedUnder neg clauses set → All (Contains set) assumed
      → Contains clauses clause → IsFalseUnder neg assumed clause → ⊥
  closed_not_false clauses set assumed clause closed all has false =
      All-contains (λ (d : List L). IsFalseUnder neg set d → ⊥) clauses clause closed.none_false has (false_more neg assumed set clause all false)

  pub closed_keeps : (clauses : List (List L)) (set assumed clause : List L) (u : L) → ClosedUnder neg clauses set
      → All (Contains set) assumed → Contains clauses clause → LeavesOnly neg assumed clause u → Contains set u
  closed_keeps clauses set assumed clause u closed all has leaves =
      All-contains (λ (d : List L). (w : L) → LeavesOnly neg set d w → Contains set w) clauses clause closed.keeps has u (leaves_more neg assumed set clause u all leaves)

  has_reached : (clauses : List (List L)) (set assumed reached : List L) → ClosedUnder neg clauses set → All (Contains set) assumed → Reaches neg clauses assumed reached → All (Contains set) reached
  has_reached clauses set assumed [] closed all reaches = All-nil (Contains set)
  has_reached clauses set assumed (u ∷ us) closed all (step, rest) =
      let (clause, has, leaves) = any_found (λ (d : List L). LeavesOnly neg assumed d u) clauses step in
      let kept = closed_keeps clauses set assumed clause u closed all has leaves in
      All-cons (Contains set) u us kept (has_reached clauses set (u ∷ assumed) us closed (All-cons (Contains set) u assumed kept all) rest)

  reached_not_false : (clauses : List (List L)) (set assumed reached : List L) → ClosedUnder neg clauses set → All (Contains set) assumed
      → Reaches neg clauses assumed reached → All (λ (clause : List L). IsFalseUnder neg (reached ++ assumed) clause → ⊥) clauses
  reached_not_false clauses set assumed reached closed all reaches =
      let whole = All-append (Contains set) reached assumed (has_reached clauses set assumed reached closed all reaches) all in
      all_from (λ (clause : List L). IsFalseUnder neg (reached ++ assumed) clause → ⊥) clauses (λ clause has. closed_not_false clauses set (reached ++ assumed) clause closed whole has)

  missed_not_reached : (clauses : List (List L)) (assumed reached : List L) (l : L) → Misses neg clauses assumed l → Reaches neg clauses assumed reached → Contains reached l → ⊥
  missed_not_reached clauses assumed reached l missed reaches has =
      missed.lacks (All-contains (Contains missed.set) reached l (has_reached clauses missed.set assumed reached missed.closed missed.has reaches) has)

  whole_closed : (clauses : List (List L)) (set : List L) → All (λ (clause : List L). IsFalseUnder neg set clause → ⊥) clauses
      → ((u : L) → Reaches neg clauses set (u ∷ []) → Contains set u) → ClosedUnder neg clauses set
  whole_closed clauses set none whole = record {
    none_false = none;
    keeps = all_from (λ (clause : List L). (u : L) → LeavesOnly neg set clause u → Contains set u) clauses (λ clause has u leaves.
        whole u (any_from (λ (d : List L). LeavesOnly neg set d u) clauses clause has leaves, tt));
  }

  not_refuted : (clauses : List (List L)) (set assumed : List L) (hints : List (List L)) → ClosedUnder neg clauses set
      → All (Contains set) assumed → All (Contains clauses) hints → Refutes neg assumed hints → ⊥
  not_refuted clauses set assumed [] closed all from refutes = refutes
  not_refuted clauses set assumed (hint ∷ later) closed all from (inl last) =
      closed_not_false clauses set assumed hint closed all (All-head (Contains clauses) hint later from) last.1
  not_refuted clauses set assumed (hint ∷ later) closed all from (inr (u, gives, rest)) =
      let kept = closed_keeps clauses set assumed hint u closed all (All-head (Contains clauses) hint later from) gives.leaves in
      not_refuted clauses set (u ∷ assumed) later closed (All-cons (Contains set) u assumed kept all) (All-tail (Contains clauses) hint later from) rest

  fewer_closed : (clauses fewer : List (List L)) (set : List L) → All (Contains clauses) fewer → ClosedUnder neg clauses set → ClosedUnder neg fewer set
  fewer_closed clauses fewer set from closed = record {
    none_false = all_from (λ (d : List L). IsFalseUnder neg set d → ⊥) fewer (λ clause has.
        All-contains (λ (d : List L). IsFalseUnder neg set d → ⊥) clauses clause closed.none_false (All-contains (Contains clauses) fewer clause from has));
    keeps = all_from (λ (d : List L). (u : L) → LeavesOnly neg set d u → Contains set u) fewer (λ clause has.
        All-contains (λ (d : List L). (u : L) → LeavesOnly neg set d u → Contains set u) clauses clause closed.keeps (All-contains (Contains clauses) fewer clause from has));
  }

  fewer_missed : (clauses fewer : List (List L)) (assumed : List L) (l : L) → All (Contains clauses) fewer → Misses neg clauses assumed l → Misses neg fewer assumed l
  fewer_missed clauses fewer assumed l from missed = record {
    set = missed.set;
    closed = fewer_closed clauses fewer missed.set from missed.closed;
    has = missed.has;
    lacks = missed.lacks;
  }

  joined_closed : (these those : List (List L)) (set : List L) → ClosedUnder neg these set → ClosedUnder neg those set → ClosedUnder neg (these ++ those) set
  joined_closed these those set first second = record {
    none_false = All-append (λ (d : List L). IsFalseUnder neg set d → ⊥) these those first.none_false second.none_false;
    keeps = All-append (λ (d : List L). (u : L) → LeavesOnly neg set d u → Contains set u) these those first.keeps second.keeps;
  }

  -- a literal of the clause that isn't false is the one that the clause leaves
  open_is_left : (set clause : List L) (u l : L) → LeavesOnly neg set clause u → Contains clause l → (Contains set (neg l) → ⊥) → l ≡ u
  open_is_left set clause u l leaves has is_open = elim (left_or_false neg set clause u l leaves has) [ inl same ↦ same | inr denied ↦ absurd (is_open denied) ]

  settled_not_false : (set clause : List L) → IsConsistent neg set → IsSettled neg set clause → IsFalseUnder neg set clause → ⊥
  settled_not_false set clause consistent (inl any) falsified =
      let (t, has, holds) = any_found (Contains set) clause any in
      All-contains (λ (l : L). Contains set (neg l) → ⊥) set t consistent holds (is_false neg set clause t falsified has)
  settled_not_false set clause consistent (inr two) falsified = two.one_open (is_false neg set clause two.one falsified two.has_one)

  settled_keeps : (set clause : List L) (u : L) → IsConsistent neg set → IsSettled neg set clause → LeavesOnly neg set clause u → Contains set u
  settled_keeps set clause u consistent (inl any) leaves =
      let (t, has, holds) = any_found (Contains set) clause any in
      subst (λ (l : L). Contains set l) (open_is_left set clause u t leaves has (All-contains (λ (l : L). Contains set (neg l) → ⊥) set t consistent holds)) holds
  settled_keeps set clause u consistent (inr two) leaves =
      absurd (two.differ (open_is_left set clause u two.one leaves two.has_one two.one_open ∙ sym (open_is_left set clause u two.other leaves two.has_other two.other_open)))

  settled_closed : (clauses : List (List L)) (set : List L) → IsConsistent neg set → All (IsSettled neg set) clauses → ClosedUnder neg clauses set
  settled_closed clauses set consistent settled = record {
    none_false = all_from (λ (d : List L). IsFalseUnder neg set d → ⊥) clauses (λ clause has. settled_not_false set clause consistent (All-contains (IsSettled neg set) clauses clause settled has));
    keeps =
        all_from (λ (d : List L). (u : L) → LeavesOnly neg set d u → Contains set u) clauses
        (λ clause has u. settled_keeps set clause u consistent (All-contains (IsSettled neg set) clauses clause settled has));
  }

pub closed-has_reached : (L : Type 0) → ClosedHasReached L
closed-has_reached L = record { has = has_reached; none_false = reached_not_false; missed = missed_not_reached }

pub whole-closed : (L : Type 0) → WholeReachedIsClosed L
whole-closed L = whole_closed

pub closed-not_refuted : (L : Type 0) → ClosedIsNotRefuted L
closed-not_refuted L = not_refuted

pub settled-closed : (L : Type 0) → SettledIsClosed L
settled-closed L = settled_closed

pub closed-by_clauses : (L : Type 0) → ClosedByClauses L
closed-by_clauses L = record { fewer = fewer_closed; missed = fewer_missed; joined = joined_closed }

-- The literals of a clause that are best watched.
use Rattle.std.proofs.Common.{◌≡◌, ◌≢◌, ◌∙◌, ap, refl, ℕ, ◌<◌, ◌≤◌, ◌⊎◌, inl, inr, List, [], ◌∷◌, ◌++◌, length, get_or, arith, Option, Some, None}
use Rattle.std.specs.List.{All, Contains}
use Rattle.std.proofs.lemmas.List.Elements.{All-push, All-weaker, Contains-append_left, Contains-push}
use Rattle.clause_db.specs.declared.lit.Lit.{Lit}
use Rattle.clause_db.specs.Literals.{negation}
use Rattle.propagate.specs.declared.entry.Entry.{Entry}
use Rattle.propagate.specs.declared.best.Falsified.{Falsified}
use Rattle.propagate.specs.Trails.{Assigned, entry_at, literals, IsTrail}
use Rattle.propagate.specs.Watched.{IsTrueAt, IsTrueUpTo}
use Rattle.propagate.specs.Best.{AreFalseWithin, IsBest, IsLastFalse, IsSeen}
use Rattle.propagate.proofs.ClauseLemmas.{literal_held}
use Rattle.propagate.proofs.PlaceLemmas.{at_up_to, same_literal, up_to_more, up_to_top}

-- a literal that isn't false is best
pub open_best : (es : List Entry) (clause : List Lit) (beside : Option Lit) (l : Lit) → Contains clause l → beside ≢ Some l → (Contains (literals es) (negation l) → ⊥) → IsBest es clause beside l
open_best es clause beside l has other open_here = record { has = has; differs = other; last = λ k within is. absurd (open_here (literal_held es k (negation l) within is)) }

-- where all others are false, one that became false at the present level is best
pub top_best : (t : Assigned) (clause : List Lit) (beside : Option Lit) (l : Lit) → IsTrail t → Contains clause l → beside ≢ Some l
    → IsTrueAt t.entries (negation l) (length t.levels) → AreFalseWithin t.entries clause 0 (length clause) beside
    → IsBest t.entries clause beside l
top_best t clause beside l trail has other at others = record {
  has = has;
  differs = other;
  last = λ k within is j d j_in.
      let same = same_literal t k at.0 (negation l) trail within at.1 is at.2 in
      let level = ap (λ i. (entry_at t.entries i).level) same ∙ at.3 in
      elim (others j d (omega arith) j_in) [
        | inl is ↦ inl is
        | inr held ↦ inr (up_to_top t (negation (get_or clause j d)) (entry_at t.entries k).level trail (omega (arith, level)) held)
      ];
}

module _ (es : List Entry) (front : List Lit) (x : Lit) (beside : Option Lit) where
  abbrev IsFalseOr : ℕ → Lit → Type 0
  IsFalseOr m y = (beside ≡ Some y) ⊎ IsTrueUpTo es m (negation y)

  -- the literal beside which another one is sought
  pub seen_beside : (last : Option Falsified) → IsSeen es front beside last → beside ≡ Some x → IsSeen es (front ++ x ∷ []) beside last
  seen_beside None known is = All-push (λ (y : Lit). beside ≡ Some y) front x known is
  seen_beside (Some f) known is = record {
    has = Contains-append_left front (x ∷ []) f.lit known.has;
    differs = known.differs;
    at = known.at;
    others = All-push (IsFalseOr f.level) front x known.others (inl is);
  }

  -- a false one
  false_first : (m : ℕ) → All (λ y. beside ≡ Some y) front → beside ≢ Some x → IsTrueAt es (negation x) m → IsLastFalse es (front ++ x ∷ []) beside (record { lit = x; level = m })
  false_first m known other at = record {
    has = Contains-push front x;
    differs = other;
    at = at;
    others = All-push (IsFalseOr m) front x (All-weaker (λ (y : Lit). beside ≡ Some y) (IsFalseOr m) (λ y is. inl is) front known) (inr (at_up_to es (negation x) m m (omega arith) at));
  }

  false_later : (m : ℕ) (f : Falsified) → IsLastFalse es front beside f → f.level ≤ m → beside ≢ Some x → IsTrueAt es (negation x) m
      → IsLastFalse es (front ++ x ∷ []) beside (record { lit = x; level = m })
  false_later m f known le other at = record {
    has = Contains-push front x;
    differs = other;
    at = at;
    others = All-push (IsFalseOr m) front x (All-weaker (IsFalseOr f.level) (IsFalseOr m) more front known.others) (inr (at_up_to es (negation x) m m (omega arith) at));
  } where
    more : (y : Lit) → IsFalseOr f.level y → IsFalseOr m y
    more y (inl is) = inl is
    more y (inr since) = inr (up_to_more es f.level m (negation y) le since)

  false_sooner : (m : ℕ) (f : Falsified) → IsLastFalse es front beside f → m ≤ f.level → IsTrueAt es (negation x) m → IsLastFalse es (front ++ x ∷ []) beside f
  false_sooner m f known le at = record {
    has = Contains-append_left front (x ∷ []) f.lit known.has;
    differs = known.differs;
    at = known.at;
    others = All-push (IsFalseOr f.level) front x known.others (inr (at_up_to es (negation x) m f.level le at));
  }

  -- the literal that became false last, with one more
  pub seen_false : (last : Option Falsified) (m : ℕ) (r : Falsified) → IsSeen es front beside last → beside ≢ Some x → IsTrueAt es (negation x) m → (last ≡ None → r ≡ record { lit = x; level = m })
      → ((f : Falsified) → last ≡ Some f → ((r ≡ f) × (m ≤ f.level)) ⊎ ((r ≡ record { lit = x; level = m }) × (f.level ≤ m))) → IsSeen es (front ++ x ∷ []) beside (Some r)
  seen_false None m r known other at only later = rw (only refl) (false_first m known other at)
  seen_false (Some f) m r known other at only later = elim (later f refl) [
    | inl kept ↦ rw kept.0 (false_sooner m f known kept.1 at)
    | inr new ↦ rw new.0 (false_later m f known new.1 other at)
  ]

pub no_one : (clause : List Lit) → All (λ x. None ≡ Some x) clause → length clause < 2
no_one [] none = omega arith
no_one (x ∷ xs) none = absurd (never (none 0 x (omega arith))) where
  never : {y : Lit} → None ≡ Some y → ⊥
  never e = cc

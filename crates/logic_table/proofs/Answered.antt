-- What `all` and `any` answer, in the words All and Any.
use Rattle.std.proofs.Common.{◌≡◌, ◌≢◌, ℕ, ◌<◌, Bool, true, false, List, [], ◌∷◌, length, get_or, MatchBool, sym, arith}
use Rattle.std.specs.List.{All, AllWithin, Any, Contains, HoldsAt}
use Rattle.std.proofs.lemmas.Bool.{false≢true}
use Rattle.std.proofs.lemmas.List.{get_or_default}
use Rattle.std.proofs.lemmas.List.Elements.{All-from_all_within}
use Rattle.hint_refutation.specs.Propagation.{HasTwoOpen}

pub all_answered : {X : Type 0} (P No : X → Type 0) (r : Bool) (xs : List X) → MatchBool r (AllWithin P xs 0 (length xs)) ((k : ℕ) × (k < length xs) × HoldsAt No xs k) → r ≡ true → All P xs
all_answered P No true xs held is = All-from_all_within P xs held
all_answered P No false xs held is = absurd (false≢true is)

pub any_answered : {X : Type 0} (P No : X → Type 0) (r : Bool) (xs : List X) → MatchBool r ((k : ℕ) × (k < length xs) × HoldsAt P xs k) (AllWithin No xs 0 (length xs)) → r ≡ true → Any P xs
any_answered P No false xs found is = absurd (false≢true is)
any_answered P No true [] (k, below, there) is = absurd (omega (arith, below))
any_answered P No true (y ∷ ys) (k, below, there) is =
    let x = get_or (y ∷ ys) k y in
    (k, x, below, get_or_default (y ∷ ys) k x y below, there y)

-- two open literals of a clause, found one after another
pub two_found : {L : Type 0} (neg : L → L) (set clause : List L)
    → Any (λ l. (Contains set (neg l) → ⊥) × Any (λ m. (m ≢ l) × (Contains set (neg m) → ⊥)) clause) clause → HasTwoOpen neg set clause
two_found neg set clause (i, one, one_below, one_there, (one_open, (j, other, other_below, other_there, (differ, other_open)))) = record {
  one = one;
  other = other;
  has_one = (i, one_below, one_there);
  has_other = (j, other_below, other_there);
  differ = λ same. differ (sym same);
  one_open = one_open;
  other_open = other_open;
}

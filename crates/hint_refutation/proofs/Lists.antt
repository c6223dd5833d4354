-- What a list contains, and what holds of some and of each of its elements.
use Rattle.std.proofs.Common.{◌≡◌, ap, refl, zero, suc, ◌⊎◌, inl, inr, Bool, true, false, cond, List, [], ◌∷◌, Option, Some, None, get_or, arith}
use Rattle.std.specs.Prelude.{not, if◌then◌else◌, filter, map}
use Rattle.std.specs.List.{All, Any, Contains, cons_option, filter_map, list_any}
use Rattle.std.proofs.lemmas.Bool.{or_left, or_right}
use Rattle.std.proofs.lemmas.List.Elements.{Contains-get_or}

pub contains_none : {X : Type 0} (x : X) → Contains [] x → ⊥
contains_none x has = omega (arith, has.1)

pub contains_first : {X : Type 0} (x : X) (xs : List X) → Contains (x ∷ xs) x
contains_first x xs = (0, omega arith, refl)

pub contains_later : {X : Type 0} (x y : X) (xs : List X) → Contains xs y → Contains (x ∷ xs) y
contains_later x y xs has = (suc has.0, omega (arith, has.1), has.2)

pub contains_cases : {X : Type 0} (x y : X) (xs : List X) → Contains (x ∷ xs) y → (x ≡ y) ⊎ Contains xs y
contains_cases x y xs (zero, below, is) = inl is
contains_cases x y xs (suc k, below, is) = inr (k, omega (arith, below), is)

-- from each element to the word `All`
pub all_from : {X : Type 0} (P : X → Type 0) (xs : List X) → ((x : X) → Contains xs x → P x) → All P xs
all_from P xs each = λ k d below. each (get_or xs k d) (Contains-get_or xs k d below)

-- some element, and that it is one
pub any_found : {X : Type 0} (P : X → Type 0) (xs : List X) → Any P xs → (x : X) × Contains xs x × P x
any_found P xs any = (any.1, (any.0, any.2, any.3), any.4)

pub any_from : {X : Type 0} (P : X → Type 0) (xs : List X) (x : X) → Contains xs x → P x → Any P xs
any_from P xs x has is = (has.0, x, has.1, has.2, is)

pub contains_map : {X Y : Type 0} (f : X → Y) (xs : List X) (x : X) → Contains xs x → Contains (map f xs) (f x)
contains_map f [] x has = absurd (contains_none x has)
contains_map f (y ∷ ys) x (zero, below, is) = (0, omega arith, ap f is)
contains_map f (y ∷ ys) x (suc k, below, is) = contains_later (f y) (f x) (map f ys) (contains_map f ys x (k, omega (arith, below), is))

pub contains_unmap : {X Y : Type 0} (f : X → Y) (xs : List X) (y : Y) → Contains (map f xs) y → (x : X) × Contains xs x × (f x ≡ y)
contains_unmap f [] y has = absurd (contains_none y has)
contains_unmap f (x ∷ xs) y (zero, below, is) = (x, contains_first x xs, is)
contains_unmap f (x ∷ xs) y (suc k, below, is) =
    let (w, has, same) = contains_unmap f xs y (k, omega (arith, below), is) in
    (w, contains_later x w xs has, same)

-- what passes a test, and what is given for an element
pub contains_filter : {X : Type 0} (p : X → Bool) (xs : List X) (x : X) → Contains xs x → p x ≡ true → Contains (filter p xs) x
contains_filter p [] x has holds = absurd (contains_none x has)
contains_filter p (y ∷ ys) x (zero, below, is) holds = rw (is, holds) (contains_first x (filter p ys))
contains_filter p (y ∷ ys) x (suc k, below, is) holds = later (p y) (contains_filter p ys x (k, omega (arith, below), is) holds) where
  later : (b : Bool) → Contains (filter p ys) x → Contains (cond b (y ∷ filter p ys) (filter p ys)) x
  later true has = contains_later y x (filter p ys) has
  later false has = has

pub any_true : {X : Type 0} (p : X → Bool) (xs : List X) (x : X) → Contains xs x → p x ≡ true → list_any p xs ≡ true
any_true p [] x has is = absurd (contains_none x has)
any_true p (y ∷ ys) x has is = elim (contains_cases y x ys has) [
  | inl here ↦ or_left (p y) (list_any p ys) (rw here is)
  | inr there ↦ or_right (p y) (list_any p ys) (any_true p ys x there is)
]

pub given_later : {Y : Type 0} (o : Option Y) (ys : List Y) (y : Y) → Contains ys y → Contains (cons_option o ys) y
given_later None ys y has = has
given_later (Some w) ys y has = contains_later w y ys has

pub given_stands : {X Y : Type 0} (h : X → Option Y) (xs : List X) (x : X) (y : Y) → Contains xs x → h x ≡ Some y → Contains (filter_map h xs) y
given_stands h [] x y has is = absurd (contains_none x has)
given_stands h (z ∷ zs) x y has is = elim (contains_cases z x zs has) [
  | inl here ↦ rw (here, is) (contains_first y (filter_map h zs))
  | inr there ↦ given_later (h z) (filter_map h zs) y (given_stands h zs x y there is)
]

-- the value of a literal and that of its negation
pub value_turned : (sense value : Bool) → (if not sense then value else not value) ≡ not (if sense then value else not value)
value_turned true value = refl
value_turned false true = refl
value_turned false false = refl

-- Lists with the same elements.
use Rattle.std.proofs.Common.{◌≡◌, subst, sym, inl, inr, List, ◌∷◌, ◌++◌, map}
use Rattle.std.specs.Prelude.{Contains}
use Rattle.std.specs.List.Sorted.{IsPermutation}
use Rattle.std.proofs.lemmas.List.Elements.{All-contains, Contains-append_cases, Contains-append_left, Contains-append_right}
use Rattle.std.proofs.lemmas.List.Sorted.{Contains-permutation, IsPermutation-sym}
use Rattle.hint_refutation.proofs.Lists.{all_from, contains_cases, contains_first, contains_later, contains_map, contains_unmap}
use Rattle.proof_check.specs.Refutation.{AreThose}

-- by what each of them contains
pub those_by : {X : Type 0} (these those : List X) → ((x : X) → Contains these x → Contains those x) → ((x : X) → Contains those x → Contains these x) → AreThose these those
those_by these those there back = record { has = all_from (Contains those) these there; only = all_from (Contains these) those back }

pub there_too : {X : Type 0} (these those : List X) → AreThose these those → (x : X) → Contains these x → Contains those x
there_too these those same x has = All-contains (Contains those) these x same.has has

pub here_too : {X : Type 0} (these those : List X) → AreThose these those → (x : X) → Contains those x → Contains these x
here_too these those same x has = All-contains (Contains these) those x same.only has

pub those_same : {X : Type 0} (these those : List X) → those ≡ these → AreThose these those
those_same these those same = subst (AreThose these) (sym same) (those_by these these (λ x has. has) (λ x has. has))

pub stands_first : {X : Type 0} (x y : X) (xs : List X) → x ≡ y → Contains (x ∷ xs) y
stands_first {X} x y xs same = subst (λ (z : X). Contains (x ∷ xs) z) same (contains_first x xs)

-- one element more, behind those of a list
pub those_behind : {X : Type 0} (front these those : List X) (x : X) → AreThose (x ∷ these) those → AreThose (x ∷ (front ++ these)) (front ++ those)
those_behind front these those x same = those_by (x ∷ (front ++ these)) (front ++ those)
    (λ y has. elim (contains_cases x y (front ++ these) has) [
      | inl here ↦ Contains-append_right front those y (there_too (x ∷ these) those same y (stands_first x y these here))
      | inr there ↦ elim (Contains-append_cases front these y there) [
        | inl before ↦ Contains-append_left front those y before
        | inr behind ↦ Contains-append_right front those y (there_too (x ∷ these) those same y (contains_later x y these behind))
      ]
    ])
    (λ y has. elim (Contains-append_cases front those y has) [
      | inl before ↦ contains_later x y (front ++ these) (Contains-append_left front these y before)
      | inr behind ↦ elim (contains_cases x y these (here_too (x ∷ these) those same y behind)) [
        | inl here ↦ stands_first x y (front ++ these) here
        | inr there ↦ contains_later x y (front ++ these) (Contains-append_right front these y there)
      ]
    ])

-- and those of a list behind them
pub those_before : {X : Type 0} (these those back : List X) → AreThose these those → AreThose (these ++ back) (those ++ back)
those_before these those back same = those_by (these ++ back) (those ++ back)
    (λ x has. elim (Contains-append_cases these back x has) [
      | inl before ↦ Contains-append_left those back x (there_too these those same x before)
      | inr behind ↦ Contains-append_right those back x behind
    ])
    (λ x has. elim (Contains-append_cases those back x has) [
      | inl before ↦ Contains-append_left these back x (here_too these those same x before)
      | inr behind ↦ Contains-append_right these back x behind
    ])

-- the same elements, moved
pub those_moved : {X : Type 0} (these those others : List X) → AreThose these those → IsPermutation those others → AreThose these others
those_moved these those others same moved = those_by these others
    (λ x has. Contains-permutation those others x moved (there_too these those same x has))
    (λ x has. here_too these those same x (Contains-permutation others those x (IsPermutation-sym those others moved) has))

-- and what is made of each
pub those_mapped : {X Y : Type 0} (f : X → Y) (these those : List X) → AreThose these those → AreThose (map f these) (map f those)
those_mapped {X} {Y} f these those same = those_by (map f these) (map f those) (mapped these those (there_too these those same)) (mapped those these (here_too these those same))
  where
    mapped : (xs ys : List X) → ((x : X) → Contains xs x → Contains ys x) → (y : Y) → Contains (map f xs) y → Contains (map f ys) y
    mapped xs ys each y has =
        let (x, there, is) = contains_unmap f xs y has in
        subst (λ (z : Y). Contains (map f ys) z) is (contains_map f ys x (each x there))

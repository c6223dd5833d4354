-- What stands in lists of literals, and what holds of some of them.
use Rattle.std.proofs.Common.{◌≡◌, Bool, true, List, [], ◌∷◌, inl, inr}
use Rattle.std.specs.Prelude.{IsTrue}
use Rattle.std.specs.List.{Contains, list_any}
use Rattle.mt_model.proofs.Members.{Among, any_some}
use Rattle.hint_refutation.specs.Laws.{IsMet}
use Rattle.hint_refutation.proofs.Lists.{any_found, any_from, contains_cases, contains_first, contains_later, contains_none, any_true}
use Rattle.axiom_rules.specs.declared.literal.Literal.{Literal}
use Rattle.axiom_rules.specs.Parts.{each_once}
use Rattle.axiom_rules.proofs.AddingLemmas.{among-once}

-- what stands in a list, in the words of both
pub among_stands : {X : Type 0} (xs : List X) (x : X) → Among xs x → Contains xs x
among_stands [] x in_ = absurd in_
among_stands (y ∷ ys) x (inl here) = rw (← here) (contains_first y ys)
among_stands (y ∷ ys) x (inr there) = contains_later y x ys (among_stands ys x there)

pub stands_among : {X : Type 0} (xs : List X) (x : X) → Contains xs x → Among xs x
stands_among [] x has = absurd (contains_none x has)
stands_among (y ∷ ys) x has = elim (contains_cases y x ys has) [ inl here ↦ inl here | inr there ↦ inr (stands_among ys x there) ]

pub stands_once : (ls : List Literal) (m : Literal) → Contains ls m → Contains (each_once ls) m
stands_once ls m has = among_stands (each_once ls) m (among-once ls m (stands_among ls m has))

pub any_met : (p : Literal → Bool) (ls : List Literal) → list_any p ls ≡ true → IsMet p ls
any_met p ls h = let (l, in_, is) = any_some p ls h in any_from (λ (k : Literal). IsTrue (p k)) ls l (among_stands ls l in_) is

pub met_any : (p : Literal → Bool) (ls : List Literal) → IsMet p ls → list_any p ls ≡ true
met_any p ls met = let (l, has, is) = any_found (λ (k : Literal). IsTrue (p k)) ls met in any_true p ls l has is

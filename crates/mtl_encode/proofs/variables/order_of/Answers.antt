use Rattle.std.proofs.Common.{Ok, Err}
use Rattle.std.specs.Prelude.{IfOk, Result}
use Rattle.std.proofs.lemmas.List.Sorted.{IsPermutation-trans}
use Rattle.mtl_encode.proofs.OrderLemmas.{order-of}
use Rattle.mtl_encode.proofs.variables.order_of.Goals as goal

if-ok : {T E : Type 0} (r : Result T E) (A B : T → Type 0) → ((x : T) → A x → B x) → IfOk r A → IfOk r B
if-ok (Ok x) A B f a = f x a
if-ok (Err e) A B f a = tt

pub returns : goal.returns
returns c = if-ok c.vars_of.result _ _ (λ order is. order-of _ order.items (rw is (IsPermutation-trans _ _ _ c.in_ok-ranking.ensures c.in_ok-sorted.ensures))) c.vars_of.ensures

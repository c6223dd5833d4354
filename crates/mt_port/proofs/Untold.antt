-- What holds of an answer where something tells its content holds of any answer where it tells none.
use Rattle.std.proofs.Common.{◌≡◌, true, false}
use Rattle.std.specs.Prelude.{Result, Ok, Err, OnOk, OnErr, IfOk}

pub on_ok : {T E : Type 0} (P : Type 0) (r : Result T E) → OnOk r (false ≡ true → P)
on_ok P (Ok x) = λ no. absurd cc
on_ok P (Err e) = tt

pub on_err : {T E : Type 0} (P : Type 0) (r : Result T E) → OnErr r (false ≡ true → P)
on_err P (Ok x) = tt
on_err P (Err e) = λ no. absurd cc

pub if_ok : {T E : Type 0} (P : T → Type 0) (r : Result T E) → IfOk r (λ x. false ≡ true → P x)
if_ok P (Ok x) = λ no. absurd cc
if_ok P (Err e) = tt

-- What a slice gives at an index.
use Rattle.std.proofs.Common.{◌≡◌, refl, sym, ℕ, ◌<◌, ◌≤◌, true, false, List, length, get_or, Option, Some, None, option_copied, slice_get, arith, Bor}
use Rattle.std.specs.Prelude.{is_some, nat_lt, IfSome}
use Rattle.std.proofs.lemmas.Bool.Decides.{nat_tests}
use Rattle.std.proofs.lemmas.Option.{slice_get_past, slice_get_read}

past : (i n : ℕ) → false ≡ nat_lt i n → n ≤ i
past i n h = grind (arith, nat_tests)

within : (i n : ℕ) → true ≡ nat_lt i n → i < n
within i n h = grind (arith, nat_tests)

pub got-item : {X : Type 0} (xs : List X) (i : ℕ) (r : Option (Bor X)) → (is_some r ≡ nat_lt i (length xs)) × IfSome r (λ x. x.now ≡ get_or xs i x.now) → option_copied r ≡ slice_get xs i
got-item xs i None told = sym (slice_get_past xs i (past i (length xs) told.0))
got-item xs i (Some x) told = sym (slice_get_read xs (length xs) i x.now refl (within i (length xs) told.0) told.1)

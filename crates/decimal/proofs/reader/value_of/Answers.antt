use Rattle.std.proofs.Common.{ℕ, Result, Ok, Err}
use Rattle.std.specs.Result.{OkIff, result_ok}
use Rattle.std.specs.Option.{SomeIff}
use Rattle.std.proofs.lemmas.Str.Parse.{parse_digits}
use Rattle.decimal.proofs.Digits.{digits_model, IsUtf8-digits}
use Rattle.decimal.proofs.reader.value_of.Goals as goal

-- the value of an `Ok`, where one of its two conditions holds already
SomeIff-result_ok : {E : Type 0} (A B : Type 0) (r : Result ℕ E) (v : ℕ) → OkIff r (A × B) v → A → SomeIff (result_ok r) B v
SomeIff-result_ok A B (Ok x) v h a = (h.0.1, h.1)
SomeIff-result_ok A B (Err e) v h a = λ b. h (a, b)

pub unreachable-requires : goal.unreachable-requires
unreachable-requires c = c.in-Err.ensures.cases.0 (IsUtf8-digits c.args.digits.now c.requires.digits)

pub returns : goal.returns
returns c =
    let parsed = rw c.in-Ok.ensures.cases.0 at c.parse.ensures.value.0 in
    let found = parse_digits digits_model 128 c.args.digits.now c.parse.result parsed c.requires.digits in
    rw c.ok.ensures.value (SomeIff-result_ok _ _ c.parse.result _ found c.requires.some)

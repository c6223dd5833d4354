use Rattle.decimal.proofs.Digits.{IsUtf8-digits, digits_model}
use Rattle.mtl_parse.proofs.Digits.{SomeIff-result_ok, ascii_digits}
use Rattle.std.proofs.lemmas.Str.Parse.{parse_digits}
use Rattle.mtl_parse.proofs.token.value_of.Goals as goal

pub unreachable-requires : goal.unreachable-requires
unreachable-requires c = c.in-Err.ensures.cases.0 (IsUtf8-digits c.args.digits.now (ascii_digits c.args.digits.now c.requires.digits))

pub returns : goal.returns
returns c =
    let parsed = rw c.in-Ok.ensures.cases.0 at c.parse.ensures.value.0 in
    let found = parse_digits digits_model 64 c.args.digits.now c.parse.result parsed (ascii_digits c.args.digits.now c.requires.digits) in
    rw c.ok.ensures.value (SomeIff-result_ok _ _ c.parse.result _ found c.requires.some)

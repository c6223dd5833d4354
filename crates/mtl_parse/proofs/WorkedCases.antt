-- Texts with their tokens, worked out by hand.
use Rattle.std.proofs.Common.{◌≡◌, refl, [], ◌∷◌}
use Rattle.std.specs.Prelude.{codes, Some, Ok, Err}
use Rattle.mtl_parse.specs.declared.fault.FormulaFault.TheVariants as fault
use Rattle.mtl_parse.specs.Tokens.{F, OpenBracket, CloseBracket, Comma, Dot, Arrow, PrefixLetter, Number, Word, tokens_of}
use Rattle.mtl_parse.specs.Places.{host_byte}

a_dot_and_an_arrow : tokens_of (codes "a.p->F[0,12]true") ≡ Ok (record { token = Word (codes "a"); byte = 0 } ∷ record { token = Dot; byte = 1 } ∷ record { token = Word (codes "p"); byte = 2 } ∷ record { token = Arrow; byte = 3 } ∷ record { token = PrefixLetter F; byte = 5 } ∷ record { token = OpenBracket; byte = 6 } ∷ record { token = Number 0; byte = 7 } ∷ record { token = Comma; byte = 8 } ∷ record { token = Number 12; byte = 9 } ∷ record { token = CloseBracket; byte = 11 } ∷ record { token = Word (codes "true"); byte = 12 } ∷ [])
a_dot_and_an_arrow = refl

a_byte_that_begins_no_token : tokens_of (codes "a.p # b.q") ≡ Err (fault.Token 4)
a_byte_that_begins_no_token = refl

a_leading_zero : tokens_of (codes "F[01,3] a.p") ≡ Err (fault.Number 2)
a_leading_zero = refl

a_number_above_the_limit : tokens_of (codes "F[0,1000000000000000001] a.p") ≡ Err (fault.Number 4)
a_number_above_the_limit = refl

the_second_host : host_byte (codes "a.p & b.q") 1 ≡ Some 6
the_second_host = refl

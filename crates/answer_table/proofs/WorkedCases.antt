-- `G (h0.p -> F[0,20] h1.q)` is the formula of the demo, worked out by hand.
use Rattle.std.proofs.Common.{◌≡◌, refl, List, [], ◌∷◌, ◌++◌, codes, Some, None, Ok}
use Rattle.mt_model.specs.Form.{Form, Eventually, Prop}
use Rattle.mtl_parse.specs.Tokens.{F, G, Open, Close, OpenBracket, CloseBracket, Comma, Dot, Arrow, PrefixLetter, Number, Token, Word, tokens_of}
use Rattle.mtl_parse.specs.Grammar.{Reads, Implication, Disjunction, Unary, implies, implication, disjunction, conjunction, until_or_since, prefixed, unary, proposition, parentheses, everything, bounded, from_to}
use Rattle.skew_cli.specs.DemoFormula.{answered, demo_formula, within_20}

abbrev p_tokens : List Token
p_tokens = Word (codes "h0") ∷ Dot ∷ Word (codes "p") ∷ []

abbrev q_tokens : List Token
q_tokens = Word (codes "h1") ∷ Dot ∷ Word (codes "q") ∷ []

abbrev interval : List Token
interval = OpenBracket ∷ Number 0 ∷ Comma ∷ Number 20 ∷ CloseBracket ∷ []

abbrev soon_tokens : List Token
soon_tokens = PrefixLetter F ∷ interval ++ q_tokens

abbrev inner : List Token
inner = p_tokens ++ Arrow ∷ soon_tokens

abbrev whole : List Token
whole = PrefixLetter G ∷ Open ∷ inner ++ Close ∷ []

the_tokens : tokens_of (codes "G (h0.p -> F[0,20] h1.q)") ≡ Ok (record { token = PrefixLetter G; byte = 0 } ∷ record { token = Open; byte = 2 } ∷ record { token = Word (codes "h0"); byte = 3 } ∷ record { token = Dot; byte = 5 } ∷ record { token = Word (codes "p"); byte = 6 } ∷ record { token = Arrow; byte = 8 } ∷ record { token = PrefixLetter F; byte = 11 } ∷ record { token = OpenBracket; byte = 12 } ∷ record { token = Number 0; byte = 13 } ∷ record { token = Comma; byte = 14 } ∷ record { token = Number 20; byte = 15 } ∷ record { token = CloseBracket; byte = 17 } ∷ record { token = Word (codes "h1"); byte = 19 } ∷ record { token = Dot; byte = 21 } ∷ record { token = Word (codes "q"); byte = 22 } ∷ record { token = Close; byte = 23 } ∷ [])
the_tokens = refl

as_disjunction : (ts : List Token) (f : Form) → Reads Unary ts f → Reads Disjunction ts f
as_disjunction ts f r = disjunction ts f (conjunction ts f (until_or_since ts f r))

p_is_read : Reads Unary p_tokens (Prop (codes "h0") (codes "p"))
p_is_read = unary _ _ (proposition (codes "h0") (codes "p") refl)

q_is_read : Reads Unary q_tokens (Prop (codes "h1") (codes "q"))
q_is_read = unary _ _ (proposition (codes "h1") (codes "q") refl)

soon_is_read : Reads Unary soon_tokens (Eventually within_20 (Prop (codes "h1") (codes "q")))
soon_is_read = prefixed F interval q_tokens soon_tokens (from_to 0 (Some 20)) _ refl (bounded 0 20) q_is_read

inner_is_read : Reads Implication inner answered
inner_is_read = implies p_tokens soon_tokens inner _ _ refl (as_disjunction _ _ p_is_read) (implication _ _ (as_disjunction _ _ soon_is_read))

whole_is_read : Reads Implication whole demo_formula
whole_is_read =
    implication _ _ (as_disjunction _ _ (prefixed G [] (Open ∷ inner ++ Close ∷ []) whole (from_to 0 None) answered refl everything (unary _ _ (parentheses inner _ answered refl inner_is_read))))

-- Pieces of a printed text, with their tokens.
use Rattle.std.proofs.Common.{◌≡◌, ◌∙◌, ap, refl, arith, ℕ, Bool, true, false, List, [], ◌∷◌, ◌++◌, append_assoc, Option, Some, None}
use Rattle.std.specs.Prelude.{◌&&◌, not, codes, nat_le, nat_lt}
use Rattle.std.specs.Option.{option_map_or}
use Rattle.std.specs.Fmt.{decimal}
use Rattle.std.proofs.lemmas.Bool.Decides.{nat_tests}
use Rattle.mt_model.specs.declared.tree.Interval.{Interval}
use Rattle.mt_model.specs.declared.limits.TheConstants.{MAX_DISTANCE}
use Rattle.mt_model.specs.Form.{is_interval}
use Rattle.mt_model.specs.Name.{is_name, is_name_byte}
use Rattle.mtl_parse.specs.Tokens.{Found, Placed, Token, Open, Close, OpenBracket, CloseBracket, Comma, Dot, Arrow, Number, Word, is_blank, lexeme_at}
use Rattle.mtl_parse.specs.FormulaOf.{begins_with_empty_interval, first_empty_interval, tokens_in}
use Rattle.mtl_parse.specs.FormulaText.{high_text, interval_text, joined, prefixed}
use Rattle.mtl_parse.proofs.PrintedTokens.{Scans, begins_with, scans-blank, scans-number, scans-token, scans-word}
use Rattle.std.proofs.lemmas.Bool.{and_parts}

-- no interval in the tokens has its bounds exchanged
abbrev pub are_in_order : List Token → Bool
are_in_order [] = true
are_in_order (t ∷ ts) = not (begins_with_empty_interval (t ∷ ts)) && are_in_order ts

-- what stands before other bytes, which do not go on with a word, has these tokens
pub record Piece (bytes : List ℕ) (ts : List Token) : Type 0 where
  pub scans : (rest : List ℕ) (more : List Token) → begins_with is_name_byte rest ≡ false → Scans rest more → Scans (bytes ++ rest) (ts ++ more)
  pub in_order : (more : List Token) → are_in_order more ≡ true → are_in_order (ts ++ more) ≡ true

-- the upper bound, or the word `inf`
abbrev pub high_token : Option ℕ → Token
high_token (Some high) = Number high
high_token None = Word (codes "inf")

abbrev pub interval_tokens : Interval → List Token
interval_tokens I = OpenBracket ∷ Number I.low ∷ Comma ∷ high_token I.high ∷ CloseBracket ∷ []

-- an interval in its order, and its upper bound within the limit
abbrev BoundsAreSound : ℕ → Option ℕ → Type 0
BoundsAreSound low high = option_map_or (λ b. nat_le b MAX_DISTANCE && nat_le low b) high true ≡ true

high_within : (low : ℕ) (high : Option ℕ) → BoundsAreSound low high → option_map_or (λ b. nat_le b MAX_DISTANCE) high true ≡ true
high_within low None h = refl
high_within low (Some b) h = (and_parts (nat_le b MAX_DISTANCE) (nat_le low b) h).0

scans-high : {rest : List ℕ} {ts : List Token} (high : Option ℕ) → option_map_or (λ b. nat_le b MAX_DISTANCE) high true ≡ true
    → begins_with is_name_byte rest ≡ false → Scans rest ts → Scans (high_text high ++ rest) (high_token high ∷ ts)
scans-high (Some b) within cut s = scans-number b within cut s
scans-high None within cut s = scans-word (codes "inf") refl cut s

not_below : (low b : ℕ) → nat_le low b ≡ true → nat_lt b low ≡ false
not_below low b h = grind (arith, nat_tests)

bounds-in_order : (low : ℕ) (high : Option ℕ) (more : List Token) → BoundsAreSound low high → are_in_order more ≡ true
    → are_in_order (OpenBracket ∷ Number low ∷ Comma ∷ high_token high ∷ CloseBracket ∷ more) ≡ true
bounds-in_order low None more sound h = h
bounds-in_order low (Some b) more sound h =
    let right : nat_lt b low ≡ false = not_below low b (and_parts (nat_le b MAX_DISTANCE) (nat_le low b) sound).1 in
    rw right h

interval-rest : (I : Interval) (rest : List ℕ) → interval_text I ++ rest ≡ 91 ∷ (decimal I.low ++ 44 ∷ (high_text I.high ++ 93 ∷ rest))
interval-rest I rest = simp append_assoc

pub interval-piece : (I : Interval) → is_interval I ≡ true → Piece (interval_text I) (interval_tokens I)
interval-piece I sound =
    let parts = and_parts (nat_le I.low MAX_DISTANCE) (option_map_or (λ b. nat_le b MAX_DISTANCE && nat_le I.low b) I.high true) sound in
    record {
      scans = λ rest more cut s. rw (interval-rest I rest)
          (scans-token 91 [] OpenBracket refl refl (scans-number I.low parts.0 refl
          (scans-token 44 [] Comma refl refl
          (scans-high I.high (high_within I.low I.high parts.1) refl (scans-token 93 [] CloseBracket refl refl s)))));
      in_order = λ more h. bounds-in_order I.low I.high more parts.1 h;
    }

joined-rest : (left middle right rest : List ℕ) → joined left middle right ++ rest ≡ 40 ∷ (left ++ 32 ∷ (middle ++ 32 ∷ (right ++ 41 ∷ rest)))
joined-rest left middle right rest = simp append_assoc

inner-more : (ts ms us more : List Token) → (Open ∷ (ts ++ (ms ++ us)) ++ Close ∷ []) ++ more ≡ Open ∷ (ts ++ (ms ++ (us ++ Close ∷ more)))
inner-more ts ms us more = simp append_assoc

-- two pieces with a third between them, in parentheses
pub joined-piece : {left middle right : List ℕ} {ts ms us : List Token} → Piece left ts → Piece middle ms → Piece right us → Piece (joined left middle right) (Open ∷ (ts ++ (ms ++ us)) ++ Close ∷ [])
joined-piece {left} {middle} {right} {ts} {ms} {us} p q r = record {
  scans = λ rest more cut s. rw (joined-rest left middle right rest, inner-more ts ms us more)
      (scans-token 40 [] Open refl refl (p.scans (32 ∷ (middle ++ 32 ∷ (right ++ 41 ∷ rest))) (ms ++ (us ++ Close ∷ more)) refl
      (scans-blank 32 refl (q.scans (32 ∷ (right ++ 41 ∷ rest)) (us ++ Close ∷ more) refl
      (scans-blank 32 refl (r.scans (41 ∷ rest) (Close ∷ more) refl (scans-token 41 [] Close refl refl s)))))));
  in_order = λ more h. ap are_in_order (inner-more ts ms us more) ∙ (p.in_order (ms ++ (us ++ Close ∷ more)) (q.in_order (us ++ Close ∷ more) (r.in_order (Close ∷ more) h)));
}

prefixed-rest : (b : ℕ) (I : Interval) (operand rest : List ℕ) → prefixed (b ∷ []) I operand ++ rest ≡ b ∷ (interval_text I ++ 32 ∷ (operand ++ rest))
prefixed-rest b I operand rest = simp append_assoc

-- a byte that is a token by itself, with an interval, and a piece behind it
pub prefixed-piece : {operand : List ℕ} {ts : List Token} (b : ℕ) (t : Token) (I : Interval) → is_blank b ≡ false
    → ((bs : List ℕ) → lexeme_at b bs ≡ Found t 0) → ((ts : List Token) → begins_with_empty_interval (t ∷ ts) ≡ false)
    → is_interval I ≡ true → Piece operand ts → Piece (prefixed (b ∷ []) I operand) (t ∷ (interval_tokens I ++ ts))
prefixed-piece {operand} {ts} b t I solid lexeme other sound p =
    let q = interval-piece I sound in
    record {
      scans = λ rest more cut s. rw (prefixed-rest b I operand rest)
          (scans-token b [] t solid (lexeme (interval_text I ++ 32 ∷ (operand ++ rest))) (q.scans (32 ∷ (operand ++ rest)) (ts ++ more) refl (scans-blank 32 refl (p.scans rest more cut s))));
      in_order = λ more h. rw (other (interval_tokens I ++ ts ++ more)) (q.in_order (ts ++ more) (p.in_order more h));
    }

-- a byte that is a token by itself, before a piece
pub sign-piece : {operand : List ℕ} {ts : List Token} (b : ℕ) (t : Token) → is_blank b ≡ false
    → ((bs : List ℕ) → lexeme_at b bs ≡ Found t 0) → ((ts : List Token) → begins_with_empty_interval (t ∷ ts) ≡ false) → Piece operand ts
    → Piece (b ∷ operand) (t ∷ ts)
sign-piece {operand} {ts} b t solid lexeme other p = record {
  scans = λ rest more cut s. scans-token b [] t solid (lexeme (operand ++ rest)) (p.scans rest more cut s);
  in_order = λ more h. rw (other (ts ++ more)) (p.in_order more h);
}

pub word-piece : (name : List ℕ) → is_name name ≡ true → Piece name (Word name ∷ [])
word-piece name is = record { scans = λ rest more cut s. scans-word name is cut s; in_order = λ more h. h }

-- a name, a dot and a name
pub proposition-piece : (host name : List ℕ) → is_name host ≡ true → is_name name ≡ true → Piece (host ++ codes "." ++ name) (Word host ∷ Dot ∷ Word name ∷ [])
proposition-piece host name first second = record {
  scans = λ rest more cut s. rw (append_assoc (host ++ codes ".") name rest, append_assoc host (codes ".") (name ++ rest)) (scans-word host first refl (scans-token 46 [] Dot refl refl (scans-word name second cut s)));
  in_order = λ more h. h;
}

-- nothing, before which a sign stands alone
pub empty-piece : Piece [] []
empty-piece = record { scans = λ rest more cut s. s; in_order = λ more h. h }

pub arrow-piece : Piece (codes "->") (Arrow ∷ [])
arrow-piece = record { scans = λ rest more cut s. scans-token 45 (62 ∷ []) Arrow refl refl s; in_order = λ more h. h }

in_turn : (test rest : Bool) → (not test && rest) ≡ true → (test ≡ false) × (rest ≡ true)
in_turn true rest h = cc
in_turn false rest h = (refl, h)

-- tokens in order have no interval that is empty
pub first-none : (ps : List Placed) → are_in_order (tokens_in ps) ≡ true → first_empty_interval ps ≡ None
first-none [] h = refl
first-none (p ∷ ps) h =
    let parts = in_turn (begins_with_empty_interval (p.token ∷ tokens_in ps)) (are_in_order (tokens_in ps)) h in
    rw parts.0 (first-none ps parts.1)

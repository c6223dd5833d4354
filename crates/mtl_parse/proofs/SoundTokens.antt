-- What the tokens of a text are made of.
use Rattle.std.proofs.Common.{◌≡◌, ◌∙◌, refl, subst, arith, zero, suc, ℕ, ◌+◌, ◌≤◌, Bool, true, false, List, [], ◌∷◌, length, Result, Ok, Err, inl, inr}
use Rattle.std.specs.Prelude.{◌==◌, ◌&&◌, ◌-◌, not, nat_le, take_while, if◌then◌else◌}
use Rattle.std.specs.List.{list_all}
use Rattle.std.specs.Str.Parse.{digits_value}
use Rattle.std.proofs.lemmas.Bool.{cases_Bool}
use Rattle.std.proofs.lemmas.List.Sums.{take_while-cons}
use Rattle.mt_model.specs.declared.limits.TheConstants.{MAX_DISTANCE, MAX_NAME_LENGTH}
use Rattle.mt_model.specs.Name.{is_digit, is_letter, is_name_byte}
use Rattle.mtl_parse.specs.declared.fault.FormulaFault.{FormulaFault}
use Rattle.mtl_parse.specs.Tokens.{U, S, F, G, O, H, Open, Close, OpenBracket, CloseBracket, Comma, Dot, Bang, Ampersand, Bar, Arrow, InfixLetter, PrefixLetter, Number, Placed, Lexeme, Found, NoToken, BadNumber, arrow_lexeme, has_leading_zero, is_blank, lexeme_at, number_lexeme, sign_lexeme, then_tokens, tokens_from, tokens_of, with_token, word_lexeme}
use Rattle.mtl_parse.specs.Machine.{is_sound}
use Rattle.mtl_parse.proofs.Digits.{run_passes}
use Rattle.mtl_parse.proofs.TokenLexemes.{name_byte}

-- a token that was found is sound
abbrev pub SoundIfFound : Lexeme → Type 0
SoundIfFound (Found t more) = is_sound t ≡ true
SoundIfFound NoToken = Unit {0}
SoundIfFound BadNumber = Unit {0}

sign_sound : (a0 a1 a2 a3 a4 a5 a6 a7 a8 a9 a10 a11 a12 a13 a14 : Bool) → SoundIfFound (if a0 then Found Open 0 else if a1 then Found Close 0 else if a2 then Found OpenBracket 0 else if a3 then Found CloseBracket 0 else if a4 then Found Comma 0 else if a5 then Found Dot 0 else if a6 then Found Bang 0 else if a7 then Found Ampersand 0 else if a8 then Found Bar 0 else if a9 then Found (InfixLetter U) 0 else if a10 then Found (InfixLetter S) 0 else if a11 then Found (PrefixLetter F) 0 else if a12 then Found (PrefixLetter G) 0 else if a13 then Found (PrefixLetter O) 0 else if a14 then Found (PrefixLetter H) 0 else NoToken)
sign_sound true a1 a2 a3 a4 a5 a6 a7 a8 a9 a10 a11 a12 a13 a14 = refl
sign_sound false true a2 a3 a4 a5 a6 a7 a8 a9 a10 a11 a12 a13 a14 = refl
sign_sound false false true a3 a4 a5 a6 a7 a8 a9 a10 a11 a12 a13 a14 = refl
sign_sound false false false true a4 a5 a6 a7 a8 a9 a10 a11 a12 a13 a14 = refl
sign_sound false false false false true a5 a6 a7 a8 a9 a10 a11 a12 a13 a14 = refl
sign_sound false false false false false true a6 a7 a8 a9 a10 a11 a12 a13 a14 = refl
sign_sound false false false false false false true a7 a8 a9 a10 a11 a12 a13 a14 = refl
sign_sound false false false false false false false true a8 a9 a10 a11 a12 a13 a14 = refl
sign_sound false false false false false false false false true a9 a10 a11 a12 a13 a14 = refl
sign_sound false false false false false false false false false true a10 a11 a12 a13 a14 = refl
sign_sound false false false false false false false false false false true a11 a12 a13 a14 = refl
sign_sound false false false false false false false false false false false true a12 a13 a14 = refl
sign_sound false false false false false false false false false false false false true a13 a14 = refl
sign_sound false false false false false false false false false false false false false true a14 = refl
sign_sound false false false false false false false false false false false false false false true = refl
sign_sound false false false false false false false false false false false false false false false = tt

word_sound : (b : ℕ) (bs : List ℕ) → is_letter b ≡ true → SoundIfFound (word_lexeme (take_while is_name_byte (b ∷ bs)))
word_sound b bs letter =
    let goes_on : is_name_byte b ≡ true = name_byte b letter in
    let word : take_while is_name_byte (b ∷ bs) ≡ b ∷ take_while is_name_byte bs = take_while-cons is_name_byte b bs ∙ rw goes_on refl in
    let passes = run_passes is_name_byte bs in
    rw word (elim (cases_Bool (nat_le (length (b ∷ take_while is_name_byte bs)) MAX_NAME_LENGTH)) [
      | inl short ↦ rw short (rw (letter, passes, short) refl)
      | inr long ↦ rw long tt
    ])

number_sound : (run : List ℕ) → SoundIfFound (number_lexeme run)
number_sound run = by (has_leading_zero run) (nat_le (digits_value 10 run) MAX_DISTANCE) refl
  where
    by : (zero_first low : Bool) → nat_le (digits_value 10 run) MAX_DISTANCE ≡ low → SoundIfFound (if not zero_first && low then Found (Number (digits_value 10 run)) (length run - 1) else BadNumber)
    by true true h = tt
    by true false h = tt
    by false true h = h
    by false false h = tt

arrow_sound : (bs : List ℕ) → SoundIfFound (arrow_lexeme bs)
arrow_sound [] = tt
arrow_sound (b ∷ bs) = by (b == 62)
  where
    by : (v : Bool) → SoundIfFound (if v then Found Arrow 1 else NoToken)
    by true = refl
    by false = tt

pub lexeme_sound : (b : ℕ) (bs : List ℕ) → SoundIfFound (lexeme_at b bs)
lexeme_sound b bs = by (is_letter b) (is_digit b) (b == 45) refl
  where
    by : (letter digit arrow : Bool) → is_letter b ≡ letter → SoundIfFound (if letter then word_lexeme (take_while is_name_byte (b ∷ bs)) else if digit then number_lexeme (take_while is_digit (b ∷ bs)) else if arrow then arrow_lexeme bs else sign_lexeme b)
    by true digit arrow is = word_sound b bs is
    by false true arrow is = number_sound (take_while is_digit (b ∷ bs))
    by false false true is = arrow_sound bs
    by false false false is = sign_sound (b == 40) (b == 41) (b == 91) (b == 93) (b == 44) (b == 46) (b == 33) (b == 38) (b == 124) (b == 85) (b == 83) (b == 70) (b == 71) (b == 79) (b == 72)

-- the tokens are sound, and not more than the bytes
abbrev SoundTokens : ℕ → Result (List Placed) FormulaFault → Type 0
SoundTokens n (Ok ps) = (list_all (λ p. is_sound p.token) ps ≡ true) × (length ps ≤ n)
SoundTokens n (Err e) = Unit {0}

fewer : (n : ℕ) (r : Result (List Placed) FormulaFault) → SoundTokens n r → SoundTokens (suc n) r
fewer n (Ok ps) h = let few = h.1 in (h.0, omega arith)
fewer n (Err e) h = tt

one_more : (n : ℕ) (p : Placed) (r : Result (List Placed) FormulaFault) → is_sound p.token ≡ true → SoundTokens n r → SoundTokens (suc n) (with_token p r)
one_more n p (Ok ps) s h = let few = h.1 in (rw s h.0, omega arith)
one_more n p (Err e) s h = tt

then_sound : (n place : ℕ) (l : Lexeme) (after : ℕ → Result (List Placed) FormulaFault) → SoundIfFound l → ((more : ℕ) → SoundTokens n (after more)) → SoundTokens (suc n) (then_tokens place l after)
then_sound n place (Found t more) after s h = one_more n (record { token = t; byte = place }) (after more) s (h more)
then_sound n place NoToken after s h = tt
then_sound n place BadNumber after s h = tt

sound_from : (bytes : List ℕ) (belong place : ℕ) → SoundTokens (length bytes) (tokens_from belong place bytes)
sound_from [] zero place = (refl, omega arith)
sound_from [] (suc belong) place = (refl, omega arith)
sound_from (b ∷ bs) (suc belong) place = fewer (length bs) (tokens_from belong (place + 1) bs) (sound_from bs belong (place + 1))
sound_from (b ∷ bs) zero place = by (λ n. sound_from bs n (place + 1)) (is_blank b)
  where
    by : ((n : ℕ) → SoundTokens (length bs) (tokens_from n (place + 1) bs)) → (v : Bool)
        → SoundTokens (suc (length bs)) (if v then tokens_from 0 (place + 1) bs else then_tokens place (lexeme_at b bs) (λ more. tokens_from more (place + 1) bs))
    by on true = fewer (length bs) (tokens_from 0 (place + 1) bs) (on 0)
    by on false = then_sound (length bs) place (lexeme_at b bs) (λ more. tokens_from more (place + 1) bs) (lexeme_sound b bs) on

-- words are names, and numbers at most 10^18
pub tokens-sound : (text : List ℕ) (ps : List Placed) → tokens_of text ≡ Ok ps → list_all (λ p. is_sound p.token) ps ≡ true
tokens-sound text ps h = (subst (SoundTokens (length text)) h (sound_from text 0 0)).0

pub tokens-few : (text : List ℕ) (ps : List Placed) → tokens_of text ≡ Ok ps → length ps ≤ length text
tokens-few text ps h = (subst (SoundTokens (length text)) h (sound_from text 0 0)).1

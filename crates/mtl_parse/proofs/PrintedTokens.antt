-- The tokens of printed bytes, wherever they stand and whatever stands behind them.
use Rattle.std.proofs.Common.{◌≡◌, ◌∙◌, ap, refl, arith, rules, ℕ, ◌+◌, ◌-◌, ◌^◌, ◌<◌, zero, suc, Bool, true, false, List, [], ◌∷◌, ◌++◌, length, get_or, Option, Some, None, Result, Ok, Err}
use Rattle.std.specs.Prelude.{nat_le, take_while}
use Rattle.std.specs.List.{list_all}
use Rattle.std.specs.Fmt.{decimal}
use Rattle.std.specs.Str.Parse.{digits_value}
use Rattle.std.proofs.lemmas.Bool.Decides.{nat_tests}
use Rattle.std.proofs.lemmas.Fmt.{decimal_digit, decimal_nonempty, digits_decimal, digits_value-decimal, first_decimal}
use Rattle.std.proofs.lemmas.List.Sums.{take_while-cons}
use Rattle.std.proofs.lemmas.Str.Parse.{IsNumeralModel, numerals_by_value}
use Rattle.mt_model.specs.declared.limits.TheConstants.{MAX_DISTANCE, MAX_NAME_LENGTH}
use Rattle.mt_model.specs.Name.{is_digit, is_letter, is_name, is_name_byte}
use Rattle.mtl_parse.specs.declared.fault.FormulaFault.{FormulaFault}
use Rattle.mtl_parse.specs.Tokens.{Found, Placed, Token, Number, Word, has_leading_zero, is_blank, lexeme_at, number_lexeme, tokens_from, with_token, word_lexeme}
use Rattle.mtl_parse.specs.FormulaOf.{tokens_in}
use Rattle.std.proofs.lemmas.Bool.{and_parts}
use Rattle.mt_model.proofs.TruthLemmas.{and_3}

abbrev pub without_places : Result (List Placed) FormulaFault → Option (List Token)
without_places (Ok ps) = Some (tokens_in ps)
without_places (Err f) = None

-- the bytes are these tokens, wherever in a text they stand
pub record Scans (bytes : List ℕ) (ts : List Token) : Type 0 where
  pub at : (place : ℕ) → without_places (tokens_from 0 place bytes) ≡ Some ts

-- the first byte of a list, if it has one, passes a test
abbrev pub begins_with : (ℕ → Bool) → List ℕ → Bool
begins_with test [] = false
begins_with test (b ∷ bs) = test b

with_first : (p : Placed) (r : Result (List Placed) FormulaFault) (ts : List Token) → without_places r ≡ Some ts → without_places (with_token p r) ≡ Some (p.token ∷ ts)
with_first p (Ok ps) ts h = cc
with_first p (Err f) ts h = absurd (cc)

-- the bytes that belong to a token are passed over
pub passed : (inner rest : List ℕ) (place next : ℕ) → next ≡ place + length inner → tokens_from (length inner) place (inner ++ rest) ≡ tokens_from 0 next rest
passed [] rest place next at = let same : place ≡ next = omega arith in ap (λ n. tokens_from 0 n rest) same
passed (b ∷ bs) rest place next at = passed bs rest (place + 1) next (omega arith)

pub scans-blank : {rest : List ℕ} {ts : List Token} (b : ℕ) → is_blank b ≡ true → Scans rest ts → Scans (b ∷ rest) ts
scans-blank b blank s = record { at = λ place. rw blank (s.at (place + 1)) }

-- a token of a byte and those that belong to it
pub scans-token : {rest : List ℕ} {ts : List Token} (b : ℕ) (inner : List ℕ) (t : Token) → is_blank b ≡ false
    → lexeme_at b (inner ++ rest) ≡ Found t (length inner) → Scans rest ts → Scans (b ∷ inner ++ rest) (t ∷ ts)
scans-token {rest} {ts} b inner t solid lexeme s = record {
  at = λ place. rw (solid, lexeme) (
      with_first (record { token = t; byte = place }) (tokens_from (length inner) (place + 1) (inner ++ rest)) ts (
      ap without_places (passed inner rest (place + 1) (place + 1 + length inner) refl) ∙ s.at (place + 1 + length inner)));
}

-- a run that is cut off by what stands behind it
pub run : (test : ℕ → Bool) (bytes rest : List ℕ) → list_all test bytes ≡ true → begins_with test rest ≡ false → take_while test (bytes ++ rest) ≡ bytes
run test [] [] passes cut = refl
run test [] (c ∷ cs) passes cut = take_while-cons test c cs ∙ rw cut refl
run test (b ∷ bs) rest passes cut =
    let first : test b ≡ true = (and_parts (test b) (list_all test bs) passes).0 in
    take_while-cons test b (bs ++ rest) ∙ rw first (ap (λ cs. b ∷ cs) (run test bs rest (and_parts (test b) (list_all test bs) passes).1 cut))

pub letter_no_blank : (b : ℕ) → is_letter b ≡ true → is_blank b ≡ false
letter_no_blank b h = grind (arith, nat_tests)

pub digit_no_blank : (b : ℕ) → is_digit b ≡ true → is_blank b ≡ false
digit_no_blank b h = grind (arith, nat_tests)

digit_no_letter : (b : ℕ) → is_digit b ≡ true → is_letter b ≡ false
digit_no_letter b h = grind (arith, nat_tests)

-- what does not go on with a word does not go on with a number
digit_in_word : (b : ℕ) → is_name_byte b ≡ false → is_digit b ≡ false
digit_in_word b h = grind (arith, nat_tests)

cuts_number : (rest : List ℕ) → begins_with is_name_byte rest ≡ false → begins_with is_digit rest ≡ false
cuts_number [] cut = refl
cuts_number (b ∷ bs) cut = digit_in_word b cut

pub name_passes : (b : ℕ) (bs : List ℕ) → is_letter b ≡ true → list_all is_name_byte bs ≡ true → list_all is_name_byte (b ∷ bs) ≡ true
name_passes b bs letter passes = rw (letter, passes) refl

pub word_here : (b : ℕ) (bs : List ℕ) → is_letter b ≡ true → lexeme_at b bs ≡ word_lexeme (take_while is_name_byte (b ∷ bs))
word_here b bs letter = rw letter refl

pub whole_word : (b : ℕ) (bs : List ℕ) → nat_le (length (b ∷ bs)) MAX_NAME_LENGTH ≡ true → word_lexeme (b ∷ bs) ≡ Found (Word (b ∷ bs)) (length bs)
whole_word b bs short = rw short (ap (Found (Word (b ∷ bs))) (let less : length (b ∷ bs) - 1 ≡ length bs = omega arith in less))

-- a name is a word
pub scans-word : {rest : List ℕ} {ts : List Token} (name : List ℕ) → is_name name ≡ true → begins_with is_name_byte rest ≡ false → Scans rest ts → Scans (name ++ rest) (Word name ∷ ts)
scans-word [] name cut s = absurd (cc)
scans-word {rest} (b ∷ bs) name cut s =
    let parts = and_3 (is_letter b) (list_all is_name_byte bs) (nat_le (length (b ∷ bs)) MAX_NAME_LENGTH) name in
    let whole = run is_name_byte (b ∷ bs) rest (name_passes b bs parts.0 parts.1) cut in
    scans-token b bs (Word (b ∷ bs)) (letter_no_blank b parts.0) (word_here b (bs ++ rest) parts.0 ∙ ap word_lexeme whole ∙ whole_word b bs parts.2) s

pub digits_model : IsNumeralModel (λ ds. list_all is_digit ds ≡ true) (digits_value 10)
digits_model = numerals_by_value (λ ds. list_all is_digit ds ≡ true) (search rules)

not_zero_first : (ds : List ℕ) → 48 < get_or ds 0 0 → has_leading_zero ds ≡ false
not_zero_first [] first = refl
not_zero_first (b ∷ []) first = refl
not_zero_first (b ∷ c ∷ bs) first = grind (arith, nat_tests)

pub no_leading_zero : (n : ℕ) → n < 2 ^ 64 → has_leading_zero (decimal n) ≡ false
no_leading_zero zero small = rw (decimal_digit 0 (omega arith)) refl
no_leading_zero (suc n) small = not_zero_first (decimal (suc n)) (first_decimal (suc n) (omega arith) small)

pub number_here : (b : ℕ) (bs : List ℕ) → is_digit b ≡ true → lexeme_at b bs ≡ number_lexeme (take_while is_digit (b ∷ bs))
number_here b bs digit = let other : is_letter b ≡ false = digit_no_letter b digit in rw (other, digit) refl

pub whole_number : (n b : ℕ) (bs : List ℕ) → has_leading_zero (b ∷ bs) ≡ false → digits_value 10 (b ∷ bs) ≡ n → nat_le n MAX_DISTANCE ≡ true → number_lexeme (b ∷ bs) ≡ Found (Number n) (length bs)
whole_number n b bs plain value within = rw (value, plain, within) (ap (Found (Number n)) (let less : length (b ∷ bs) - 1 ≡ length bs = omega arith in less))

-- a run of digits is a number
digits : {rest : List ℕ} {ts : List Token} (n : ℕ) (ds : List ℕ) → list_all is_digit ds ≡ true → 0 < length ds → has_leading_zero ds ≡ false
    → digits_value 10 ds ≡ n → nat_le n MAX_DISTANCE ≡ true → begins_with is_digit rest ≡ false → Scans rest ts
    → Scans (ds ++ rest) (Number n ∷ ts)
digits n [] passes some plain value within cut s = absurd (omega arith)
digits {rest} n (b ∷ bs) passes some plain value within cut s =
    let digit = (and_parts (is_digit b) (list_all is_digit bs) passes).0 in
    let whole = run is_digit (b ∷ bs) rest passes cut in
    scans-token b bs (Number n) (digit_no_blank b digit) (number_here b (bs ++ rest) digit ∙ ap number_lexeme whole ∙ whole_number n b bs plain value within) s

-- a number within the limit
pub scans-number : {rest : List ℕ} {ts : List Token} (n : ℕ) → nat_le n MAX_DISTANCE ≡ true → begins_with is_name_byte rest ≡ false → Scans rest ts → Scans (decimal n ++ rest) (Number n ∷ ts)
scans-number {rest} n within cut s =
    let small : n < 2 ^ 64 = grind (arith, nat_tests) in
    digits n (decimal n) (digits_decimal digits_model n small) (decimal_nonempty n small) (no_leading_zero n small) (digits_value-decimal digits_model n small) within (cuts_number rest cut) s

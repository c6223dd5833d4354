-- What is found at a byte, as a token's text.
use Rattle.std.proofs.Common.{◌≡◌, ◌∙◌, sym, ap, subst, refl, arith, ℕ, suc, ◌-◌, ◌^◌, ◌<◌, ◌==◌, Bool, true, false, List, [], ◌∷◌, ◌++◌, length, drop, Some}
use Rattle.std.specs.Prelude.{◌&&◌, not, nat_le, nat_lt, take_while, IfSome, if◌then◌else◌}
use Rattle.std.specs.List.{list_all}
use Rattle.std.specs.Fmt.{decimal}
use Rattle.std.specs.Str.Parse.{digits_value}
use Rattle.std.proofs.lemmas.Bool.Decides.{nat_tests}
use Rattle.std.proofs.lemmas.Fmt.{decimal_nonempty, digits_decimal, digits_value-decimal}
use Rattle.std.proofs.lemmas.List.Sums.{take_while-cons}
use Rattle.decimal.specs.Laws.{WritesNumber}
use Rattle.decimal.specs.Numbers.{is_number, number_below}
use Rattle.decimal.proofs.Written.{number-sound}
use Rattle.mt_model.specs.declared.limits.TheConstants.{MAX_DISTANCE, MAX_NAME_LENGTH}
use Rattle.mt_model.specs.Name.{is_digit, is_letter, is_name, is_name_byte}
use Rattle.mtl_parse.specs.Tokens.{U, S, F, G, O, H, Token, Open, Close, OpenBracket, CloseBracket, Comma, Dot, Bang, Ampersand, Bar, Arrow, InfixLetter, PrefixLetter, Number, Word, Lexeme, Found, NoToken, BadNumber, arrow_lexeme, has_leading_zero, is_blank, lexeme_at, number_lexeme, sign_lexeme, word_lexeme}
use Rattle.mtl_parse.specs.Machine.{is_sound}
use Rattle.mtl_parse.specs.TokenTexts.{is_longest, token_text}
use Rattle.mtl_parse.proofs.Digits.{run_passes}
use Rattle.mtl_parse.proofs.PrintedTokens.{begins_with, digit_no_blank, digits_model, letter_no_blank, name_passes, no_leading_zero, number_here, run, whole_number, whole_word, word_here}
use Rattle.std.proofs.lemmas.Bool.{not-true, and_parts}
use Rattle.mt_model.proofs.TruthLemmas.{and_3}

-- the token's text stands at these bytes, of which so many follow the first, and is as long as it can be
pub record StandsAt (b : ℕ) (bs : List ℕ) (t : Token) (more : ℕ) : Type 0 where
  pub text : b ∷ bs ≡ token_text t ++ drop more bs
  pub longest : is_longest t (drop more bs) ≡ true
  pub size : length (token_text t) ≡ suc more

-- a token that was found stands there
abbrev StandsIfFound : ℕ → List ℕ → Lexeme → Type 0
StandsIfFound b bs (Found t more) = StandsAt b bs t more
StandsIfFound b bs NoToken = Unit {0}
StandsIfFound b bs BadNumber = Unit {0}

-- a byte that is a token by itself, before other cases
sign : (b n : ℕ) (bs : List ℕ) (t : Token) (l : Lexeme) → token_text t ≡ n ∷ [] → is_longest t bs ≡ true → StandsIfFound b bs l → StandsIfFound b bs (if b == n then Found t 0 else l)
sign b n bs t l text longest others = by (b == n) refl
  where
    by : (v : Bool) → (b == n) ≡ v → StandsIfFound b bs (if v then Found t 0 else l)
    by true test =
        let same : b ≡ n = grind (arith, nat_tests) in
        record { text = ap (λ c. c ∷ bs) same ∙ ap (λ u. u ++ bs) (sym text); longest = longest; size = ap length text }
    by false test = others

-- nothing goes on with a token of one byte
alone : (t : Token) → ((b : ℕ) (bs : List ℕ) → is_longest t (b ∷ bs) ≡ true) → (bs : List ℕ) → is_longest t bs ≡ true
alone t none [] = refl
alone t none (b ∷ bs) = none b bs

sign_stands : (b : ℕ) (bs : List ℕ) → StandsIfFound b bs (sign_lexeme b)
sign_stands b bs =
    sign b 40 bs Open _ refl (alone Open (λ b bs. refl) bs) (
    sign b 41 bs Close _ refl (alone Close (λ b bs. refl) bs) (
    sign b 91 bs OpenBracket _ refl (alone OpenBracket (λ b bs. refl) bs) (
    sign b 93 bs CloseBracket _ refl (alone CloseBracket (λ b bs. refl) bs) (
    sign b 44 bs Comma _ refl (alone Comma (λ b bs. refl) bs) (
    sign b 46 bs Dot _ refl (alone Dot (λ b bs. refl) bs) (
    sign b 33 bs Bang _ refl (alone Bang (λ b bs. refl) bs) (
    sign b 38 bs Ampersand _ refl (alone Ampersand (λ b bs. refl) bs) (
    sign b 124 bs Bar _ refl (alone Bar (λ b bs. refl) bs) (
    sign b 85 bs (InfixLetter U) _ refl (alone (InfixLetter U) (λ b bs. refl) bs) (
    sign b 83 bs (InfixLetter S) _ refl (alone (InfixLetter S) (λ b bs. refl) bs) (
    sign b 70 bs (PrefixLetter F) _ refl (alone (PrefixLetter F) (λ b bs. refl) bs) (
    sign b 71 bs (PrefixLetter G) _ refl (alone (PrefixLetter G) (λ b bs. refl) bs) (
    sign b 79 bs (PrefixLetter O) _ refl (alone (PrefixLetter O) (λ b bs. refl) bs) (
    sign b 72 bs (PrefixLetter H) _ refl (alone (PrefixLetter H) (λ b bs. refl) bs) tt))))))))))))))

arrow_stands : (b : ℕ) (bs : List ℕ) → b ≡ 45 → StandsIfFound b bs (arrow_lexeme bs)
arrow_stands b [] is = tt
arrow_stands b (c ∷ cs) is = by (c == 62) refl
  where
    by : (v : Bool) → (c == 62) ≡ v → StandsIfFound b (c ∷ cs) (if v then Found Arrow 1 else NoToken)
    by true test =
        let second : c ≡ 62 = grind (arith, nat_tests) in
        record { text = ap (λ x. x ∷ c ∷ cs) is ∙ ap (λ x. 45 ∷ x ∷ cs) second; longest = alone Arrow (λ b bs. refl) cs; size = refl }
    by false test = tt

-- the longest run of bytes that pass, and the bytes after it
record Run (test : ℕ → Bool) (bytes : List ℕ) : Type 0 where
  split : bytes ≡ take_while test bytes ++ drop (length (take_while test bytes)) bytes
  cut : begins_with test (drop (length (take_while test bytes)) bytes) ≡ false

longest_run : (test : ℕ → Bool) (bytes : List ℕ) → Run test bytes
longest_run test [] = record { split = refl; cut = refl }
longest_run test (b ∷ bs) = by (test b) refl (longest_run test bs)
  where
    by : (v : Bool) → test b ≡ v → Run test bs → Run test (b ∷ bs)
    by true passes r =
        let one_more : take_while test (b ∷ bs) ≡ b ∷ take_while test bs = take_while-cons test b bs ∙ rw passes refl in
        record { split = rw one_more (ap (λ l. b ∷ l) r.split); cut = rw one_more r.cut }
    by false ends r =
        let none : take_while test (b ∷ bs) ≡ [] = take_while-cons test b bs ∙ rw ends refl in
        record { split = rw none refl; cut = rw none ends }

-- a byte that passes, and those of the run after it
record RunAt (test : ℕ → Bool) (b : ℕ) (bs : List ℕ) : Type 0 where
  run : take_while test (b ∷ bs) ≡ b ∷ take_while test bs
  split : b ∷ bs ≡ take_while test (b ∷ bs) ++ drop (length (take_while test (b ∷ bs)) - 1) bs
  cut : begins_with test (drop (length (take_while test (b ∷ bs)) - 1) bs) ≡ false
  size : length (take_while test (b ∷ bs)) ≡ suc (length (take_while test (b ∷ bs)) - 1)

run_at : (test : ℕ → Bool) (b : ℕ) (bs : List ℕ) → test b ≡ true → RunAt test b bs
run_at test b bs passes =
    let one_more : take_while test (b ∷ bs) ≡ b ∷ take_while test bs = take_while-cons test b bs ∙ rw passes refl in
    let less : length (b ∷ take_while test bs) - 1 ≡ length (take_while test bs) = omega arith in
    let r = longest_run test bs in
    record {
      run = one_more;
      split = rw one_more (rw less (ap (λ l. b ∷ l) r.split));
      cut = rw one_more (rw less r.cut);
      size = rw one_more (rw less refl);
    }

not_going_on : (t : Token) (test : ℕ → Bool) → ((b : ℕ) (bs : List ℕ) → is_longest t (b ∷ bs) ≡ not (test b)) → (rest : List ℕ) → begins_with test rest ≡ false → is_longest t rest ≡ true
not_going_on t test is [] cut = refl
not_going_on t test is (b ∷ bs) cut = is b bs ∙ ap not cut

pub name_byte : (b : ℕ) → is_letter b ≡ true → is_name_byte b ≡ true
name_byte b letter = rw letter refl

word_stands : (b : ℕ) (bs : List ℕ) → is_letter b ≡ true → StandsIfFound b bs (word_lexeme (take_while is_name_byte (b ∷ bs)))
word_stands b bs letter = by (nat_le (length (take_while is_name_byte (b ∷ bs))) MAX_NAME_LENGTH)
  where
    by : (v : Bool) → StandsIfFound b bs (if v then Found (Word (take_while is_name_byte (b ∷ bs))) (length (take_while is_name_byte (b ∷ bs)) - 1) else NoToken)
    by true =
        let r = run_at is_name_byte b bs (name_byte b letter) in
        record {
          text = r.split;
          longest = not_going_on (Word (take_while is_name_byte (b ∷ bs))) is_name_byte (λ b bs. refl)
              (drop (length (take_while is_name_byte (b ∷ bs)) - 1) bs) r.cut;
          size = r.size;
        }
    by false = tt

-- a run of digits that is a number is what is written of its value
is_number_run : (run : List ℕ) → list_all is_digit run ≡ true → 0 < length run → has_leading_zero run ≡ false → is_number run ≡ true
is_number_run [] digits some plain = absurd (omega arith)
is_number_run (b ∷ []) digits some plain = (and_parts (is_digit b) true digits).0
is_number_run (b ∷ c ∷ bs) digits some plain = rw plain digits

pub number_written : (run : List ℕ) → list_all is_digit run ≡ true → 0 < length run → has_leading_zero run ≡ false
    → nat_le (digits_value 10 run) MAX_DISTANCE ≡ true → decimal (digits_value 10 run) ≡ run
number_written run digits some plain within =
    let form = is_number_run run digits some plain in
    let below : nat_lt (digits_value 10 run) (2 ^ 64) ≡ true = grind (arith, nat_tests) in
    let read : number_below (2 ^ 64) run ≡ Some (digits_value 10 run) = rw (form, below) refl in
    let w : WritesNumber (2 ^ 64) run (digits_value 10 run) = subst (λ o. IfSome o (WritesNumber (2 ^ 64) run)) read (number-sound (2 ^ 64) run (omega arith)) in
    sym w.written

number_stands : (b : ℕ) (bs : List ℕ) → is_digit b ≡ true → StandsIfFound b bs (number_lexeme (take_while is_digit (b ∷ bs)))
number_stands b bs digit = by (has_leading_zero (take_while is_digit (b ∷ bs))) (nat_le (digits_value 10 (take_while is_digit (b ∷ bs))) MAX_DISTANCE) refl refl
  where
    by : (zero_first low : Bool) → has_leading_zero (take_while is_digit (b ∷ bs)) ≡ zero_first → nat_le (digits_value 10 (take_while is_digit (b ∷ bs))) MAX_DISTANCE ≡ low
        → StandsIfFound b bs (if not zero_first && low then Found (Number (digits_value 10 (take_while is_digit (b ∷ bs)))) (length (take_while is_digit (b ∷ bs)) - 1) else BadNumber)
    by true low plain within = tt
    by false false plain within = tt
    by false true plain within =
        let r = run_at is_digit b bs digit in
        let some : 0 < length (take_while is_digit (b ∷ bs)) = let size = r.size in omega arith in
        let written = number_written (take_while is_digit (b ∷ bs)) (run_passes is_digit (b ∷ bs)) some plain within in
        record {
          text = r.split ∙ ap (λ u. u ++ drop (length (take_while is_digit (b ∷ bs)) - 1) bs) (sym written);
          longest = not_going_on (Number (digits_value 10 (take_while is_digit (b ∷ bs)))) is_digit (λ b bs. refl) (drop (length (take_while is_digit (b ∷ bs)) - 1) bs) r.cut;
          size = ap length written ∙ r.size;
        }

stands : (b : ℕ) (bs : List ℕ) → StandsIfFound b bs (lexeme_at b bs)
stands b bs = by (is_letter b) (is_digit b) (b == 45) refl refl refl
  where
    by : (letter digit arrow : Bool) → is_letter b ≡ letter → is_digit b ≡ digit → (b == 45) ≡ arrow → StandsIfFound b bs (if letter then word_lexeme (take_while is_name_byte (b ∷ bs)) else if digit then number_lexeme (take_while is_digit (b ∷ bs)) else if arrow then arrow_lexeme bs else sign_lexeme b)
    by true digit arrow l d a = word_stands b bs l
    by false true arrow l d a = number_stands b bs d
    by false false true l d a = arrow_stands b bs (let is : b ≡ 45 = grind (arith, nat_tests) in is)
    by false false false l d a = sign_stands b bs

-- a token that is found stands there
pub found-stands : (b : ℕ) (bs : List ℕ) (t : Token) (more : ℕ) → lexeme_at b bs ≡ Found t more → StandsAt b bs t more
found-stands b bs t more is = subst (StandsIfFound b bs) is (stands b bs)

-- only a digit begins a number out of form, and it begins nothing else that is no token
abbrev IsOfKind : ℕ → Lexeme → Type 0
IsOfKind b (Found t more) = Unit {0}
IsOfKind b NoToken = is_digit b ≡ false
IsOfKind b BadNumber = is_digit b ≡ true

letter_no_digit : (b : ℕ) → is_letter b ≡ true → is_digit b ≡ false
letter_no_digit b letter = grind (arith, nat_tests)

word_kind : (b : ℕ) (bytes : List ℕ) → is_letter b ≡ true → IsOfKind b (word_lexeme bytes)
word_kind b bytes letter = by (nat_le (length bytes) MAX_NAME_LENGTH)
  where
    by : (v : Bool) → IsOfKind b (if v then Found (Word bytes) (length bytes - 1) else NoToken)
    by true = tt
    by false = letter_no_digit b letter

number_kind : (b : ℕ) (bytes : List ℕ) → is_digit b ≡ true → IsOfKind b (number_lexeme bytes)
number_kind b bytes digit = by (not (has_leading_zero bytes) && nat_le (digits_value 10 bytes) MAX_DISTANCE)
  where
    by : (v : Bool) → IsOfKind b (if v then Found (Number (digits_value 10 bytes)) (length bytes - 1) else BadNumber)
    by true = tt
    by false = digit

arrow_kind : (b : ℕ) (bs : List ℕ) → is_digit b ≡ false → IsOfKind b (arrow_lexeme bs)
arrow_kind b [] other = other
arrow_kind b (c ∷ cs) other = by (c == 62)
  where
    by : (v : Bool) → IsOfKind b (if v then Found Arrow 1 else NoToken)
    by true = tt
    by false = other

either : (b : ℕ) (t : Token) (l : Lexeme) (v : Bool) → IsOfKind b l → IsOfKind b (if v then Found t 0 else l)
either b t l true later = tt
either b t l false later = later

sign_kind : (b : ℕ) → is_digit b ≡ false → IsOfKind b (sign_lexeme b)
sign_kind b other =
    either b Open _ (b == 40) (
    either b Close _ (b == 41) (
    either b OpenBracket _ (b == 91) (
    either b CloseBracket _ (b == 93) (
    either b Comma _ (b == 44) (
    either b Dot _ (b == 46) (
    either b Bang _ (b == 33) (
    either b Ampersand _ (b == 38) (
    either b Bar _ (b == 124) (
    either b (InfixLetter U) _ (b == 85) (
    either b (InfixLetter S) _ (b == 83) (
    either b (PrefixLetter F) _ (b == 70) (
    either b (PrefixLetter G) _ (b == 71) (
    either b (PrefixLetter O) _ (b == 79) (
    either b (PrefixLetter H) _ (b == 72) (other)))))))))))))))

kind : (b : ℕ) (bs : List ℕ) → IsOfKind b (lexeme_at b bs)
kind b bs = by (is_letter b) (is_digit b) (b == 45) refl refl
  where
    by : (letter digit arrow : Bool) → is_letter b ≡ letter → is_digit b ≡ digit → IsOfKind b (if letter then word_lexeme (take_while is_name_byte (b ∷ bs)) else if digit then number_lexeme (take_while is_digit (b ∷ bs)) else if arrow then arrow_lexeme bs else sign_lexeme b)
    by true digit arrow l d = word_kind b (take_while is_name_byte (b ∷ bs)) l
    by false true arrow l d = number_kind b (take_while is_digit (b ∷ bs)) d
    by false false true l d = arrow_kind b bs d
    by false false false l d = sign_kind b d

pub no-digit : (b : ℕ) (bs : List ℕ) → lexeme_at b bs ≡ NoToken → is_digit b ≡ false
no-digit b bs is = subst (IsOfKind b) is (kind b bs)

pub bad-digit : (b : ℕ) (bs : List ℕ) → lexeme_at b bs ≡ BadNumber → is_digit b ≡ true
bad-digit b bs is = subst (IsOfKind b) is (kind b bs)

-- the first byte of a token's text, those after it, and that the token is found there
pub record IsFound (t : Token) (after : List ℕ) : Type 0 where
  pub first : ℕ
  pub more : List ℕ
  pub text : token_text t ≡ first ∷ more
  pub solid : is_blank first ≡ false
  pub found : lexeme_at first (more ++ after) ≡ Found t (length more)

word_cut : (bytes after : List ℕ) → is_longest (Word bytes) after ≡ true → begins_with is_name_byte after ≡ false
word_cut bytes [] h = refl
word_cut bytes (b ∷ bs) h = not-true (is_name_byte b) h

number_cut : (n : ℕ) (after : List ℕ) → is_longest (Number n) after ≡ true → begins_with is_digit after ≡ false
number_cut n [] h = refl
number_cut n (b ∷ bs) h = not-true (is_digit b) h

word_found : (bytes after : List ℕ) → is_name bytes ≡ true → is_longest (Word bytes) after ≡ true → IsFound (Word bytes) after
word_found [] after name longest = absurd (cc)
word_found (b ∷ bs) after name longest =
    let parts = and_3 (is_letter b) (list_all is_name_byte bs) (nat_le (length (b ∷ bs)) MAX_NAME_LENGTH) name in
    let whole = run is_name_byte (b ∷ bs) after (name_passes b bs parts.0 parts.1) (word_cut (b ∷ bs) after longest) in
    record { first = b; more = bs; text = refl; solid = letter_no_blank b parts.0; found = word_here b (bs ++ after) parts.0 ∙ ap word_lexeme whole ∙ whole_word b bs parts.2 }

digits_found : (n : ℕ) (ds after : List ℕ) → decimal n ≡ ds → list_all is_digit ds ≡ true → 0 < length ds → has_leading_zero ds ≡ false
    → digits_value 10 ds ≡ n → nat_le n MAX_DISTANCE ≡ true → begins_with is_digit after ≡ false → IsFound (Number n) after
digits_found n [] after is passes some plain value within cut = absurd (omega arith)
digits_found n (b ∷ bs) after is passes some plain value within cut =
    let digit = (and_parts (is_digit b) (list_all is_digit bs) passes).0 in
    let whole = run is_digit (b ∷ bs) after passes cut in
    record { first = b; more = bs; text = is; solid = digit_no_blank b digit; found = number_here b (bs ++ after) digit ∙ ap number_lexeme whole ∙ whole_number n b bs plain value within }

number_found : (n : ℕ) (after : List ℕ) → nat_le n MAX_DISTANCE ≡ true → is_longest (Number n) after ≡ true → IsFound (Number n) after
number_found n after within longest =
    let small : n < 2 ^ 64 = grind (arith, nat_tests) in
    digits_found n (decimal n) after refl (digits_decimal digits_model n small) (decimal_nonempty n small) (no_leading_zero n small)
    (digits_value-decimal digits_model n small) within (number_cut n after longest)

-- a token is found where its text stands and is as long as it can be
pub stands-found : (t : Token) (after : List ℕ) → is_sound t ≡ true → is_longest t after ≡ true → IsFound t after
stands-found Open after sound longest = record { first = 40; more = []; text = refl; solid = refl; found = refl }
stands-found Close after sound longest = record { first = 41; more = []; text = refl; solid = refl; found = refl }
stands-found OpenBracket after sound longest = record { first = 91; more = []; text = refl; solid = refl; found = refl }
stands-found CloseBracket after sound longest = record { first = 93; more = []; text = refl; solid = refl; found = refl }
stands-found Comma after sound longest = record { first = 44; more = []; text = refl; solid = refl; found = refl }
stands-found Dot after sound longest = record { first = 46; more = []; text = refl; solid = refl; found = refl }
stands-found Bang after sound longest = record { first = 33; more = []; text = refl; solid = refl; found = refl }
stands-found Ampersand after sound longest = record { first = 38; more = []; text = refl; solid = refl; found = refl }
stands-found Bar after sound longest = record { first = 124; more = []; text = refl; solid = refl; found = refl }
stands-found Arrow after sound longest = record { first = 45; more = 62 ∷ []; text = refl; solid = refl; found = refl }
stands-found (InfixLetter U) after sound longest = record { first = 85; more = []; text = refl; solid = refl; found = refl }
stands-found (InfixLetter S) after sound longest = record { first = 83; more = []; text = refl; solid = refl; found = refl }
stands-found (PrefixLetter F) after sound longest = record { first = 70; more = []; text = refl; solid = refl; found = refl }
stands-found (PrefixLetter G) after sound longest = record { first = 71; more = []; text = refl; solid = refl; found = refl }
stands-found (PrefixLetter O) after sound longest = record { first = 79; more = []; text = refl; solid = refl; found = refl }
stands-found (PrefixLetter H) after sound longest = record { first = 72; more = []; text = refl; solid = refl; found = refl }
stands-found (Number n) after sound longest = number_found n after sound longest
stands-found (Word bytes) after sound longest = word_found bytes after sound longest

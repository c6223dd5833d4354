-- Times that were written are read as what they were, and their text is short.
use Rattle.std.proofs.Common.{◌≡◌, ◌∙◌, ap, ap₂, refl, arith, ℕ, suc, ◌+◌, ◌*◌, ◌-◌, ◌<◌, ◌≤◌, ◌^◌, true, false, List, [], ◌∷◌, length, take, map, get_or, Some, None, Ok, ℤ, pos, negsuc, ◌==◌}
use Rattle.std.specs.Prelude.{All, is_none, slice_index}
use Rattle.std.specs.Char.{is_ascii_digit}
use Rattle.std.specs.Fmt.{decimal, signed_decimal}
use Rattle.std.specs.List.{filter_map, list_all, position_from, slice_split}
use Rattle.std.specs.Str.Lines.{lines, lines_of_parts, strip_carriage_return}
use Rattle.std.proofs.lemmas.Bool.Decides.{nat_tests}
use Rattle.std.proofs.lemmas.Fmt.{length-decimal-le}
use Rattle.std.proofs.lemmas.Int.{ints}
use Rattle.std.proofs.lemmas.List.{append_assoc, length-append, length-map, take_all}
use Rattle.std.proofs.lemmas.List.Elements.{All-cons, All-get_or, All-head, All-nil, All-tail, All-weaker}
use Rattle.std.proofs.lemmas.List.Splits.{length-slice_split, slice_split_at}
use Rattle.decimal.proofs.Printed.{digits-printed, signed-printed}
use Rattle.mt_model.specs.declared.limits.TheConstants.{MAX_TIME}
use Rattle.mt_model.specs.Log.{IsWithin}
use Rattle.times_read.specs.TimesOf.{first_bad, time_in, times_in}
use Rattle.times_read.proofs.Lines.{parts_cons}
use Rattle.skew_answers.specs.Laws.{TimesReadBack}
use Rattle.skew_answers.specs.Texts.{line, times_text}
use Rattle.std.proofs.lemmas.Bool.{and_parts}

-- no byte ends a line
abbrev IsClear : List ℕ → Type 0
IsClear bytes = All (λ b. 45 ≤ b) bytes

digits-clear : (ds : List ℕ) → list_all is_ascii_digit ds ≡ true → IsClear ds
digits-clear [] digits = All-nil (λ b. 45 ≤ b)
digits-clear (b ∷ bs) digits =
    let parts = and_parts (is_ascii_digit b) (list_all is_ascii_digit bs) digits in
    let is = parts.0 in
    let digit : 45 ≤ b = grind (arith, nat_tests) in
    All-cons (λ b. 45 ≤ b) b bs digit (digits-clear bs parts.1)

decimal-clear : (n : ℕ) → n < 10 ^ 64 → IsClear (decimal n)
decimal-clear n small = digits-clear (decimal n) (digits-printed n small)

time-clear : (z : ℤ) → IsWithin MAX_TIME z → IsClear (signed_decimal z)
time-clear (pos n) within = decimal-clear n (omega (arith, ints, within.low, within.high))
time-clear (negsuc n) within = All-cons (λ b. 45 ≤ b) 45 (decimal (suc n)) (omega arith) (decimal-clear (suc n) (omega (arith, ints, within.low, within.high)))

-- the last of clear bytes is no carriage return
last-clear : (bytes : List ℕ) → IsClear bytes → (slice_index bytes (length bytes - 1) == 13) ≡ false
last-clear [] clear = refl
last-clear (b ∷ bs) clear =
    let high : 45 ≤ get_or (b ∷ bs) (length (b ∷ bs) - 1) 0 = All-get_or (λ b. 45 ≤ b) (b ∷ bs) (length (b ∷ bs) - 1) 0 (omega arith) clear in
    grind (arith, nat_tests)

whole-line : (bytes : List ℕ) → IsClear bytes → strip_carriage_return bytes ≡ bytes
whole-line bytes clear = rw (last-clear bytes clear) refl

-- the lines are the numbers
lines-times : (t : List ℤ) → All (IsWithin MAX_TIME) t → lines (times_text t) ≡ map signed_decimal t
lines-times [] each = refl
lines-times (z ∷ t) each =
    let number = signed_decimal z in
    let rest = times_text t in
    let clear = time-clear z (All-head (IsWithin MAX_TIME) z t each) in
    let none : All (λ b. (b == 10) ≡ false) number = All-weaker (λ b. 45 ≤ b) (λ b. (b == 10) ≡ false) (λ b high. grind (arith, nat_tests)) number clear in
    ap lines (append_assoc number (10 ∷ []) rest)
    ∙ ap lines_of_parts (slice_split_at (λ b. b == 10) number 10 rest none refl)
    ∙ parts_cons number (slice_split (λ b. b == 10) rest) (omega (arith, length-slice_split (λ b. b == 10) rest))
    ∙ ap₂ (λ x xs. x ∷ xs) (whole-line number clear) (lines-times t (All-tail (IsWithin MAX_TIME) z t each))

time-back : (z : ℤ) → IsWithin MAX_TIME z → time_in (signed_decimal z) ≡ Some z
time-back z within = signed-printed MAX_TIME z (omega (arith, ints)) within.low within.high

none-bad : (t : List ℤ) (n : ℕ) → All (IsWithin MAX_TIME) t → position_from (λ line. is_none (time_in line)) n (map signed_decimal t) ≡ None
none-bad [] n each = refl
none-bad (z ∷ t) n each =
    rw (time-back z (All-head (IsWithin MAX_TIME) z t each)) (none-bad t (n + 1) (All-tail (IsWithin MAX_TIME) z t each))

all-back : (t : List ℤ) → All (IsWithin MAX_TIME) t → filter_map time_in (map signed_decimal t) ≡ t
all-back [] each = refl
all-back (z ∷ t) each = rw (time-back z (All-head (IsWithin MAX_TIME) z t each)) (ap (λ xs. z ∷ xs) (all-back t (All-tail (IsWithin MAX_TIME) z t each)))

numbers-back : (t : List ℤ) → All (IsWithin MAX_TIME) t → times_in (length t) (map signed_decimal t) ≡ Ok t
numbers-back t each =
    let count : length (map signed_decimal t) ≡ length t = length-map t signed_decimal in
    let front : take (length t) (map signed_decimal t) ≡ map signed_decimal t = take_all (length t) (map signed_decimal t) (omega (arith, count)) in
    let clear : first_bad (take (length t) (map signed_decimal t)) ≡ None = ap first_bad front ∙ none-bad t 1 each in
    let same : (length (map signed_decimal t) == length t) ≡ true = grind (arith, nat_tests) in
    rw (times_in, clear, same) (ap Ok (all-back t each))

-- the text of times is read as these times
pub times-back : TimesReadBack
times-back t each = ap (times_in (length t)) (lines-times t each) ∙ numbers-back t each

time-short : (z : ℤ) → IsWithin MAX_TIME z → length (signed_decimal z) ≤ 21
time-short (pos n) within =
    let digits = length-decimal-le 20 n (omega arith) (omega (arith, ints, within.high)) (omega (arith, ints, within.high)) in
    omega (arith, digits)
time-short (negsuc n) within =
    let digits = length-decimal-le 20 (suc n) (omega arith) (omega (arith, ints, within.low)) (omega (arith, ints, within.low)) in
    omega (arith, digits)

-- a line of the text is no longer than a sign, twenty digits and its end
pub times-short : (t : List ℤ) → All (IsWithin MAX_TIME) t → length (times_text t) ≤ 22 * length t
times-short [] each = omega arith
times-short (z ∷ t) each =
    let here = time-short z (All-head (IsWithin MAX_TIME) z t each) in
    let rest = times-short t (All-tail (IsWithin MAX_TIME) z t each) in
    omega (arith, length-append (line (signed_decimal z)) (times_text t), length-append (signed_decimal z) (10 ∷ []), here, rest)

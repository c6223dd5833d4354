-- What is written at the front of words is read there.
use Rattle.std.proofs.Common.{◌≡◌, ◌∙◌, sym, ap, refl, arith, lit≤, ℕ, zero, suc, ◌^◌, ◌<◌, ◌≤◌, Bool, true, false, List, [], ◌∷◌, ◌++◌, append_assoc, length, take, drop, Option, Some, None, ℤ, pos, ◌-ℤ◌, neg_ℤ, ◌==◌}
use Rattle.std.specs.Prelude.{All, nat_lt, if◌then◌else◌, option_and_then, option_map}
use Rattle.std.specs.Fmt.{decimal, signed_decimal}
use Rattle.std.specs.List.{flat_map}
use Rattle.std.proofs.lemmas.Bool.Decides.{nat_tests}
use Rattle.std.proofs.lemmas.Int.{ints}
use Rattle.std.proofs.lemmas.List.Elements.{All-head, All-tail}
use Rattle.mt_model.specs.declared.limits.TheConstants.{MAX_ORDER}
use Rattle.mt_model.specs.declared.step.Step.{Step}
use Rattle.mt_model.specs.declared.step.Step.TheVariants as step
use Rattle.mt_model.specs.Log.{IsWithin}
use Rattle.decimal.specs.Numbers.{number_below}
use Rattle.decimal.proofs.Printed.{number-below-printed, signed-printed}
use Rattle.axiom_rules.specs.declared.literal.Atom.{Atom}
use Rattle.axiom_rules.specs.declared.literal.Atom.TheVariants as atom
use Rattle.axiom_rules.specs.declared.literal.Literal.{Literal}
use Rattle.axiom_rules.specs.declared.rule.Rule.{Rule}
use Rattle.axiom_rules.specs.Literals.{no, order_literal, yes}
use Rattle.axiom_rules.specs.Clauses.{argument_count}
use Rattle.axiom_rules.proofs.UnusedArguments.{at-most-four}
use Rattle.proof_log.specs.declared.item.Constraint.{Constraint}
use Rattle.proof_log.specs.declared.line.Hint.{Hint}
use Rattle.proof_log.specs.declared.line.Hint.TheVariants as hint
use Rattle.proof_log.specs.LinesText.{Word, atom_words, hint_words, literal_words, number_words, order_words, rule_words, step_words}
use Rattle.proof_log.specs.Reading.{Reading, argument_in, arguments_in, bound_in, byte_in, constraint_in, counted_in, hint_in, items_in, literal_in, literal_of, literal_with, made, number_in, rising_in, rule_in, step_in, step_of, three_in, two_in}
use Rattle.proof_log.specs.Spelled.{IsNumber, IsOrder, IsSameAtom, IsSpelledAtom, IsSpelledHint, IsSpelledLiteral, IsSpelledRule, IsSpelledStep, used_arguments}
use Rattle.proof_log.proofs.Giving.{made-back}
use Rattle.proof_log.proofs.ReadItems.{bound-twice}
use Rattle.std.proofs.lemmas.Bool.{ne_eqb}

abbrev before : {X : Type 0} → List Word → X → X × List Word
before rest x = (x, rest)

with_rest : {X : Type 0} (rest : List Word) (o : Option X) (x : X) → o ≡ Some x → option_map (before rest) o ≡ Some (x, rest)
with_rest rest o x is = ap (option_map (before rest)) is

pub number-written : (n : ℕ) (rest : List Word) → IsNumber n → number_in (decimal n ∷ rest) ≡ Some (n, rest)
number-written n rest is = with_rest rest (number_below (2 ^ 32) (decimal n)) n (number-below-printed (2 ^ 32) n (lit≤ tt) is)

byte-written : (n : ℕ) (rest : List Word) → n < 2 ^ 8 → byte_in (decimal n ∷ rest) ≡ Some (n, rest)
byte-written n rest is = with_rest rest (number_below (2 ^ 8) (decimal n)) n (number-below-printed (2 ^ 8) n (lit≤ tt) is)

bound-written : (c : ℤ) (rest : List Word) → IsWithin MAX_ORDER c → bound_in (signed_decimal c ∷ rest) ≡ Some (c, rest)
bound-written c rest is = with_rest rest _ c (signed-printed MAX_ORDER c (omega (arith, ints)) is.low is.high)

two-written : (a b : ℕ) (rest : List Word) → IsNumber a → IsNumber b → two_in (decimal a ∷ decimal b ∷ rest) ≡ Some ((a, b), rest)
two-written a b rest ia ib =
    ap (option_and_then (λ (x : ℕ × List Word). made (λ (n : ℕ). (x.0, n)) (number_in x.1))) (number-written a (decimal b ∷ rest) ia)
    ∙ made-back (λ (n : ℕ). (a, n)) (number_in (decimal b ∷ rest)) b rest (number-written b rest ib)

rising-written : (e x : ℕ) (rest : List Word) → IsSameAtom e x → rising_in (decimal e ∷ decimal x ∷ rest) ≡ Some ((e, x), rest)
rising-written e x rest is =
    let test : nat_lt e x ≡ true = let less = is.smaller_first in grind (arith, nat_tests) in
    ap (option_and_then (λ (a : (ℕ × ℕ) × List Word). if nat_lt a.0.0 a.0.1 then Some a else None)) (two-written e x rest (omega (arith, is.smaller_first, is.second)) is.second) ∙ (rw test refl)

three-written : (a b c : ℕ) (rest : List Word) → IsNumber a → IsNumber b → IsNumber c → three_in (decimal a ∷ decimal b ∷ decimal c ∷ rest) ≡ Some ((a, b, c), rest)
three-written a b c rest ia ib ic =
    ap (option_and_then (λ (x : (ℕ × ℕ) × List Word). made (λ (n : ℕ). (x.0.0, x.0.1, n)) (number_in x.1))) (two-written a b (decimal c ∷ rest) ia ib)
    ∙ made-back (λ (n : ℕ). (a, b, n)) (number_in (decimal c ∷ rest)) c rest (number-written c rest ic)

abbrev constraint_of : ℕ → ℕ → ℤ → Constraint
constraint_of e f c = record { e = e; f = f; c = c }

constraint-written : (e f : ℕ) (c : ℤ) (rest : List Word) → IsOrder e f c → constraint_in (decimal e ∷ decimal f ∷ signed_decimal c ∷ rest) ≡ Some (constraint_of e f c, rest)
constraint-written e f c rest is =
    ap (option_and_then (λ (x : (ℕ × ℕ) × List Word). if x.0.0 == x.0.1 then None else made (constraint_of x.0.0 x.0.1) (bound_in x.1))) (two-written e f (signed_decimal c ∷ rest) is.first is.second)
    ∙ ap (λ (b : Bool). if b then None else made (constraint_of e f) (bound_in (signed_decimal c ∷ rest))) (ne_eqb e f is.apart)
    ∙ made-back (constraint_of e f) (bound_in (signed_decimal c ∷ rest)) c rest (bound-written c rest is.bound)

pub step-written : (s : Step) (rest : List Word) → IsSpelledStep s → step_in (step_words s ++ rest) ≡ Some (s, rest)
step-written (step.Low e) rest is = made-back step.Low (number_in (decimal e ∷ rest)) e rest (number-written e rest is)
step-written (step.High e) rest is = made-back step.High (number_in (decimal e ∷ rest)) e rest (number-written e rest is)
step-written (step.Rise e) rest is = made-back step.Rise (number_in (decimal e ∷ rest)) e rest (number-written e rest is)
step-written (step.Message e) rest is = made-back step.Message (number_in (decimal e ∷ rest)) e rest (number-written e rest is)
step-written (step.Late e) rest is = made-back step.Late (number_in (decimal e ∷ rest)) e rest (number-written e rest is)
step-written (step.Under e) rest is = made-back step.Under (number_in (decimal e ∷ rest)) e rest (number-written e rest is)
step-written (step.Over e) rest is = made-back step.Over (number_in (decimal e ∷ rest)) e rest (number-written e rest is)
step-written (step.Extra k) rest is = made-back step.Extra (number_in (decimal k ∷ rest)) k rest (number-written k rest is)
step-written (step.Order e f c) rest is = made-back step_of (constraint_in (decimal e ∷ decimal f ∷ signed_decimal c ∷ rest)) (constraint_of e f c) rest (constraint-written e f c rest is)

-- the literals of an order atom
first-smaller : (e f : ℕ) (c : ℤ) → e < f → order_literal e f c ≡ yes (atom.Order e f c)
first-smaller e f c smaller =
    let test : nat_lt e f ≡ true = grind (arith, nat_tests) in
    rw test refl

first-greater : (e f : ℕ) (c : ℤ) → e < f → order_literal f e (neg_ℤ c -ℤ pos 1) ≡ no (atom.Order e f c)
first-greater e f c smaller =
    let test : nat_lt f e ≡ false = grind (arith, nat_tests) in
    rw test (ap (λ d. no (atom.Order e f d)) (bound-twice c))

order-written : (e f : ℕ) (c : ℤ) (rest : List Word) → IsOrder e f c → literal_in (order_words e f c ++ rest) ≡ Some (order_literal e f c, rest)
order-written e f c rest is = made-back literal_of (constraint_in (decimal e ∷ decimal f ∷ signed_decimal c ∷ rest)) (constraint_of e f c) rest (constraint-written e f c rest is)

-- the literal of a sense of an atom
atom-written : (positive : Bool) (a : Atom) (rest : List Word) → IsSpelledAtom positive a → literal_in (atom_words positive a ++ rest) ≡ Some (literal_with positive a, rest)
atom-written true (atom.Order e f c) rest is =
    let order : IsOrder e f c = record { first = omega (arith, is.smaller_first, is.second); second = is.second; apart = λ same. absurd (omega (arith, is.smaller_first)); bound = is.bound } in
    order-written e f c rest order ∙ ap (λ l. Some (l, rest)) (first-smaller e f c is.smaller_first)
atom-written false (atom.Order e f c) rest is =
    let order : IsOrder f e (neg_ℤ c -ℤ pos 1) =
    record { first = is.second; second = omega (arith, is.smaller_first, is.second); apart = λ same. absurd (omega (arith, is.smaller_first)); bound = is.bound } in
    order-written f e (neg_ℤ c -ℤ pos 1) rest order ∙ ap (λ l. Some (l, rest)) (first-greater e f c is.smaller_first)
atom-written true (atom.Node k e) rest is =
    made-back (literal_with true) (made (λ n. atom.Node n.0 n.1) (two_in (decimal k ∷ decimal e ∷ rest))) (atom.Node k e) rest
    (made-back (λ n. atom.Node n.0 n.1) (two_in (decimal k ∷ decimal e ∷ rest)) (k, e) rest (two-written k e rest is.0 is.1))
atom-written false (atom.Node k e) rest is =
    made-back (literal_with false) (made (λ n. atom.Node n.0 n.1) (two_in (decimal k ∷ decimal e ∷ rest))) (atom.Node k e) rest
    (made-back (λ n. atom.Node n.0 n.1) (two_in (decimal k ∷ decimal e ∷ rest)) (k, e) rest (two-written k e rest is.0 is.1))
atom-written true (atom.First e) rest is =
    made-back (literal_with true) (made atom.First (number_in (decimal e ∷ rest))) (atom.First e) rest (made-back atom.First (number_in (decimal e ∷ rest)) e rest (number-written e rest is))
atom-written false (atom.First e) rest is =
    made-back (literal_with false) (made atom.First (number_in (decimal e ∷ rest))) (atom.First e) rest (made-back atom.First (number_in (decimal e ∷ rest)) e rest (number-written e rest is))
atom-written true (atom.Same e x) rest is =
    made-back (literal_with true) (made (λ n. atom.Same n.0 n.1) (rising_in (decimal e ∷ decimal x ∷ rest))) (atom.Same e x) rest
    (made-back (λ n. atom.Same n.0 n.1) (rising_in (decimal e ∷ decimal x ∷ rest)) (e, x) rest (rising-written e x rest is))
atom-written false (atom.Same e x) rest is =
    made-back (literal_with false) (made (λ n. atom.Same n.0 n.1) (rising_in (decimal e ∷ decimal x ∷ rest))) (atom.Same e x) rest
    (made-back (λ n. atom.Same n.0 n.1) (rising_in (decimal e ∷ decimal x ∷ rest)) (e, x) rest (rising-written e x rest is))
atom-written true (atom.Wit k i j) rest is =
    made-back (literal_with true) (made (λ n. atom.Wit n.0 n.1 n.2) (three_in (decimal k ∷ decimal i ∷ decimal j ∷ rest))) (atom.Wit k i j) rest
    (made-back (λ n. atom.Wit n.0 n.1 n.2) (three_in (decimal k ∷ decimal i ∷ decimal j ∷ rest)) (k, i, j) rest (three-written k i j rest is.0 is.1 is.2))
atom-written false (atom.Wit k i j) rest is =
    made-back (literal_with false) (made (λ n. atom.Wit n.0 n.1 n.2) (three_in (decimal k ∷ decimal i ∷ decimal j ∷ rest))) (atom.Wit k i j) rest
    (made-back (λ n. atom.Wit n.0 n.1 n.2) (three_in (decimal k ∷ decimal i ∷ decimal j ∷ rest)) (k, i, j) rest (three-written k i j rest is.0 is.1 is.2))
atom-written true (atom.Span k i j) rest is =
    made-back (literal_with true) (made (λ n. atom.Span n.0 n.1 n.2) (three_in (decimal k ∷ decimal i ∷ decimal j ∷ rest))) (atom.Span k i j) rest
    (made-back (λ n. atom.Span n.0 n.1 n.2) (three_in (decimal k ∷ decimal i ∷ decimal j ∷ rest)) (k, i, j) rest (three-written k i j rest is.0 is.1 is.2))
atom-written false (atom.Span k i j) rest is =
    made-back (literal_with false) (made (λ n. atom.Span n.0 n.1 n.2) (three_in (decimal k ∷ decimal i ∷ decimal j ∷ rest))) (atom.Span k i j) rest
    (made-back (λ n. atom.Span n.0 n.1 n.2) (three_in (decimal k ∷ decimal i ∷ decimal j ∷ rest)) (k, i, j) rest (three-written k i j rest is.0 is.1 is.2))
atom-written true (atom.Gap k i m) rest is =
    made-back (literal_with true) (made (λ n. atom.Gap n.0 n.1 n.2) (three_in (decimal k ∷ decimal i ∷ decimal m ∷ rest))) (atom.Gap k i m) rest
    (made-back (λ n. atom.Gap n.0 n.1 n.2) (three_in (decimal k ∷ decimal i ∷ decimal m ∷ rest)) (k, i, m) rest (three-written k i m rest is.0 is.1 is.2))
atom-written false (atom.Gap k i m) rest is =
    made-back (literal_with false) (made (λ n. atom.Gap n.0 n.1 n.2) (three_in (decimal k ∷ decimal i ∷ decimal m ∷ rest))) (atom.Gap k i m) rest
    (made-back (λ n. atom.Gap n.0 n.1 n.2) (three_in (decimal k ∷ decimal i ∷ decimal m ∷ rest)) (k, i, m) rest (three-written k i m rest is.0 is.1 is.2))

pub literal-written : (l : Literal) (rest : List Word) → IsSpelledLiteral l → literal_in (literal_words l ++ rest) ≡ Some (l, rest)
literal-written l rest is = atom-written l.positive l.atom rest is

-- four arguments, each read from what the one before leaves
chained : (count : ℕ) (w0 w1 w2 w3 w4 : List Word) (a b c d : ℕ) → argument_in (nat_lt 0 count) w0 ≡ Some (a, w1)
    → argument_in (nat_lt 1 count) w1 ≡ Some (b, w2) → argument_in (nat_lt 2 count) w2 ≡ Some (c, w3) → argument_in (nat_lt 3 count) w3 ≡ Some (d, w4)
    → arguments_in count w0 ≡ Some (a ∷ b ∷ c ∷ d ∷ [], w4)
chained count w0 w1 w2 w3 w4 a b c d e0 e1 e2 e3 =
    ap
    (option_and_then
    (λ (x : ℕ × List Word). option_and_then
    (λ (y : ℕ × List Word). option_and_then (λ (z : ℕ × List Word). made (λ (n : ℕ). x.0 ∷ y.0 ∷ z.0 ∷ n ∷ []) (argument_in (nat_lt 3 count) z.1)) (argument_in (nat_lt 2 count) y.1))
    (argument_in (nat_lt 1 count) x.1)))
    e0
    ∙ ap
    (option_and_then
    (λ (y : ℕ × List Word). option_and_then (λ (z : ℕ × List Word). made (λ (n : ℕ). a ∷ y.0 ∷ z.0 ∷ n ∷ []) (argument_in (nat_lt 3 count) z.1)) (argument_in (nat_lt 2 count) y.1)))
    e1
    ∙ ap (option_and_then (λ (z : ℕ × List Word). made (λ (n : ℕ). a ∷ b ∷ z.0 ∷ n ∷ []) (argument_in (nat_lt 3 count) z.1))) e2
    ∙ made-back (λ (n : ℕ). a ∷ b ∷ c ∷ n ∷ []) (argument_in (nat_lt 3 count) w3) d w4 e3

zero-written : (n : ℕ) (rest : List Word) → n ≡ 0 → argument_in false rest ≡ Some (n, rest)
zero-written n rest is = ap (λ (k : ℕ). Some (k, rest)) (sym is)

arguments-written : (count a b c d : ℕ) (rest : List Word) → count ≤ 4 → All IsNumber (take count (a ∷ b ∷ c ∷ d ∷ [])) → All (λ (n : ℕ). n ≡ 0) (drop count (a ∷ b ∷ c ∷ d ∷ []))
    → arguments_in count (number_words (take count (a ∷ b ∷ c ∷ d ∷ [])) ++ rest) ≡ Some (a ∷ b ∷ c ∷ d ∷ [], rest)
arguments-written zero a b c d rest few used unused =
    chained 0 rest rest rest rest rest a b c d (zero-written a rest (unused 0 0 (omega arith))) (zero-written b rest (unused 1 0 (omega arith)))
    (zero-written c rest (unused 2 0 (omega arith))) (zero-written d rest (unused 3 0 (omega arith)))
arguments-written (suc zero) a b c d rest few used unused =
    chained 1 (decimal a ∷ rest) rest rest rest rest a b c d (number-written a rest (used 0 0 (omega arith))) (zero-written b rest (unused 0 0 (omega arith)))
    (zero-written c rest (unused 1 0 (omega arith))) (zero-written d rest (unused 2 0 (omega arith)))
arguments-written (suc (suc zero)) a b c d rest few used unused =
    chained 2 (decimal a ∷ decimal b ∷ rest) (decimal b ∷ rest) rest rest rest a b c d (number-written a (decimal b ∷ rest) (used 0 0 (omega arith)))
    (number-written b rest (used 1 0 (omega arith))) (zero-written c rest (unused 0 0 (omega arith))) (zero-written d rest (unused 1 0 (omega arith)))
arguments-written (suc (suc (suc zero))) a b c d rest few used unused =
    chained 3 (decimal a ∷ decimal b ∷ decimal c ∷ rest) (decimal b ∷ decimal c ∷ rest) (decimal c ∷ rest) rest rest a b c d
    (number-written a (decimal b ∷ decimal c ∷ rest) (used 0 0 (omega arith))) (number-written b (decimal c ∷ rest) (used 1 0 (omega arith)))
    (number-written c rest (used 2 0 (omega arith))) (zero-written d rest (unused 0 0 (omega arith)))
arguments-written (suc (suc (suc (suc zero)))) a b c d rest few used unused =
    chained 4 (decimal a ∷ decimal b ∷ decimal c ∷ decimal d ∷ rest) (decimal b ∷ decimal c ∷ decimal d ∷ rest) (decimal c ∷ decimal d ∷ rest) (decimal d ∷ rest) rest a b c d
    (number-written a (decimal b ∷ decimal c ∷ decimal d ∷ rest) (used 0 0 (omega arith)))
    (number-written b (decimal c ∷ decimal d ∷ rest) (used 1 0 (omega arith))) (number-written c (decimal d ∷ rest) (used 2 0 (omega arith)))
    (number-written d rest (used 3 0 (omega arith)))
arguments-written (suc (suc (suc (suc (suc count))))) a b c d rest few used unused = absurd (omega arith)

four-written : (count : ℕ) (args : List ℕ) (rest : List Word) → count ≤ 4 → length args ≡ 4 → All IsNumber (take count args)
    → All (λ (n : ℕ). n ≡ 0) (drop count args) → arguments_in count (number_words (take count args) ++ rest) ≡ Some (args, rest)
four-written count [] rest few four used unused = absurd (omega arith)
four-written count (a ∷ []) rest few four used unused = absurd (omega arith)
four-written count (a ∷ b ∷ []) rest few four used unused = absurd (omega arith)
four-written count (a ∷ b ∷ c ∷ []) rest few four used unused = absurd (omega arith)
four-written count (a ∷ b ∷ c ∷ d ∷ []) rest few four used unused = arguments-written count a b c d rest few used unused
four-written count (a ∷ b ∷ c ∷ d ∷ e ∷ args) rest few four used unused = absurd (omega arith)

abbrev rule_of : ℕ → List ℕ → Rule
rule_of number args = record { number = number; args = args }

rule-written : (r : Rule) (rest : List Word) → IsSpelledRule r → rule_in (rule_words r ++ rest) ≡ Some (r, rest)
rule-written r rest is =
    ap (option_and_then (λ (n : ℕ × List Word). made (rule_of n.0) (arguments_in (argument_count n.0) n.1))) (byte-written r.number (number_words (used_arguments r) ++ rest) is.number)
    ∙ made-back (rule_of r.number) (arguments_in (argument_count r.number) (number_words (used_arguments r) ++ rest)) r.args rest
    (four-written (argument_count r.number) r.args rest (at-most-four r.number) is.four is.used is.unused)

pub hint-written : (h : Hint) (rest : List Word) → IsSpelledHint h → hint_in (hint_words h ++ rest) ≡ Some (h, rest)
hint-written (hint.Line n) rest is = made-back hint.Line (number_in (decimal n ∷ rest)) n rest (number-written n rest is)
hint-written (hint.Rule r) rest is = made-back hint.Rule (rule_in (rule_words r ++ rest)) r rest (rule-written r rest is)

module _ {X : Type 0} (read : List Word → Reading X) (words : X → List Word) (Valid : X → Type 0) (back : (x : X) (rest : List Word) → Valid x → read (words x ++ rest) ≡ Some (x, rest)) where
  items-written : (xs : List X) (rest : List Word) → All Valid xs → items_in read (length xs) (flat_map words xs ++ rest) ≡ Some (xs, rest)
  items-written [] rest all = refl
  items-written (x ∷ xs) rest all =
      let next = flat_map words xs ++ rest in
      let begins : read ((words x ++ flat_map words xs) ++ rest) ≡ Some (x, next) = ap read (append_assoc (words x) (flat_map words xs) rest) ∙ back x next (All-head Valid x xs all) in
      ap (option_and_then (λ (y : X × List Word). made (λ (ys : List X). y.0 ∷ ys) (items_in read (length xs) y.1))) begins
      ∙ made-back (λ (ys : List X). x ∷ ys) (items_in read (length xs) next) xs rest (items-written xs rest (All-tail Valid x xs all))

  pub counted-written : (xs : List X) (rest : List Word) → IsNumber (length xs) → All Valid xs → counted_in read (decimal (length xs) ∷ (flat_map words xs ++ rest)) ≡ Some (xs, rest)
  counted-written xs rest few all =
      ap (option_and_then (λ (n : ℕ × List Word). items_in read n.0 n.1)) (number-written (length xs) (flat_map words xs ++ rest) few) ∙ items-written xs rest all

-- What is read at the front of words is what they write.
use Rattle.std.proofs.Common.{◌≡◌, ◌∙◌, sym, ap, subst, refl, arith, lit≤, ℕ, zero, suc, ◌^◌, ◌<◌, ◌≤◌, Bool, true, false, List, [], ◌∷◌, ◌++◌, append_assoc, length, take, drop, Some, None, ℤ, pos, ◌-ℤ◌, neg_ℤ, codes, ◌==◌}
use Rattle.std.specs.Prelude.{All, IfSome, nat_lt, if◌then◌else◌, option_and_then}
use Rattle.std.specs.Fmt.{decimal, signed_decimal}
use Rattle.std.specs.List.{flat_map}
use Rattle.std.proofs.lemmas.Bool.Decides.{nat_tests}
use Rattle.std.proofs.lemmas.Int.{ints}
use Rattle.std.proofs.lemmas.List.Elements.{All-nil, All-cons}
use Rattle.mt_model.specs.declared.limits.TheConstants.{MAX_ORDER}
use Rattle.mt_model.specs.declared.step.Step.{Step}
use Rattle.mt_model.specs.declared.step.Step.TheVariants as step
use Rattle.mt_model.specs.Log.{IsWithin}
use Rattle.decimal.specs.Laws.{WritesNumber, WritesSigned}
use Rattle.decimal.specs.Numbers.{number_below, signed_up_to}
use Rattle.decimal.proofs.Written.{number-sound, signed-sound}
use Rattle.axiom_rules.specs.declared.literal.Atom.{Atom}
use Rattle.axiom_rules.specs.declared.literal.Atom.TheVariants as atom
use Rattle.axiom_rules.specs.declared.literal.Literal.{Literal}
use Rattle.axiom_rules.specs.declared.rule.Rule.{Rule}
use Rattle.axiom_rules.specs.Clauses.{argument_count}
use Rattle.axiom_rules.specs.Literals.{no, order_literal, yes}
use Rattle.axiom_rules.proofs.UnusedArguments.{at-most-four}
use Rattle.proof_log.specs.declared.item.Constraint.{Constraint}
use Rattle.proof_log.specs.declared.line.Hint.TheVariants as hint
use Rattle.proof_log.specs.LinesText.{Word, atom_words, hint_words, literal_words, number_words, order_words, rule_words, signed_word, step_words}
use Rattle.proof_log.specs.Reading.{Reading, argument_in, arguments_in, atom_in, bound_in, byte_in, constraint_in, counted_in, hint_in, items_in, literal_in, literal_of, literal_with, made, number_in, rising_in, rule_in, signed_in, step_in, step_of, three_in, two_in}
use Rattle.proof_log.specs.Spelled.{IsNumber, IsOrder, IsSameAtom, IsSpelledAtom, IsSpelledHint, IsSpelledLiteral, IsSpelledRule, IsSpelledStep}
use Rattle.proof_log.proofs.Giving.{IsRead, gives-after, gives-if, gives-made, gives-map, gives-named, gives-then, gives-weaker}

-- the words of a number, of two, of three and of a constraint without its name
abbrev pub one_word : ℕ → List Word
one_word n = decimal n ∷ []

abbrev pub two_words : ℕ × ℕ → List Word
two_words n = decimal n.0 ∷ decimal n.1 ∷ []

abbrev pub three_words : ℕ × ℕ × ℕ → List Word
three_words n = decimal n.0 ∷ decimal n.1 ∷ decimal n.2 ∷ []

abbrev pub constraint_words : Constraint → List Word
constraint_words x = decimal x.e ∷ decimal x.f ∷ signed_decimal x.c ∷ []

abbrev pub AreTwo : ℕ × ℕ → Type 0
AreTwo n = IsNumber n.0 × IsNumber n.1

abbrev pub AreRising : ℕ × ℕ → Type 0
AreRising n = IsSameAtom n.0 n.1

abbrev pub AreThree : ℕ × ℕ × ℕ → Type 0
AreThree n = IsNumber n.0 × IsNumber n.1 × IsNumber n.2

abbrev pub IsConstraint : Constraint → Type 0
IsConstraint x = IsOrder x.e x.f x.c

number-read : (ws : List Word) → IfSome (number_in ws) (IsRead one_word IsNumber ws)
number-read [] = tt
number-read (w ∷ ws) =
    gives-map (λ n. (n, ws)) (number_below (2 ^ 32) w) (WritesNumber (2 ^ 32) w) (IsRead one_word IsNumber (w ∷ ws))
    (λ n is. record { valid = is.below; words_are = ap (λ v. v ∷ ws) is.written }) (number-sound (2 ^ 32) w (lit≤ tt))

byte-read : (ws : List Word) → IfSome (byte_in ws) (IsRead one_word (λ n. n < 2 ^ 8) ws)
byte-read [] = tt
byte-read (w ∷ ws) =
    gives-map (λ n. (n, ws)) (number_below (2 ^ 8) w) (WritesNumber (2 ^ 8) w) (IsRead one_word (λ n. n < 2 ^ 8) (w ∷ ws))
    (λ n is. record { valid = is.below; words_are = ap (λ v. v ∷ ws) is.written }) (number-sound (2 ^ 8) w (lit≤ tt))

bound-read : (ws : List Word) → IfSome (bound_in ws) (IsRead (λ c. signed_decimal c ∷ []) (IsWithin MAX_ORDER) ws)
bound-read [] = tt
bound-read (w ∷ ws) =
    gives-map (λ c. (c, ws)) (signed_up_to MAX_ORDER w) (WritesSigned MAX_ORDER w) (IsRead (λ c. signed_decimal c ∷ []) (IsWithin MAX_ORDER) (w ∷ ws))
    (λ c is. record { valid = record { low = is.low; high = is.high }; words_are = ap (λ v. v ∷ ws) is.written })
    (signed-sound MAX_ORDER (omega (arith, ints)) w)

two-read : (ws : List Word) → IfSome (two_in ws) (IsRead two_words AreTwo ws)
two-read ws = gives-then (λ a. made (λ n. (a.0, n)) (number_in a.1)) (number_in ws) (IsRead one_word IsNumber ws) (IsRead two_words AreTwo ws) second (number-read ws)
  where
    second : (a : ℕ × List Word) → IsRead one_word IsNumber ws a → IfSome (made (λ n. (a.0, n)) (number_in a.1)) (IsRead two_words AreTwo ws)
    second a r =
        gives-made (λ n. (a.0, n)) (number_in a.1) (IsRead one_word IsNumber a.1) (IsRead two_words AreTwo ws)
        (λ n rest q. record { valid = (r.valid, q.valid); words_are = r.words_are ∙ ap (λ t. decimal a.0 ∷ t) q.words_are }) (number-read a.1)

rising-read : (ws : List Word) → IfSome (rising_in ws) (IsRead two_words AreRising ws)
rising-read ws = gives-then (λ a. if nat_lt a.0.0 a.0.1 then Some a else None) (two_in ws) (IsRead two_words AreTwo ws) (IsRead two_words AreRising ws) step (two-read ws)
  where
    smaller : (a b : ℕ) → nat_lt a b ≡ true → a < b
    smaller a b test = grind (arith, nat_tests)

    step : (a : (ℕ × ℕ) × List Word) → IsRead two_words AreTwo ws a → IfSome (if nat_lt a.0.0 a.0.1 then Some a else None) (IsRead two_words AreRising ws)
    step a r =
        gives-if (nat_lt a.0.0 a.0.1) (Some a) None (IsRead two_words AreRising ws)
        (λ less. record { valid = record { smaller_first = smaller a.0.0 a.0.1 less; second = r.valid.1 }; words_are = r.words_are }) (λ none. tt)

three-read : (ws : List Word) → IfSome (three_in ws) (IsRead three_words AreThree ws)
three-read ws = gives-then (λ a. made (λ n. (a.0.0, a.0.1, n)) (number_in a.1)) (two_in ws) (IsRead two_words AreTwo ws) (IsRead three_words AreThree ws) third (two-read ws)
  where
    third : (a : (ℕ × ℕ) × List Word) → IsRead two_words AreTwo ws a → IfSome (made (λ n. (a.0.0, a.0.1, n)) (number_in a.1)) (IsRead three_words AreThree ws)
    third a r =
        gives-made (λ n. (a.0.0, a.0.1, n)) (number_in a.1) (IsRead one_word IsNumber a.1) (IsRead three_words AreThree ws)
        (λ n rest q. record { valid = (r.valid.0, r.valid.1, q.valid); words_are = r.words_are ∙ ap (λ t. decimal a.0.0 ∷ decimal a.0.1 ∷ t) q.words_are }) (number-read a.1)

apart-from : (e f : ℕ) → (e == f) ≡ false → e ≡ f → ⊥
apart-from e f test same = absurd (grind (arith, nat_tests))

constraint-read : (ws : List Word) → IfSome (constraint_in ws) (IsRead constraint_words IsConstraint ws)
constraint-read ws =
    gives-then (λ a. if a.0.0 == a.0.1 then None else made (λ c. record { e = a.0.0; f = a.0.1; c = c }) (bound_in a.1)) (two_in ws)
    (IsRead two_words AreTwo ws) (IsRead constraint_words IsConstraint ws) third (two-read ws)
  where
    third : (a : (ℕ × ℕ) × List Word) → IsRead two_words AreTwo ws a
        → IfSome (if a.0.0 == a.0.1 then None else made (λ c. record { e = a.0.0; f = a.0.1; c = c }) (bound_in a.1)) (IsRead constraint_words IsConstraint ws)
    third a r =
        gives-if (a.0.0 == a.0.1) None (made (λ c. record { e = a.0.0; f = a.0.1; c = c }) (bound_in a.1)) (IsRead constraint_words IsConstraint ws) (λ same. tt)
        (λ differ. gives-made (λ c. record { e = a.0.0; f = a.0.1; c = c }) (bound_in a.1) (IsRead (λ c. signed_decimal c ∷ []) (IsWithin MAX_ORDER) a.1) (IsRead constraint_words IsConstraint ws)
        (λ c rest q. record {
          valid = record { first = r.valid.0; second = r.valid.1; apart = apart-from a.0.0 a.0.1 differ; bound = q.valid };
          words_are = r.words_are ∙ ap (λ t. decimal a.0.0 ∷ decimal a.0.1 ∷ t) q.words_are;
        }) (bound-read a.1))

pub step-read : (ws : List Word) → IfSome (step_in ws) (IsRead step_words IsSpelledStep ws)
step-read [] = tt
step-read (w ∷ ws) =
    gives-named w (codes "low") _ _ (IsRead step_words IsSpelledStep (w ∷ ws)) (single (codes "low") step.Low (λ n. refl) (λ n v. v))
    (gives-named w (codes "high") _ _ (IsRead step_words IsSpelledStep (w ∷ ws)) (single (codes "high") step.High (λ n. refl) (λ n v. v))
    (gives-named w (codes "rise") _ _ (IsRead step_words IsSpelledStep (w ∷ ws)) (single (codes "rise") step.Rise (λ n. refl) (λ n v. v))
    (gives-named w (codes "message") _ _ (IsRead step_words IsSpelledStep (w ∷ ws)) (single (codes "message") step.Message (λ n. refl) (λ n v. v))
    (gives-named w (codes "late") _ _ (IsRead step_words IsSpelledStep (w ∷ ws)) (single (codes "late") step.Late (λ n. refl) (λ n v. v))
    (gives-named w (codes "under") _ _ (IsRead step_words IsSpelledStep (w ∷ ws)) (single (codes "under") step.Under (λ n. refl) (λ n v. v))
    (gives-named w (codes "over") _ _ (IsRead step_words IsSpelledStep (w ∷ ws)) (single (codes "over") step.Over (λ n. refl) (λ n v. v))
    (gives-named w (codes "extra") _ _ (IsRead step_words IsSpelledStep (w ∷ ws)) (single (codes "extra") step.Extra (λ n. refl) (λ n v. v))
    (gives-named w (codes "order") _ _ (IsRead step_words IsSpelledStep (w ∷ ws))
    (λ is. gives-after (codes "order") step_of constraint_words IsConstraint step_words IsSpelledStep (constraint_in ws) w ws (λ x. refl) (λ x v. v) is (constraint-read ws)) tt))))))))
  where
    single : (name : Word) (make : ℕ → Step) → ((n : ℕ) → step_words (make n) ≡ name ∷ one_word n) → ((n : ℕ) → IsNumber n → IsSpelledStep (make n)) → w ≡ name
        → IfSome (made make (number_in ws)) (IsRead step_words IsSpelledStep (w ∷ ws))
    single name make text valid is = gives-after name make one_word IsNumber step_words IsSpelledStep (number_in ws) w ws text valid is (number-read ws)

-- the atom of a name, with the sign of a sense before the name
atom-read : (positive : Bool) (name : Word) (ws : List Word) → IfSome (atom_in name ws) (IsRead (atom_words positive) (IsSpelledAtom positive) (signed_word positive name ∷ ws))
atom-read positive name ws =
    gives-named name (codes "node") _ _ P (λ is. gives-after (signed (codes "node")) (λ n. atom.Node n.0 n.1) two_words AreTwo words Valid (two_in ws) (signed name) ws (λ n. refl) (λ n v. v) (ap signed is) (two-read ws))
    (gives-named name (codes "first") _ _ P (λ is. gives-after (signed (codes "first")) atom.First one_word IsNumber words Valid (number_in ws) (signed name) ws (λ n. refl) (λ n v. v) (ap signed is) (number-read ws))
    (gives-named name (codes "same") _ _ P (λ is. gives-after (signed (codes "same")) (λ n. atom.Same n.0 n.1) two_words AreRising words Valid (rising_in ws) (signed name) ws (λ n. refl) (λ n v. v) (ap signed is) (rising-read ws))
    (gives-named name (codes "wit") _ _ P (λ is. gives-after (signed (codes "wit")) (λ n. atom.Wit n.0 n.1 n.2) three_words AreThree words Valid (three_in ws) (signed name) ws (λ n. refl) (λ n v. v) (ap signed is) (three-read ws))
    (gives-named name (codes "span") _ _ P (λ is. gives-after (signed (codes "span")) (λ n. atom.Span n.0 n.1 n.2) three_words AreThree words Valid (three_in ws) (signed name) ws (λ n. refl) (λ n v. v) (ap signed is) (three-read ws))
    (gives-named name (codes "gap") _ _ P (λ is. gives-after (signed (codes "gap")) (λ n. atom.Gap n.0 n.1 n.2) three_words AreThree words Valid (three_in ws) (signed name) ws (λ n. refl) (λ n v. v) (ap signed is) (three-read ws)) tt)))))
  where
    signed : Word → Word
    signed v = signed_word positive v

    words : Atom → List Word
    words a = atom_words positive a

    Valid : Atom → Type 0
    Valid a = IsSpelledAtom positive a

    P : Atom × List Word → Type 0
    P = IsRead (atom_words positive) (IsSpelledAtom positive) (signed_word positive name ∷ ws)

signed-read : (w : Word) (ws : List Word) → IfSome (signed_in w ws) (IsRead literal_words IsSpelledLiteral (w ∷ ws))
signed-read [] ws = tt
signed-read (b ∷ name) ws =
    gives-if (b == 43) (made (literal_with true) (atom_in name ws)) (if b == 45 then made (literal_with false) (atom_in name ws) else None) (IsRead literal_words IsSpelledLiteral ((b ∷ name) ∷ ws))
    (λ test. let is : b ≡ 43 = grind (arith, nat_tests) in
    gives-made (literal_with true) (atom_in name ws) (IsRead (atom_words true) (IsSpelledAtom true) (signed_word true name ∷ ws)) (IsRead literal_words IsSpelledLiteral ((b ∷ name) ∷ ws))
    (λ a rest r. record { valid = r.valid; words_are = ap (λ s. (s ∷ name) ∷ ws) is ∙ r.words_are }) (atom-read true name ws))
    (λ other. gives-if (b == 45) (made (literal_with false) (atom_in name ws)) None (IsRead literal_words IsSpelledLiteral ((b ∷ name) ∷ ws))
    (λ test. let is : b ≡ 45 = grind (arith, nat_tests) in
    gives-made (literal_with false) (atom_in name ws) (IsRead (atom_words false) (IsSpelledAtom false) (signed_word false name ∷ ws)) (IsRead literal_words IsSpelledLiteral ((b ∷ name) ∷ ws))
    (λ a rest r. record { valid = r.valid; words_are = ap (λ s. (s ∷ name) ∷ ws) is ∙ r.words_are }) (atom-read false name ws)) (λ none. tt))

-- the negation of a negation
pub bound-twice : (c : ℤ) → (neg_ℤ (neg_ℤ c -ℤ pos 1) -ℤ pos 1) ≡ c
bound-twice c = omega (arith, ints)

-- the literal of a constraint has that constraint's text
record IsOrderLiteral (e f : ℕ) (c : ℤ) (l : Literal) : Type 0 where
  spelled : IsSpelledLiteral l
  text : literal_words l ≡ order_words e f c

order-literal : (e f : ℕ) (c : ℤ) → IsOrder e f c → IsOrderLiteral e f c (order_literal e f c)
order-literal e f c is = by (nat_lt e f) refl
  where
    by : (b : Bool) → nat_lt e f ≡ b → IsOrderLiteral e f c (if b then yes (atom.Order e f c) else no (atom.Order f e (neg_ℤ c -ℤ pos 1)))
    by true test =
        let smaller : e < f = grind (arith, nat_tests) in
        record { spelled = record { smaller_first = smaller; second = is.second; bound = is.bound }; text = refl }
    by false test =
        let apart = is.apart in
        let smaller : f < e = grind (arith, nat_tests, apart) in
        record {
          spelled = record { smaller_first = smaller; second = is.first; bound = rw (bound-twice c) is.bound };
          text = ap (order_words e f) (bound-twice c);
        }

pub literal-read : (ws : List Word) → IfSome (literal_in ws) (IsRead literal_words IsSpelledLiteral ws)
literal-read [] = tt
literal-read (w ∷ ws) =
    gives-named w (codes "order") (made literal_of (constraint_in ws)) (signed_in w ws) (IsRead literal_words IsSpelledLiteral (w ∷ ws))
    (λ is. gives-made literal_of (constraint_in ws) (IsRead constraint_words IsConstraint ws) (IsRead literal_words IsSpelledLiteral (w ∷ ws))
    (λ x rest r. let made = order-literal x.e x.f x.c r.valid in
    record { valid = made.spelled; words_are = ap (λ v. v ∷ ws) is ∙ ap (λ t. codes "order" ∷ t) r.words_are ∙ ap (λ t. t ++ rest) (sym made.text) }) (constraint-read ws)) (signed-read w ws)

-- an argument, and the words of those that are used
abbrev IsArgument : Bool → ℕ → Type 0
IsArgument true n = IsNumber n
IsArgument false n = n ≡ 0

abbrev argument_words : Bool → ℕ → List Word
argument_words true n = decimal n ∷ []
argument_words false n = []

argument-read : (used : Bool) (ws : List Word) → IfSome (argument_in used ws) (IsRead (λ n. argument_words used n) (λ n. IsArgument used n) ws)
argument-read true ws =
    gives-weaker (number_in ws) (IsRead one_word IsNumber ws) (IsRead (λ n. argument_words true n) (λ n. IsArgument true n) ws)
    (λ r is. record { valid = is.valid; words_are = is.words_are }) (number-read ws)
argument-read false ws = record { valid = refl; words_are = refl }

pub record AreArguments (count : ℕ) (args : List ℕ) : Type 0 where
  pub four : length args ≡ 4
  pub used : All IsNumber (take count args)
  pub unused : All (λ (n : ℕ). n ≡ 0) (drop count args)

abbrev used_words : ℕ → List ℕ → List Word
used_words count args = number_words (take count args)

abbrev AreZero : List ℕ → Type 0
AreZero ns = All (λ (n : ℕ). n ≡ 0) ns

no_number : All IsNumber []
no_number = All-nil IsNumber

more_number : (n : ℕ) (ns : List ℕ) → IsNumber n → All IsNumber ns → All IsNumber (n ∷ ns)
more_number n ns is all = All-cons IsNumber n ns is all

no_zero : AreZero []
no_zero = All-nil (λ (n : ℕ). n ≡ 0)

more_zero : (n : ℕ) (ns : List ℕ) → n ≡ 0 → AreZero ns → AreZero (n ∷ ns)
more_zero n ns is all = All-cons (λ (n : ℕ). n ≡ 0) n ns is all

together : (count a b c d : ℕ) (ws rest : List Word) → count ≤ 4 → IsArgument (nat_lt 0 count) a → IsArgument (nat_lt 1 count) b → IsArgument (nat_lt 2 count) c → IsArgument (nat_lt 3 count) d
    → ws ≡ argument_words (nat_lt 0 count) a ++ (argument_words (nat_lt 1 count) b ++ (argument_words (nat_lt 2 count) c ++ (argument_words (nat_lt 3 count) d ++ rest)))
    → IsRead (used_words count) (AreArguments count) ws (a ∷ b ∷ c ∷ d ∷ [], rest)
together zero a b c d ws rest few ia ib ic id is = record {
  valid = record { four = refl; used = no_number; unused = more_zero a (b ∷ c ∷ d ∷ []) ia (more_zero b (c ∷ d ∷ []) ib (more_zero c (d ∷ []) ic (more_zero d [] id no_zero))) };
  words_are = is;
}
together (suc zero) a b c d ws rest few ia ib ic id is = record {
  valid = record { four = refl; used = more_number a [] ia no_number; unused = more_zero b (c ∷ d ∷ []) ib (more_zero c (d ∷ []) ic (more_zero d [] id no_zero)) };
  words_are = is;
}
together (suc (suc zero)) a b c d ws rest few ia ib ic id is = record {
  valid = record { four = refl; used = more_number a (b ∷ []) ia (more_number b [] ib no_number); unused = more_zero c (d ∷ []) ic (more_zero d [] id no_zero) };
  words_are = is;
}
together (suc (suc (suc zero))) a b c d ws rest few ia ib ic id is = record {
  valid = record { four = refl; used = more_number a (b ∷ c ∷ []) ia (more_number b (c ∷ []) ib (more_number c [] ic no_number)); unused = more_zero d [] id no_zero };
  words_are = is;
}
together (suc (suc (suc (suc zero)))) a b c d ws rest few ia ib ic id is = record {
  valid = record { four = refl; used = more_number a (b ∷ c ∷ d ∷ []) ia (more_number b (c ∷ d ∷ []) ib (more_number c (d ∷ []) ic (more_number d [] id no_number))); unused = no_zero };
  words_are = is;
}
together (suc (suc (suc (suc (suc count))))) a b c d ws rest few ia ib ic id is = absurd (omega arith)

module _ (count : ℕ) (few : count ≤ 4) where
  abbrev ArgumentRead : ℕ → List Word → ℕ × List Word → Type 0
  ArgumentRead place ws = IsRead (λ n. argument_words (nat_lt place count) n) (λ n. IsArgument (nat_lt place count) n) ws

  abbrev AllRead : List Word → List ℕ × List Word → Type 0
  AllRead all = IsRead (used_words count) (AreArguments count) all

  arguments-read : (all : List Word) → IfSome (arguments_in count all) (AllRead all)
  arguments-read all =
      gives-then
      (λ (a : ℕ × List Word). option_and_then
      (λ (b : ℕ × List Word). option_and_then (λ (c : ℕ × List Word). made (λ (d : ℕ). a.0 ∷ b.0 ∷ c.0 ∷ d ∷ []) (argument_in (nat_lt 3 count) c.1)) (argument_in (nat_lt 2 count) b.1))
      (argument_in (nat_lt 1 count) a.1))
      (argument_in (nat_lt 0 count) all) (ArgumentRead 0 all) (AllRead all) second (argument-read (nat_lt 0 count) all)
    where
      fourth : (a b c : ℕ × List Word) → ArgumentRead 0 all a → ArgumentRead 1 a.1 b → ArgumentRead 2 b.1 c
          → IfSome (made (λ (d : ℕ). a.0 ∷ b.0 ∷ c.0 ∷ d ∷ []) (argument_in (nat_lt 3 count) c.1)) (AllRead all)
      fourth a b c ra rb rc =
          gives-made (λ (d : ℕ). a.0 ∷ b.0 ∷ c.0 ∷ d ∷ []) (argument_in (nat_lt 3 count) c.1) (ArgumentRead 3 c.1) (AllRead all)
          (λ d rest rd. together count a.0 b.0 c.0 d all rest few ra.valid rb.valid rc.valid rd.valid
          (ra.words_are
          ∙ ap (λ t. argument_words (nat_lt 0 count) a.0 ++ t)
          (rb.words_are ∙ ap (λ t. argument_words (nat_lt 1 count) b.0 ++ t) (rc.words_are ∙ ap (λ t. argument_words (nat_lt 2 count) c.0 ++ t) rd.words_are))))
          (argument-read (nat_lt 3 count) c.1)

      third : (a b : ℕ × List Word) → ArgumentRead 0 all a → ArgumentRead 1 a.1 b
          → IfSome (option_and_then (λ (c : ℕ × List Word). made (λ (d : ℕ). a.0 ∷ b.0 ∷ c.0 ∷ d ∷ []) (argument_in (nat_lt 3 count) c.1)) (argument_in (nat_lt 2 count) b.1)) (AllRead all)
      third a b ra rb =
          gives-then (λ (c : ℕ × List Word). made (λ (d : ℕ). a.0 ∷ b.0 ∷ c.0 ∷ d ∷ []) (argument_in (nat_lt 3 count) c.1)) (argument_in (nat_lt 2 count) b.1)
          (ArgumentRead 2 b.1) (AllRead all) (λ c rc. fourth a b c ra rb rc) (argument-read (nat_lt 2 count) b.1)

      second : (a : ℕ × List Word) → ArgumentRead 0 all a
          → IfSome
          (option_and_then
          (λ (b : ℕ × List Word). option_and_then (λ (c : ℕ × List Word). made (λ (d : ℕ). a.0 ∷ b.0 ∷ c.0 ∷ d ∷ []) (argument_in (nat_lt 3 count) c.1)) (argument_in (nat_lt 2 count) b.1))
          (argument_in (nat_lt 1 count) a.1))
          (AllRead all)
      second a ra =
          gives-then
          (λ (b : ℕ × List Word). option_and_then (λ (c : ℕ × List Word). made (λ (d : ℕ). a.0 ∷ b.0 ∷ c.0 ∷ d ∷ []) (argument_in (nat_lt 3 count) c.1)) (argument_in (nat_lt 2 count) b.1))
          (argument_in (nat_lt 1 count) a.1) (ArgumentRead 1 a.1) (AllRead all)
          (λ b rb. third a b ra rb) (argument-read (nat_lt 1 count) a.1)

abbrev rule_of : ℕ → List ℕ → Rule
rule_of number args = record { number = number; args = args }

abbrev IsByte : ℕ → Type 0
IsByte n = n < 2 ^ 8

rule-read : (ws : List Word) → IfSome (rule_in ws) (IsRead rule_words IsSpelledRule ws)
rule-read ws =
    gives-then (λ (n : ℕ × List Word). made (rule_of n.0) (arguments_in (argument_count n.0) n.1)) (byte_in ws) (IsRead one_word IsByte ws) (IsRead rule_words IsSpelledRule ws) second (byte-read ws)
  where
    second : (n : ℕ × List Word) → IsRead one_word IsByte ws n → IfSome (made (rule_of n.0) (arguments_in (argument_count n.0) n.1)) (IsRead rule_words IsSpelledRule ws)
    second n r =
        gives-made (rule_of n.0) (arguments_in (argument_count n.0) n.1) (IsRead (used_words (argument_count n.0)) (AreArguments (argument_count n.0)) n.1) (IsRead rule_words IsSpelledRule ws)
        (λ args rest q. record {
          valid = record { number = r.valid; four = q.valid.four; used = q.valid.used; unused = q.valid.unused };
          words_are = r.words_are ∙ ap (λ t. decimal n.0 ∷ t) q.words_are;
        }) (arguments-read (argument_count n.0) (at-most-four n.0) n.1)

pub hint-read : (ws : List Word) → IfSome (hint_in ws) (IsRead hint_words IsSpelledHint ws)
hint-read [] = tt
hint-read (w ∷ ws) =
    gives-named w (codes "line") _ _ (IsRead hint_words IsSpelledHint (w ∷ ws)) (λ is. gives-after (codes "line") hint.Line one_word IsNumber hint_words IsSpelledHint (number_in ws) w ws (λ n. refl) (λ n v. v) is (number-read ws))
    (gives-named w (codes "rule") _ _ (IsRead hint_words IsSpelledHint (w ∷ ws)) (λ is. gives-after (codes "rule") hint.Rule rule_words IsSpelledRule hint_words IsSpelledHint (rule_in ws) w ws (λ r. refl) (λ r v. v) is (rule-read ws)) tt)

module _ {X : Type 0} (read : List Word → Reading X) (words : X → List Word) (Valid : X → Type 0) (sound : (ws : List Word) → IfSome (read ws) (IsRead words Valid ws)) where
  record AreItems (count : ℕ) (xs : List X) : Type 0 where
    number : length xs ≡ count
    each : All Valid xs

  abbrev pub all_words : List X → List Word
  all_words xs = flat_map words xs

  -- an item more
  item-more : (count : ℕ) (ws : List Word) (x : X × List Word) → IsRead words Valid ws x
      → IfSome (items_in read count x.1) (IsRead all_words (AreItems count) x.1)
      → IfSome (made (λ (xs : List X). x.0 ∷ xs) (items_in read count x.1)) (IsRead all_words (AreItems (suc count)) ws)
  item-more count ws x r later =
      gives-made (λ (xs : List X). x.0 ∷ xs) (items_in read count x.1) (IsRead all_words (AreItems count) x.1) (IsRead all_words (AreItems (suc count)) ws)
      (λ xs rest q. record {
        valid = record { number = ap suc q.valid.number; each = All-cons Valid x.0 xs r.valid q.valid.each };
        words_are = r.words_are ∙ ap (λ t. words x.0 ++ t) q.words_are ∙ sym (append_assoc (words x.0) (flat_map words xs) rest);
      }) later

  items-read : (count : ℕ) (ws : List Word) → IfSome (items_in read count ws) (IsRead all_words (AreItems count) ws)
  items-read zero ws = record { valid = record { number = refl; each = All-nil Valid }; words_are = refl }
  items-read (suc count) ws =
      gives-then (λ (x : X × List Word). made (λ (xs : List X). x.0 ∷ xs) (items_in read count x.1)) (read ws) (IsRead words Valid ws)
      (IsRead all_words (AreItems (suc count)) ws) (λ x r. item-more count ws x r (items-read count x.1)) (sound ws)

  -- a number and so many items
  abbrev pub counted_words : List X → List Word
  counted_words xs = decimal (length xs) ∷ flat_map words xs

  pub record AreCounted (xs : List X) : Type 0 where
    pub few : IsNumber (length xs)
    pub each : All Valid xs

  pub counted-read : (ws : List Word) → IfSome (counted_in read ws) (IsRead counted_words AreCounted ws)
  counted-read ws = gives-then (λ (n : ℕ × List Word). items_in read n.0 n.1) (number_in ws) (IsRead one_word IsNumber ws) (IsRead counted_words AreCounted ws) second (number-read ws)
    where
      second : (n : ℕ × List Word) → IsRead one_word IsNumber ws n → IfSome (items_in read n.0 n.1) (IsRead counted_words AreCounted ws)
      second n r = gives-weaker (items_in read n.0 n.1) (IsRead all_words (AreItems n.0) n.1) (IsRead counted_words AreCounted ws) step (items-read n.0 n.1)
        where
          step : (q : List X × List Word) → IsRead all_words (AreItems n.0) n.1 q → IsRead counted_words AreCounted ws q
          step q is =
              let number = is.valid.number in
              record {
                valid = record { few = subst IsNumber (sym number) r.valid; each = is.valid.each };
                words_are = r.words_are ∙ ap (λ t. decimal n.0 ∷ t) is.words_are ∙ ap (λ k. decimal k ∷ (flat_map words q.0 ++ q.1)) (sym number);
              }

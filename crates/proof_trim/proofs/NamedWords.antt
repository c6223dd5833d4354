-- The numbers of lines among the words of a line.
use Rattle.std.proofs.Common.{◌≡◌, ◌∙◌, sym, ap, refl, ℕ, ◌^◌, Bool, true, false, List, [], ◌∷◌, ◌++◌, length, map, Some, None, ℤ, arith, lit≤, codes, inl, inr}
use Rattle.std.specs.Prelude.{All, unwrap_or}
use Rattle.std.specs.Fmt.{decimal, signed_decimal}
use Rattle.std.specs.List.{filter_map, flat_map}
use Rattle.std.proofs.lemmas.Bool.{cases_Bool}
use Rattle.std.proofs.lemmas.Int.{ints}
use Rattle.std.proofs.lemmas.List.{length-map}
use Rattle.std.proofs.lemmas.List.Elements.{All-head, All-tail}
use Rattle.std.proofs.lemmas.Slice.Eq.{bytes_eq-Decides}
use Rattle.mt_model.specs.declared.limits.TheConstants.{MAX_ORDER}
use Rattle.mt_model.specs.Log.{IsWithin}
use Rattle.decimal.specs.Numbers.{number_below, signed_up_to}
use Rattle.decimal.proofs.Printed.{number-below-printed, signed-printed}
use Rattle.axiom_rules.specs.declared.literal.Atom.{Atom}
use Rattle.axiom_rules.specs.declared.literal.Atom.TheVariants as atom
use Rattle.axiom_rules.specs.declared.literal.Literal.{Literal}
use Rattle.proof_log.specs.declared.line.Hint.{Hint}
use Rattle.proof_log.specs.declared.line.Hint.TheVariants as hint
use Rattle.proof_log.specs.LinesText.{Word, atom_words, hint_words, literal_words, number_words, order_words, rule_words}
use Rattle.proof_log.specs.Spelled.{IsNumber, IsSpelledAtom, IsSpelledHint, IsSpelledLearn, IsSpelledLiteral, used_arguments, written_bound}
use Rattle.proof_trim.specs.Naming.{is_line_word, named_by, named_in, number_of, renamed_in}
use Rattle.proof_trim.specs.Trimmed.{hint_renumbered}

-- ---- words that are not `line`

abbrev pub NoLine : List Word → Type 0
NoLine [] = Unit {0}
NoLine (w ∷ ws) = (is_line_word w ≡ false) × NoLine ws

no-line-append : (xs ys : List Word) → NoLine xs → NoLine ys → NoLine (xs ++ ys)
no-line-append [] ys p q = q
no-line-append (x ∷ xs) ys p q = (p.0, no-line-append xs ys p.1 q)

no-line-all : {X : Type 0} (words : X → List Word) (Valid : X → Type 0) → ((x : X) → Valid x → NoLine (words x)) → (xs : List X) → All Valid xs → NoLine (flat_map words xs)
no-line-all words Valid each [] all = tt
no-line-all words Valid each (x ∷ xs) all = no-line-append (words x) (flat_map words xs) (each x (All-head Valid x xs all)) (no-line-all words Valid each xs (All-tail Valid x xs all))

other-word : (w : Word) → (w ≡ codes "line" → ⊥) → is_line_word w ≡ false
other-word w other = elim (cases_Bool (is_line_word w)) [
  | inl same ↦ absurd (other ((bytes_eq-Decides w (codes "line")).0 same))
  | inr apart ↦ apart
]

no-number : number_below (2 ^ 32) (codes "line") ≡ None
no-number = refl

no-bound : signed_up_to MAX_ORDER (codes "line") ≡ None
no-bound = refl

number-word : (n : ℕ) → IsNumber n → is_line_word (decimal n) ≡ false
number-word n is = other-word (decimal n) (λ same.
    let read : Some n ≡ None = sym (number-below-printed (2 ^ 32) n (lit≤ tt) is) ∙ ap (number_below (2 ^ 32)) same ∙ no-number in
    cc)

bound-word : (c : ℤ) → IsWithin MAX_ORDER c → is_line_word (signed_decimal c) ≡ false
bound-word c is = other-word (signed_decimal c) (λ same.
    let read : Some c ≡ None = sym (signed-printed MAX_ORDER c (omega (arith, ints)) is.low is.high) ∙ ap (signed_up_to MAX_ORDER) same ∙ no-bound in
    cc)

order-words : (e f : ℕ) (c : ℤ) → IsNumber e → IsNumber f → IsWithin MAX_ORDER c → NoLine (order_words e f c)
order-words e f c is_e is_f is_c = (refl, (number-word e is_e, (number-word f is_f, (bound-word c is_c, tt))))

atom-words : (positive : Bool) (a : Atom) → IsSpelledAtom positive a → NoLine (atom_words positive a)
atom-words true (atom.Order e f c) is = order-words e f c (omega (arith, is.smaller_first, is.second)) is.second is.bound
atom-words false (atom.Order e f c) is = order-words f e (written_bound false c) is.second (omega (arith, is.smaller_first, is.second)) is.bound
atom-words true (atom.Node k e) is = (refl, (number-word k is.0, (number-word e is.1, tt)))
atom-words false (atom.Node k e) is = (refl, (number-word k is.0, (number-word e is.1, tt)))
atom-words true (atom.First e) is = (refl, (number-word e is, tt))
atom-words false (atom.First e) is = (refl, (number-word e is, tt))
atom-words true (atom.Same e x) is = (refl, (number-word e (omega (arith, is.smaller_first, is.second)), (number-word x is.second, tt)))
atom-words false (atom.Same e x) is = (refl, (number-word e (omega (arith, is.smaller_first, is.second)), (number-word x is.second, tt)))
atom-words true (atom.Wit k i j) is = (refl, (number-word k is.0, (number-word i is.1, (number-word j is.2, tt))))
atom-words false (atom.Wit k i j) is = (refl, (number-word k is.0, (number-word i is.1, (number-word j is.2, tt))))
atom-words true (atom.Span k i j) is = (refl, (number-word k is.0, (number-word i is.1, (number-word j is.2, tt))))
atom-words false (atom.Span k i j) is = (refl, (number-word k is.0, (number-word i is.1, (number-word j is.2, tt))))
atom-words true (atom.Gap k i m) is = (refl, (number-word k is.0, (number-word i is.1, (number-word m is.2, tt))))
atom-words false (atom.Gap k i m) is = (refl, (number-word k is.0, (number-word i is.1, (number-word m is.2, tt))))

literal-words : (l : Literal) → IsSpelledLiteral l → NoLine (literal_words l)
literal-words l is = atom-words l.positive l.atom is

numbers-words : (ns : List ℕ) → All IsNumber ns → NoLine (number_words ns)
numbers-words [] all = tt
numbers-words (n ∷ ns) all = (number-word n (All-head IsNumber n ns all), numbers-words ns (All-tail IsNumber n ns all))

-- ---- what such words do not change

pub passed-named : (ws us : List Word) → NoLine ws → named_in false (ws ++ us) ≡ named_in false us
passed-named [] us none = refl
passed-named (w ∷ ws) us none = ap (λ b. named_in b (ws ++ us)) none.0 ∙ passed-named ws us none.1

pub passed-renamed : (place : ℕ → ℕ) (ws us : List Word) → NoLine ws → renamed_in place false (ws ++ us) ≡ ws ++ renamed_in place false us
passed-renamed place [] us none = refl
passed-renamed place (w ∷ ws) us none = ap (λ b. w ∷ renamed_in place b (ws ++ us)) none.0 ∙ ap (λ t. w ∷ t) (passed-renamed place ws us none.1)

-- ---- hints

number-read : (n : ℕ) → IsNumber n → number_of (decimal n) ≡ n
number-read n is = ap (λ o. unwrap_or o 0) (number-below-printed (2 ^ 32) n (lit≤ tt) is)

hints-named : (hs : List Hint) → All IsSpelledHint hs → named_in false (flat_map hint_words hs) ≡ filter_map named_by hs
hints-named [] all = refl
hints-named (hint.Line n ∷ hs) all =
    ap (λ k. k ∷ named_in false (flat_map hint_words hs)) (number-read n (All-head IsSpelledHint (hint.Line n) hs all)) ∙ ap (λ t. n ∷ t) (hints-named hs (All-tail IsSpelledHint (hint.Line n) hs all))
hints-named (hint.Rule r ∷ hs) all =
    let is = All-head IsSpelledHint (hint.Rule r) hs all in
    let small : IsNumber r.number = omega (arith, is.number) in
    passed-named (codes "rule" ∷ rule_words r) (flat_map hint_words hs) (refl, (number-word r.number small, numbers-words (used_arguments r) is.used)) ∙ hints-named hs (All-tail IsSpelledHint (hint.Rule r) hs all)

hints-renamed : (place : ℕ → ℕ) (hs : List Hint) → All IsSpelledHint hs → renamed_in place false (flat_map hint_words hs) ≡ flat_map hint_words (map (hint_renumbered place) hs)
hints-renamed place [] all = refl
hints-renamed place (hint.Line n ∷ hs) all =
    ap (λ k. codes "line" ∷ decimal (place k) ∷ renamed_in place false (flat_map hint_words hs)) (number-read n (All-head IsSpelledHint (hint.Line n) hs all))
    ∙ ap (λ t. codes "line" ∷ decimal (place n) ∷ t) (hints-renamed place hs (All-tail IsSpelledHint (hint.Line n) hs all))
hints-renamed place (hint.Rule r ∷ hs) all =
    let is = All-head IsSpelledHint (hint.Rule r) hs all in
    let small : IsNumber r.number = omega (arith, is.number) in
    passed-renamed place (codes "rule" ∷ rule_words r) (flat_map hint_words hs) (refl, (number-word r.number small, numbers-words (used_arguments r) is.used))
    ∙ ap (λ t. (codes "rule" ∷ rule_words r) ++ t) (hints-renamed place hs (All-tail IsSpelledHint (hint.Rule r) hs all))

-- ---- the words of a Learn line after its first

abbrev pub learn_words : List Literal → List Hint → List Word
learn_words lits hints = decimal (length lits) ∷ (flat_map literal_words lits ++ decimal (length hints) ∷ flat_map hint_words hints)

module _ (lits : List Literal) (hints : List Hint) (is : IsSpelledLearn lits hints) where
  front-passed : NoLine (decimal (length lits) ∷ flat_map literal_words lits)
  front-passed = (number-word (length lits) is.lit_count, no-line-all literal_words IsSpelledLiteral literal-words lits is.each_lit)

  count-passed : NoLine (decimal (length hints) ∷ [])
  count-passed = (number-word (length hints) is.hint_count, tt)

  pub learn-named : named_in false (learn_words lits hints) ≡ filter_map named_by hints
  learn-named =
      passed-named (decimal (length lits) ∷ flat_map literal_words lits) (decimal (length hints) ∷ flat_map hint_words hints) front-passed
      ∙ passed-named (decimal (length hints) ∷ []) (flat_map hint_words hints) count-passed ∙ hints-named hints is.each_hint

  pub learn-renamed : (place : ℕ → ℕ) → renamed_in place false (learn_words lits hints) ≡ learn_words lits (map (hint_renumbered place) hints)
  learn-renamed place =
      let front : List Word = decimal (length lits) ∷ flat_map literal_words lits in
      let left = flat_map hint_words (map (hint_renumbered place) hints) in
      passed-renamed place front (decimal (length hints) ∷ flat_map hint_words hints) front-passed
      ∙ ap (λ t. front ++ t)
      (passed-renamed place (decimal (length hints) ∷ []) (flat_map hint_words hints) count-passed ∙ ap (λ t. decimal (length hints) ∷ t) (hints-renamed place hints is.each_hint)
      ∙ ap (λ k. decimal k ∷ left) (sym (length-map hints (hint_renumbered place))))

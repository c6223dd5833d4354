-- The words of a line have no space and no newline.
use Rattle.std.proofs.Common.{◌≡◌, ◌∙◌, ap, refl, arith, ℕ, suc, ◌^◌, ◌<◌, ◌≤◌, Bool, true, false, List, [], ◌∷◌, ◌++◌, length, ℤ, pos, negsuc}
use Rattle.std.specs.Prelude.{◌&&◌, All, nat_lt}
use Rattle.std.specs.Char.{is_ascii_digit}
use Rattle.std.specs.Fmt.{decimal, signed_decimal}
use Rattle.std.specs.List.{flat_map, join_with_byte, list_all, slice_split}
use Rattle.std.proofs.lemmas.Bool.Decides.{nat_tests}
use Rattle.std.proofs.lemmas.Int.{ints}
use Rattle.std.proofs.lemmas.List.Elements.{All-append, All-cons, All-head, All-nil, All-tail}
use Rattle.std.proofs.lemmas.List.Splits.{slice_split_at, slice_split_none}
use Rattle.memchr.specs.Find.{is_byte}
use Rattle.mt_model.specs.declared.limits.TheConstants.{MAX_ORDER}
use Rattle.mt_model.specs.declared.step.Step.{Step}
use Rattle.mt_model.specs.declared.step.Step.TheVariants as step
use Rattle.mt_model.specs.Log.{IsWithin}
use Rattle.decimal.proofs.Printed.{digits-printed}
use Rattle.axiom_rules.specs.declared.literal.Atom.{Atom}
use Rattle.axiom_rules.specs.declared.literal.Atom.TheVariants as atom
use Rattle.axiom_rules.specs.declared.literal.Literal.{Literal}
use Rattle.proof_log.specs.declared.line.Hint.{Hint}
use Rattle.proof_log.specs.declared.line.Hint.TheVariants as hint
use Rattle.proof_log.specs.declared.line.Line.{Line}
use Rattle.proof_log.specs.declared.line.Line.TheVariants as line
use Rattle.proof_log.specs.LinesText.{Word, atom_words, hint_words, line_words, literal_words, newline, number_words, order_words, space, step_words}
use Rattle.proof_log.specs.Spelled.{IsNumber, IsSpelled, IsSpelledAtom, IsSpelledHint, IsSpelledLiteral, IsSpelledStep, written_bound}
use Rattle.proof_log.proofs.Cuts.{Lacks}

-- each byte is above a space
abbrev pub is_plain : Word → Bool
is_plain w = list_all (λ b. nat_lt 32 b) w

abbrev pub ArePlain : List Word → Type 0
ArePlain [] = Unit {0}
ArePlain (w ∷ ws) = (is_plain w ≡ true) × ArePlain ws

plain-append : (xs ys : List Word) → ArePlain xs → ArePlain ys → ArePlain (xs ++ ys)
plain-append [] ys p q = q
plain-append (x ∷ xs) ys p q = (p.0, plain-append xs ys p.1 q)

digits-plain : (ds : List ℕ) → list_all is_ascii_digit ds ≡ true → is_plain ds ≡ true
digits-plain [] digits = refl
digits-plain (d ∷ ds) digits = by (is_ascii_digit d) (list_all is_ascii_digit ds) refl refl digits (digits-plain ds)
  where
    by : (a b : Bool) → is_ascii_digit d ≡ a → list_all is_ascii_digit ds ≡ b → (a && b) ≡ true → (list_all is_ascii_digit ds ≡ true → is_plain ds ≡ true) → is_plain (d ∷ ds) ≡ true
    by true true first later h rest =
        let above : nat_lt 32 d ≡ true = grind (arith, nat_tests) in
        rw above (rest later)
    by true false first later h rest = cc
    by false b first later h rest = cc

plain-decimal : (n : ℕ) → n < 10 ^ 64 → is_plain (decimal n) ≡ true
plain-decimal n small = digits-plain (decimal n) (digits-printed n small)

pub plain-number : (n : ℕ) → IsNumber n → is_plain (decimal n) ≡ true
plain-number n is = plain-decimal n (omega arith)

pub plain-bound : (c : ℤ) → IsWithin MAX_ORDER c → is_plain (signed_decimal c) ≡ true
plain-bound (pos n) within = plain-decimal n (omega (arith, ints, within.high))
plain-bound (negsuc n) within = plain-decimal (suc n) (omega (arith, ints, within.low))

plain-order : (e f : ℕ) (c : ℤ) → IsNumber e → IsNumber f → IsWithin MAX_ORDER c → ArePlain (order_words e f c)
plain-order e f c ie if_ ic = (refl, (plain-number e ie, (plain-number f if_, (plain-bound c ic, tt))))

pub plain-step : (s : Step) → IsSpelledStep s → ArePlain (step_words s)
plain-step (step.Low e) is = (refl, (plain-number e is, tt))
plain-step (step.High e) is = (refl, (plain-number e is, tt))
plain-step (step.Rise e) is = (refl, (plain-number e is, tt))
plain-step (step.Message e) is = (refl, (plain-number e is, tt))
plain-step (step.Late e) is = (refl, (plain-number e is, tt))
plain-step (step.Under e) is = (refl, (plain-number e is, tt))
plain-step (step.Over e) is = (refl, (plain-number e is, tt))
plain-step (step.Extra k) is = (refl, (plain-number k is, tt))
plain-step (step.Order e f c) is = plain-order e f c is.first is.second is.bound

plain-atom : (positive : Bool) (a : Atom) → IsSpelledAtom positive a → ArePlain (atom_words positive a)
plain-atom true (atom.Order e f c) is = plain-order e f c (omega (arith, is.smaller_first, is.second)) is.second is.bound
plain-atom false (atom.Order e f c) is = plain-order f e (written_bound false c) is.second (omega (arith, is.smaller_first, is.second)) is.bound
plain-atom true (atom.Node k e) is = (refl, (plain-number k is.0, (plain-number e is.1, tt)))
plain-atom false (atom.Node k e) is = (refl, (plain-number k is.0, (plain-number e is.1, tt)))
plain-atom true (atom.First e) is = (refl, (plain-number e is, tt))
plain-atom false (atom.First e) is = (refl, (plain-number e is, tt))
plain-atom true (atom.Same e x) is = (refl, (plain-number e (omega (arith, is.smaller_first, is.second)), (plain-number x is.second, tt)))
plain-atom false (atom.Same e x) is = (refl, (plain-number e (omega (arith, is.smaller_first, is.second)), (plain-number x is.second, tt)))
plain-atom true (atom.Wit k i j) is = (refl, (plain-number k is.0, (plain-number i is.1, (plain-number j is.2, tt))))
plain-atom false (atom.Wit k i j) is = (refl, (plain-number k is.0, (plain-number i is.1, (plain-number j is.2, tt))))
plain-atom true (atom.Span k i j) is = (refl, (plain-number k is.0, (plain-number i is.1, (plain-number j is.2, tt))))
plain-atom false (atom.Span k i j) is = (refl, (plain-number k is.0, (plain-number i is.1, (plain-number j is.2, tt))))
plain-atom true (atom.Gap k i m) is = (refl, (plain-number k is.0, (plain-number i is.1, (plain-number m is.2, tt))))
plain-atom false (atom.Gap k i m) is = (refl, (plain-number k is.0, (plain-number i is.1, (plain-number m is.2, tt))))

plain-literal : (l : Literal) → IsSpelledLiteral l → ArePlain (literal_words l)
plain-literal l is = plain-atom l.positive l.atom is

plain-numbers : (ns : List ℕ) → All IsNumber ns → ArePlain (number_words ns)
plain-numbers [] all = tt
plain-numbers (n ∷ ns) all = (plain-number n (All-head IsNumber n ns all), plain-numbers ns (All-tail IsNumber n ns all))

pub plain-hint : (h : Hint) → IsSpelledHint h → ArePlain (hint_words h)
plain-hint (hint.Line n) is = (refl, (plain-number n is, tt))
plain-hint (hint.Rule r) is = (refl, (plain-decimal r.number (omega (arith, is.number)), plain-numbers _ is.used))

pub plain-all : {X : Type 0} (words : X → List Word) (Valid : X → Type 0) → ((x : X) → Valid x → ArePlain (words x)) → (xs : List X) → All Valid xs → ArePlain (flat_map words xs)
plain-all words Valid plain [] all = tt
plain-all words Valid plain (x ∷ xs) all = plain-append (words x) (flat_map words xs) (plain x (All-head Valid x xs all)) (plain-all words Valid plain xs (All-tail Valid x xs all))

pub plain-line : (l : Line) → IsSpelled l → ArePlain (line_words l)
plain-line (line.Cycle steps) is = (refl, (plain-number (length steps) is.count, plain-all step_words IsSpelledStep plain-step steps is.each))
plain-line (line.Learn lits hints) is =
    let second : ArePlain (decimal (length hints) ∷ flat_map hint_words hints) = (plain-number (length hints) is.hint_count, plain-all hint_words IsSpelledHint plain-hint hints is.each_hint) in (
      refl,
      (
        plain-number (length lits) is.lit_count,
        plain-append (flat_map literal_words lits) (decimal (length hints) ∷ flat_map hint_words hints)
            (plain-all literal_words IsSpelledLiteral plain-literal lits is.each_lit) second,
      ),
    )

-- a plain word lacks a byte that is no greater than a space
pub plain-lacks : (byte : ℕ) (w : Word) → byte ≤ 32 → is_plain w ≡ true → Lacks byte w
plain-lacks byte [] small plain = All-nil (λ b. is_byte byte b ≡ false)
plain-lacks byte (b ∷ bs) small plain = by (nat_lt 32 b) (is_plain bs) refl refl plain (plain-lacks byte bs small)
  where
    by : (x y : Bool) → nat_lt 32 b ≡ x → is_plain bs ≡ y → (x && y) ≡ true → (is_plain bs ≡ true → Lacks byte bs) → Lacks byte (b ∷ bs)
    by true true first later h rest =
        let other : is_byte byte b ≡ false = grind (arith, nat_tests) in
        All-cons (λ b. is_byte byte b ≡ false) b bs other (rest later)
    by true false first later h rest = cc
    by false y first later h rest = cc

-- words that are joined come apart again
pub split-joined : (w : Word) (ws : List Word) → ArePlain (w ∷ ws) → slice_split (is_byte space) (join_with_byte space (w ∷ ws)) ≡ w ∷ ws
split-joined w [] plain = slice_split_none (is_byte space) w (plain-lacks space w (omega arith) plain.0)
split-joined w (x ∷ xs) plain =
    slice_split_at (is_byte space) w space (join_with_byte space (x ∷ xs)) (plain-lacks space w (omega arith) plain.0) refl ∙ ap (λ t. w ∷ t) (split-joined x xs plain.1)

-- and have no newline
pub joined-lacks : (ws : List Word) → ArePlain ws → Lacks newline (join_with_byte space ws)
joined-lacks [] plain = All-nil (λ b. is_byte newline b ≡ false)
joined-lacks (w ∷ []) plain = plain-lacks newline w (omega arith) plain.0
joined-lacks (w ∷ x ∷ xs) plain =
    All-append (λ b. is_byte newline b ≡ false) w (space ∷ join_with_byte space (x ∷ xs)) (plain-lacks newline w (omega arith) plain.0)
    (All-cons (λ b. is_byte newline b ≡ false) space (join_with_byte space (x ∷ xs)) refl (joined-lacks (x ∷ xs) plain.1))

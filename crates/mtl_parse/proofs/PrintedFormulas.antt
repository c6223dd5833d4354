-- The text of a valid formula is that formula.
use Rattle.std.proofs.Common.{◌≡◌, ◌≤◌, ◌∙◌, sym, ap, refl, ℕ, Bool, true, false, List, [], ◌∷◌, ◌++◌, append_assoc, append-nil, Option, Some, None, Result, Ok, Err}
use Rattle.std.specs.Prelude.{◌&&◌, not, codes}
use Rattle.std.specs.List.{list_all}
use Rattle.std.proofs.lemmas.List.Folds.{list_all-append}
use Rattle.mt_model.specs.declared.tree.Interval.{Interval}
use Rattle.mt_model.specs.declared.limits.TheConstants.{MAX_HEIGHT}
use Rattle.mt_model.specs.Form.{Form, True, False, Prop, Not, And, Or, Implies, Until, Since, Eventually, Always, Once, Historically, Proposition, height_of, intervals_of, is_interval, is_named, propositions_of}
use Rattle.mt_model.specs.Name.{is_name, is_reserved}
use Rattle.mtl_parse.specs.declared.fault.FormulaFault.{FormulaFault}
use Rattle.mtl_parse.specs.Tokens.{Infix, U, S, Prefix, F, G, O, H, Placed, Token, Open, Close, Bang, Ampersand, Bar, Arrow, InfixLetter, PrefixLetter, is_blank, lexeme_at, Found, tokens_of}
use Rattle.mtl_parse.specs.Grammar.{ReadsInterval, bounded, unbounded, prefix_form, infix_form, from_to, Reads, Implication, Disjunction, Conjunction, UntilOrSince, Unary, implies, implication, or, disjunction, and, conjunction, timed, until_or_since, not as negated, prefixed as preceded, unary, constant_true, constant_false, proposition, parentheses}
use Rattle.mtl_parse.specs.FormulaOf.{FormulaOf, formula, tokens_in}
use Rattle.mtl_parse.specs.FormulaText.{PrintedFormulasReadBack, formula_text, interval_text, joined, prefixed}
use Rattle.mtl_parse.proofs.PrintedTokens.{Scans, without_places}
use Rattle.mtl_parse.proofs.PrintedPieces.{Piece, are_in_order, arrow-piece, empty-piece, first-none, interval-piece, interval_tokens, joined-piece, prefixed-piece, proposition-piece, sign-piece, word-piece}
use Rattle.std.proofs.lemmas.Bool.{and_parts}

-- a proposition of which both words are names and the host is not reserved
abbrev pub is_sayable : Proposition → Bool
is_sayable p = is_named p && not (is_reserved p.host)

-- the names and the intervals of a formula are sound
pub record Printable (f : Form) : Type 0 where
  pub propositions : list_all is_sayable (propositions_of f) ≡ true
  pub intervals : list_all is_interval (intervals_of f) ≡ true

-- a text has tokens that are the formula, and so does whatever it stands before
pub record Printed (bytes : List ℕ) (f : Form) : Type 0 where
  pub tokens : List Token
  pub piece : Piece bytes tokens
  pub reads : Reads Unary tokens f

-- what holds of all of two lists holds of all of each
module _ {X : Type 0} (test : X → Bool) where
  pub front : (xs ys : List X) → list_all test (xs ++ ys) ≡ true → list_all test xs ≡ true
  front xs ys h = (and_parts (list_all test xs) (list_all test ys) (sym (list_all-append test xs ys) ∙ h)).0

  pub back : (xs ys : List X) → list_all test (xs ++ ys) ≡ true → list_all test ys ≡ true
  back xs ys h = (and_parts (list_all test xs) (list_all test ys) (sym (list_all-append test xs ys) ∙ h)).1

-- the levels between a unary formula and an implication
as_conjunction : (ts : List Token) (f : Form) → Reads Unary ts f → Reads Conjunction ts f
as_conjunction ts f r = conjunction ts f (until_or_since ts f r)

as_disjunction : (ts : List Token) (f : Form) → Reads Unary ts f → Reads Disjunction ts f
as_disjunction ts f r = disjunction ts f (as_conjunction ts f r)

as_implication : (ts : List Token) (f : Form) → Reads UntilOrSince ts f → Reads Implication ts f
as_implication ts f r = implication ts f (disjunction ts f (conjunction ts f r))

in-parentheses : (inner : List Token) (f : Form) → Reads Implication inner f → Reads Unary (Open ∷ inner ++ Close ∷ []) f
in-parentheses inner f r = unary (Open ∷ inner ++ Close ∷ []) f (parentheses inner (Open ∷ inner ++ Close ∷ []) f refl r)

high-reads : (low : ℕ) (high : Option ℕ) → ReadsInterval (interval_tokens (from_to low high)) (from_to low high)
high-reads low (Some high) = bounded low high
high-reads low None = unbounded low

interval-reads : (I : Interval) → ReadsInterval (interval_tokens I) I
interval-reads I = high-reads I.low I.high

-- a formula of two with a sign between them
printed-joined : {left middle right : List ℕ} {f g : Form} (h : Form) (ms : List Token) → Piece middle ms
    → ((ts us : List Token) → Reads Unary ts f → Reads Unary us g → Reads Implication (ts ++ (ms ++ us)) h)
    → Printed left f → Printed right g → Printed (joined left middle right) h
printed-joined h ms m reads p q = record {
  tokens = Open ∷ (p.tokens ++ (ms ++ q.tokens)) ++ Close ∷ [];
  piece = joined-piece p.piece m q.piece;
  reads = in-parentheses (p.tokens ++ (ms ++ q.tokens)) h (reads p.tokens q.tokens p.reads q.reads);
}

-- a formula of two with an interval between them
printed-timed : {left right : List ℕ} {f g : Form} (b : ℕ) (op : Infix) (I : Interval) → is_blank b ≡ false → ((bs : List ℕ) → lexeme_at b bs ≡ Found (InfixLetter op) 0) → is_interval I ≡ true
    → Printed left f → Printed right g → Printed (joined left (b ∷ [] ++ interval_text I) right) (infix_form op I f g)
printed-timed {f = f} {g = g} b op I solid lexeme sound =
    printed-joined (infix_form op I f g) (InfixLetter op ∷ interval_tokens I) (sign-piece b (InfixLetter op) solid lexeme (λ ts. refl) (interval-piece I sound))
    (λ ts us r s. let all : List Token = ts ++ ((InfixLetter op ∷ interval_tokens I) ++ us) in
    as_implication all (infix_form op I f g) (timed op ts (interval_tokens I) us all I f g (sym (append_assoc ts (InfixLetter op ∷ interval_tokens I) us)) r (interval-reads I) (until_or_since us g s)))

-- a formula behind a letter and an interval
printed-prefixed : {operand : List ℕ} {f : Form} (b : ℕ) (op : Prefix) (I : Interval) → is_blank b ≡ false → ((bs : List ℕ) → lexeme_at b bs ≡ Found (PrefixLetter op) 0) → is_interval I ≡ true
    → Printed operand f → Printed (prefixed (b ∷ []) I operand) (prefix_form op I f)
printed-prefixed {f = f} b op I solid lexeme sound p = record {
  tokens = PrefixLetter op ∷ (interval_tokens I ++ p.tokens);
  piece = prefixed-piece b (PrefixLetter op) I solid lexeme (λ ts. refl) sound p.piece;
  reads = preceded op (interval_tokens I) p.tokens (PrefixLetter op ∷ (interval_tokens I ++ p.tokens)) I f refl (interval-reads I) p.reads;
}

-- the parts of a formula of two
module _ (f g : Form) (propositions : list_all is_sayable (propositions_of f ++ propositions_of g) ≡ true) where
  module _ (intervals : list_all is_interval (intervals_of f ++ intervals_of g) ≡ true) where
    left : Printable f
    left = record { propositions = front is_sayable (propositions_of f) (propositions_of g) propositions; intervals = front is_interval (intervals_of f) (intervals_of g) intervals }

    right : Printable g
    right = record { propositions = back is_sayable (propositions_of f) (propositions_of g) propositions; intervals = back is_interval (intervals_of f) (intervals_of g) intervals }

  module _ (I : Interval) (intervals : list_all is_interval (intervals_of f ++ I ∷ intervals_of g) ≡ true) where
    timed_left : Printable f
    timed_left = record { propositions = front is_sayable (propositions_of f) (propositions_of g) propositions; intervals = front is_interval (intervals_of f) (I ∷ intervals_of g) intervals }

    timed_interval : is_interval I ≡ true
    timed_interval = (and_parts (is_interval I) (list_all is_interval (intervals_of g)) (back is_interval (intervals_of f) (I ∷ intervals_of g) intervals)).0

    timed_right : Printable g
    timed_right = record { propositions = back is_sayable (propositions_of f) (propositions_of g) propositions; intervals = (and_parts (is_interval I) (list_all is_interval (intervals_of g)) (back is_interval (intervals_of f) (I ∷ intervals_of g) intervals)).1 }

-- the parts of a formula behind a letter
module _ (I : Interval) (f : Form) (propositions : list_all is_sayable (propositions_of f) ≡ true) (intervals : list_all is_interval (I ∷ intervals_of f) ≡ true) where
  first_interval : is_interval I ≡ true
  first_interval = (and_parts (is_interval I) (list_all is_interval (intervals_of f)) intervals).0

  operand : Printable f
  operand = record { propositions = propositions; intervals = (and_parts (is_interval I) (list_all is_interval (intervals_of f)) intervals).1 }

words : (host name reserved : Bool) → (host && name && not reserved && true) ≡ true → (host ≡ true) × (name ≡ true) × (reserved ≡ false)
words true true false h = (refl, refl, refl)
words true true true h = cc
words true false reserved h = cc
words false name reserved h = cc

printed-proposition : (host name : List ℕ) → list_all is_sayable (propositions_of (Prop host name)) ≡ true → Printed (host ++ codes "." ++ name) (Prop host name)
printed-proposition host name sayable =
    let parts = words (is_name host) (is_name name) (is_reserved host) sayable in
    record { tokens = _; piece = proposition-piece host name parts.0 parts.1; reads = unary _ (Prop host name) (proposition host name parts.2) }

printed : (f : Form) → Printable f → Printed (formula_text f) f
printed True v = record { tokens = _; piece = word-piece (codes "true") refl; reads = unary _ True constant_true }
printed False v = record { tokens = _; piece = word-piece (codes "false") refl; reads = unary _ False constant_false }
printed (Prop host name) v = printed-proposition host name v.propositions
printed (Not f) v =
    let p = printed f (record { propositions = v.propositions; intervals = v.intervals }) in
    record { tokens = Bang ∷ p.tokens; piece = sign-piece 33 Bang refl (λ bs. refl) (λ ts. refl) p.piece; reads = negated p.tokens f p.reads }
printed (And f g) v =
    printed-joined (And f g) (Ampersand ∷ []) (sign-piece 38 Ampersand refl (λ bs. refl) (λ ts. refl) empty-piece)
    (λ ts us r s. let all : List Token = ts ++ Ampersand ∷ us in implication all (And f g) (disjunction all (And f g) (and ts us all f g refl (as_conjunction ts f r) (until_or_since us g s))))
    (printed f (left f g v.propositions v.intervals)) (printed g (right f g v.propositions v.intervals))
printed (Or f g) v =
    printed-joined (Or f g) (Bar ∷ []) (sign-piece 124 Bar refl (λ bs. refl) (λ ts. refl) empty-piece)
    (λ ts us r s. let all : List Token = ts ++ Bar ∷ us in implication all (Or f g) (or ts us all f g refl (as_disjunction ts f r) (as_conjunction us g s)))
    (printed f (left f g v.propositions v.intervals)) (printed g (right f g v.propositions v.intervals))
printed (Implies f g) v =
    printed-joined (Implies f g) (Arrow ∷ []) arrow-piece
    (λ ts us r s. implies ts us (ts ++ Arrow ∷ us) f g refl (as_disjunction ts f r) (implication us g (as_disjunction us g s)))
    (printed f (left f g v.propositions v.intervals)) (printed g (right f g v.propositions v.intervals))
printed (Until I f g) v =
    printed-timed 85 U I refl (λ bs. refl) (timed_interval f g v.propositions I v.intervals)
    (printed f (timed_left f g v.propositions I v.intervals)) (printed g (timed_right f g v.propositions I v.intervals))
printed (Since I f g) v =
    printed-timed 83 S I refl (λ bs. refl) (timed_interval f g v.propositions I v.intervals)
    (printed f (timed_left f g v.propositions I v.intervals)) (printed g (timed_right f g v.propositions I v.intervals))
printed (Eventually I f) v = printed-prefixed 70 F I refl (λ bs. refl) (first_interval I f v.propositions v.intervals) (printed f (operand I f v.propositions v.intervals))
printed (Always I f) v = printed-prefixed 71 G I refl (λ bs. refl) (first_interval I f v.propositions v.intervals) (printed f (operand I f v.propositions v.intervals))
printed (Once I f) v = printed-prefixed 79 O I refl (λ bs. refl) (first_interval I f v.propositions v.intervals) (printed f (operand I f v.propositions v.intervals))
printed (Historically I f) v = printed-prefixed 72 H I refl (λ bs. refl) (first_interval I f v.propositions v.intervals) (printed f (operand I f v.propositions v.intervals))

all_sayable : (ps : List Proposition) → list_all is_named ps ≡ true → list_all (λ p. not (is_reserved p.host)) ps ≡ true → list_all is_sayable ps ≡ true
all_sayable [] names hosts = refl
all_sayable (p ∷ ps) names hosts =
    let named = and_parts (is_named p) (list_all is_named ps) names in
    let free = and_parts (not (is_reserved p.host)) (list_all (λ q. not (is_reserved q.host)) ps) hosts in
    rw (named.0, free.0, all_sayable ps named.1 free.1) refl

scanned : (r : Result (List Placed) FormulaFault) (ts : List Token) → without_places r ≡ Some ts → (ps : List Placed) × (r ≡ Ok ps) × (tokens_in ps ≡ ts)
scanned (Ok ps) ts h = (ps, refl, cc)
scanned (Err f) ts h = absurd (cc)

tokens-of-piece : {text : List ℕ} {ts : List Token} → Piece text ts → without_places (tokens_of text) ≡ Some ts
tokens-of-piece {text} {ts} p =
    let scan : Scans (text ++ []) (ts ++ []) = p.scans [] [] refl (record { at = λ place. refl }) in
    ap (λ bytes. without_places (tokens_of bytes)) (sym (append-nil text)) ∙ scan.at 0 ∙ ap Some (append-nil ts)

-- a piece that is the whole text
whole : (text : List ℕ) (f : Form) (ts : List Token) (ps : List Placed) → Piece text ts → tokens_of text ≡ Ok ps → tokens_in ps ≡ ts
    → Reads Unary ts f → height_of f ≤ MAX_HEIGHT → FormulaOf text (Ok f)
whole text f ts ps p scan same reads height =
    let in_order = ap are_in_order (sym (append-nil ts)) ∙ p.in_order [] refl in
    formula ps f scan (rw same (as_implication ts f (until_or_since ts f reads))) (first-none ps (ap are_in_order same ∙ in_order)) height

pub texts-read-back : PrintedFormulasReadBack
texts-read-back f valid =
    let p = printed f (record { propositions = all_sayable (propositions_of f) valid.names valid.hosts; intervals = valid.intervals }) in
    let tokens = scanned (tokens_of (formula_text f)) p.tokens (tokens-of-piece p.piece) in
    whole (formula_text f) f p.tokens tokens.0 p.piece tokens.1 tokens.2 p.reads valid.height

-- The formula that a text is, is valid.
use Rattle.std.proofs.Common.{◌≡◌, ◌∙◌, sym, ap, refl, arith, ℕ, ◌+◌, ◌≤◌, ◌<◌, ◌^◌, Bool, true, false, List, [], ◌∷◌, ◌++◌, append_assoc, length, length-append, Some, None, Ok}
use Rattle.std.specs.Prelude.{◌&&◌, ◌||◌, nat_le, nat_lt, not as opposite, if◌then◌else◌}
use Rattle.std.specs.List.{list_all}
use Rattle.std.proofs.lemmas.Bool.Decides.{nat_tests}
use Rattle.std.proofs.lemmas.List.{length-map}
use Rattle.std.proofs.lemmas.List.Folds.{list_all-append}
use Rattle.mt_model.specs.declared.limits.TheConstants.{MAX_DISTANCE, MAX_HEIGHT}
use Rattle.mt_model.specs.declared.tree.Interval.{Interval}
use Rattle.mt_model.specs.Form.{Form, Proposition, IsFormula, height_of, intervals_of, is_interval, is_named, propositions_of}
use Rattle.mt_model.specs.Name.{is_name, is_reserved}
use Rattle.mtl_parse.specs.Tokens.{Infix, U, S, Prefix, F, G, O, H, Token, Placed, Open, Close, OpenBracket, Comma, Dot, Bang, Ampersand, Bar, Arrow, InfixLetter, PrefixLetter, Number, Word, tokens_of}
use Rattle.mtl_parse.specs.Grammar.{Level, Implication, Reads, ReadsInterval, prefix_form, infix_form, everything, bounded, unbounded, implies, implication, or, disjunction, and, conjunction, timed, until_or_since, not, prefixed, unary, constant_true, constant_false, proposition, parentheses}
use Rattle.mtl_parse.specs.FormulaOf.{begins_below, begins_with_empty_interval, first_empty_interval, has_bound_below, has_bounds_exchanged, tokens_in}
use Rattle.mtl_parse.specs.Machine.{is_sound}
use Rattle.mtl_parse.proofs.SoundTokens.{tokens-few, tokens-sound}
use Rattle.std.proofs.lemmas.Bool.{and_from, and_parts}

-- an interval somewhere in the tokens is empty
abbrev has_empty : List Token → Bool
has_empty [] = false
has_empty (t ∷ ts) = begins_with_empty_interval (t ∷ ts) || has_empty ts

none_empty : (ps : List Placed) → first_empty_interval ps ≡ None → has_empty (tokens_in ps) ≡ false
none_empty [] h = refl
none_empty (p ∷ ps) h = by (begins_with_empty_interval (p.token ∷ tokens_in ps)) (none_empty ps) h
  where
    by : (v : Bool) → (first_empty_interval ps ≡ None → has_empty (tokens_in ps) ≡ false) → (if v then Some p.byte else first_empty_interval ps) ≡ None → (v || has_empty (tokens_in ps)) ≡ false
    by true on h = absurd (cc)
    by false on h = on h

below_more : (low : ℕ) (ts more : List Token) → begins_below low ts ≡ true → begins_below low (ts ++ more) ≡ true
below_more low [] more h = absurd (cc)
below_more low (Number high ∷ ts) more h = h
below_more low (t ∷ ts) more h = absurd (cc)

bound_more : (low : ℕ) (ts more : List Token) → has_bound_below low ts ≡ true → has_bound_below low (ts ++ more) ≡ true
bound_more low [] more h = absurd (cc)
bound_more low (Comma ∷ ts) more h = below_more low ts more h
bound_more low (t ∷ ts) more h = absurd (cc)

exchanged_more : (ts more : List Token) → has_bounds_exchanged ts ≡ true → has_bounds_exchanged (ts ++ more) ≡ true
exchanged_more [] more h = absurd (cc)
exchanged_more (Number low ∷ ts) more h = bound_more low ts more h
exchanged_more (t ∷ ts) more h = absurd (cc)

begins_more : (ts more : List Token) → begins_with_empty_interval ts ≡ true → begins_with_empty_interval (ts ++ more) ≡ true
begins_more [] more h = absurd (cc)
begins_more (OpenBracket ∷ ts) more h = exchanged_more ts more h
begins_more (t ∷ ts) more h = absurd (cc)

empty_right : (xs ys : List Token) → has_empty (xs ++ ys) ≡ false → has_empty ys ≡ false
empty_right [] ys h = h
empty_right (x ∷ xs) ys h = by (begins_with_empty_interval (x ∷ xs ++ ys)) (empty_right xs ys) h
  where
    by : (v : Bool) → (has_empty (xs ++ ys) ≡ false → has_empty ys ≡ false) → (v || has_empty (xs ++ ys)) ≡ false → has_empty ys ≡ false
    by true on h = absurd (cc)
    by false on h = on h

empty_left : (xs ys : List Token) → has_empty (xs ++ ys) ≡ false → has_empty xs ≡ false
empty_left [] ys h = refl
empty_left (x ∷ xs) ys h = by (begins_with_empty_interval (x ∷ xs)) (begins_with_empty_interval (x ∷ xs ++ ys)) (begins_more (x ∷ xs) ys) (empty_left xs ys) h
  where
    by : (v w : Bool) → (v ≡ true → w ≡ true) → (has_empty (xs ++ ys) ≡ false → has_empty xs ≡ false) → (w || has_empty (xs ++ ys)) ≡ false → (v || has_empty xs) ≡ false
    by true true more on h = absurd (cc)
    by true false more on h = let same : false ≡ true = more refl in absurd (cc)
    by false true more on h = absurd (cc)
    by false false more on h = on h

-- the tokens are sound, and no interval in them is empty
record Good (ts : List Token) : Type 0 where
  sound : list_all is_sound ts ≡ true
  whole : has_empty ts ≡ false

good_left : (xs ys : List Token) → Good (xs ++ ys) → Good xs
good_left xs ys g = record { sound = (and_parts (list_all is_sound xs) (list_all is_sound ys) (sym (list_all-append is_sound xs ys) ∙ g.sound)).0; whole = empty_left xs ys g.whole }

good_right : (xs ys : List Token) → Good (xs ++ ys) → Good ys
good_right xs ys g = record { sound = (and_parts (list_all is_sound xs) (list_all is_sound ys) (sym (list_all-append is_sound xs ys) ∙ g.sound)).1; whole = empty_right xs ys g.whole }

good_rest : (t : Token) (ts : List Token) → Good (t ∷ ts) → Good ts
good_rest t ts g = good_right (t ∷ []) ts g

good_as : (xs ys : List Token) → xs ≡ ys → Good xs → Good ys
good_as xs ys e g = record { sound = ap (list_all is_sound) (sym e) ∙ g.sound; whole = ap has_empty (sym e) ∙ g.whole }

abbrev is_free : Proposition → Bool
is_free p = opposite (is_reserved p.host)

-- what a valid formula has in it
record Parts (ps : List Proposition) (is : List Interval) (n : ℕ) : Type 0 where
  names : list_all is_named ps ≡ true
  hosts : list_all is_free ps ≡ true
  intervals : list_all is_interval is ≡ true
  few : length ps ≤ n

two_parts : (ps qs : List Proposition) (is js : List Interval) (n m k : ℕ) → n + m ≤ k → Parts ps is n → Parts qs js m → Parts (ps ++ qs) (is ++ js) k
two_parts ps qs is js n m k fits p q = let first = p.few in let second = q.few in record {
  names = list_all-append is_named ps qs ∙ and_from (list_all is_named ps) (list_all is_named qs) p.names q.names;
  hosts = list_all-append is_free ps qs ∙ and_from (list_all is_free ps) (list_all is_free qs) p.hosts q.hosts;
  intervals = list_all-append is_interval is js ∙ and_from (list_all is_interval is) (list_all is_interval js) p.intervals q.intervals;
  few = omega (arith, length-append ps qs, first, second);
}

with_interval : (I : Interval) (ps : List Proposition) (is : List Interval) (n k : ℕ) → n ≤ k → is_interval I ≡ true → Parts ps is n → Parts ps (I ∷ is) k
with_interval I ps is n k fits ok p = let first = p.few in record { names = p.names; hosts = p.hosts; intervals = and_from (is_interval I) (list_all is_interval is) ok p.intervals; few = omega (arith, first) }

more_room : (ps : List Proposition) (is : List Interval) (n k : ℕ) → n ≤ k → Parts ps is n → Parts ps is k
more_room ps is n k fits p = let first = p.few in record { names = p.names; hosts = p.hosts; intervals = p.intervals; few = omega (arith, first) }

not_less : (low high : ℕ) → (nat_lt high low || false) ≡ false → nat_le low high ≡ true
not_less low high h = grind (arith, nat_tests)

interval_good : {ts : List Token} {I : Interval} → ReadsInterval ts I → Good ts → is_interval I ≡ true
interval_good everything g = refl
interval_good (bounded low high) g =
    let sound = g.sound in
    let low_is : nat_le low MAX_DISTANCE ≡ true = (and_parts (nat_le low MAX_DISTANCE) (nat_le high MAX_DISTANCE && true) sound).0 in
    let high_is : nat_le high MAX_DISTANCE ≡ true = (and_parts (nat_le high MAX_DISTANCE) true ((and_parts (nat_le low MAX_DISTANCE) (nat_le high MAX_DISTANCE && true) sound).1)).0 in
    let order : nat_le low high ≡ true = not_less low high g.whole in
    rw (low_is, high_is, order) refl
interval_good (unbounded low) g =
    let low_is : nat_le low MAX_DISTANCE ≡ true = (and_parts (nat_le low MAX_DISTANCE) true g.sound).0 in
    rw low_is refl

before_parts : (op : Prefix) (I : Interval) (f : Form) (n k : ℕ) → n ≤ k → is_interval I ≡ true
    → Parts (propositions_of f) (intervals_of f) n → Parts (propositions_of (prefix_form op I f)) (intervals_of (prefix_form op I f)) k
before_parts F I f n k fits ok p = with_interval I (propositions_of f) (intervals_of f) n k fits ok p
before_parts G I f n k fits ok p = with_interval I (propositions_of f) (intervals_of f) n k fits ok p
before_parts O I f n k fits ok p = with_interval I (propositions_of f) (intervals_of f) n k fits ok p
before_parts H I f n k fits ok p = with_interval I (propositions_of f) (intervals_of f) n k fits ok p

between_parts : (op : Infix) (I : Interval) (f g : Form) (n m k : ℕ) → n + m ≤ k → is_interval I ≡ true → Parts (propositions_of f) (intervals_of f) n → Parts (propositions_of g) (intervals_of g) m
    → Parts (propositions_of (infix_form op I f g)) (intervals_of (infix_form op I f g)) k
between_parts U I f g n m k fits ok p q =
    two_parts (propositions_of f) (propositions_of g) (intervals_of f) (I ∷ intervals_of g) n m k fits p
    (with_interval I (propositions_of g) (intervals_of g) m m (omega arith) ok q)
between_parts S I f g n m k fits ok p q =
    two_parts (propositions_of f) (propositions_of g) (intervals_of f) (I ∷ intervals_of g) n m k fits p
    (with_interval I (propositions_of g) (intervals_of g) m m (omega arith) ok q)

prop_parts : (host name : List ℕ) (n : ℕ) → is_reserved host ≡ false → is_name host ≡ true → is_name name ≡ true → 1 ≤ n → Parts (record { host = host; name = name } ∷ []) [] n
prop_parts host name n free host_is name_is some = record { names = rw (host_is, name_is) refl; hosts = rw free refl; intervals = refl; few = some }

parts : {level : Level} {ts : List Token} {f : Form} → Reads level ts f → Good ts → Parts (propositions_of f) (intervals_of f) (length ts)
parts (implies left right ts f g e l r) good =
    let whole = good_as ts (left ++ Arrow ∷ right) e good in
    two_parts (propositions_of f) (propositions_of g) (intervals_of f) (intervals_of g) (length left) (length right) (length ts)
    (omega (arith, ap length e, length-append left (Arrow ∷ right))) (parts l (good_left left (Arrow ∷ right) whole))
    (parts r (good_rest Arrow right (good_right left (Arrow ∷ right) whole)))
parts (implication ts f r) good = parts r good
parts (or left right ts f g e l r) good =
    let whole = good_as ts (left ++ Bar ∷ right) e good in
    two_parts (propositions_of f) (propositions_of g) (intervals_of f) (intervals_of g) (length left) (length right) (length ts)
    (omega (arith, ap length e, length-append left (Bar ∷ right))) (parts l (good_left left (Bar ∷ right) whole))
    (parts r (good_rest Bar right (good_right left (Bar ∷ right) whole)))
parts (disjunction ts f r) good = parts r good
parts (and left right ts f g e l r) good =
    let whole = good_as ts (left ++ Ampersand ∷ right) e good in
    two_parts (propositions_of f) (propositions_of g) (intervals_of f) (intervals_of g) (length left) (length right) (length ts)
    (omega (arith, ap length e, length-append left (Ampersand ∷ right))) (parts l (good_left left (Ampersand ∷ right) whole))
    (parts r (good_rest Ampersand right (good_right left (Ampersand ∷ right) whole)))
parts (conjunction ts f r) good = parts r good
parts (timed op left interval right ts I f g e l i r) good =
    let same = e ∙ append_assoc left (InfixLetter op ∷ interval) right in
    let whole = good_as ts (left ++ (InfixLetter op ∷ interval ++ right)) same good in
    let rest = good_rest (InfixLetter op) (interval ++ right) (good_right left (InfixLetter op ∷ interval ++ right) whole) in
    between_parts op I f g (length left) (length right) (length ts)
    (omega (arith, ap length same, length-append left (InfixLetter op ∷ interval ++ right), length-append interval right))
    (interval_good i (good_left interval right rest)) (parts l (good_left left (InfixLetter op ∷ interval ++ right) whole))
    (parts r (good_right interval right rest))
parts (until_or_since ts f r) good = parts r good
parts (not ts f r) good = more_room (propositions_of f) (intervals_of f) (length ts) (length (Bang ∷ ts)) (omega arith) (parts r (good_rest Bang ts good))
parts (prefixed op interval operand ts I f e i r) good =
    let rest = good_rest (PrefixLetter op) (interval ++ operand) (good_as ts (PrefixLetter op ∷ interval ++ operand) e good) in
    before_parts op I f (length operand) (length ts) (omega (arith, ap length e, length-append interval operand))
    (interval_good i (good_left interval operand rest)) (parts r (good_right interval operand rest))
parts (unary ts f r) good = parts r good
parts constant_true good = record { names = refl; hosts = refl; intervals = refl; few = omega arith }
parts constant_false good = record { names = refl; hosts = refl; intervals = refl; few = omega arith }
parts (proposition host name free) good =
    let sound = good.sound in
    prop_parts host name (length (Word host ∷ Dot ∷ Word name ∷ [])) free ((and_parts (is_name host) (is_name name && true) sound).0)
    ((and_parts (is_name name) true ((and_parts (is_name host) (is_name name && true) sound).1)).0) (omega arith)
parts (parentheses inner ts f e r) good =
    let rest = good_rest Open (inner ++ Close ∷ []) (good_as ts (Open ∷ inner ++ Close ∷ []) e good) in
    more_room (propositions_of f) (intervals_of f) (length inner) (length ts) (omega (arith, ap length e, length-append inner (Close ∷ []))) (parts r (good_left inner (Close ∷ []) rest))

sound_in : (ps : List Placed) → list_all (λ p. is_sound p.token) ps ≡ true → list_all is_sound (tokens_in ps) ≡ true
sound_in [] h = refl
sound_in (p ∷ ps) h =
    and_from (is_sound p.token) (list_all is_sound (tokens_in ps))
    ((and_parts (is_sound p.token) (list_all (λ p. is_sound p.token) ps) h).0)
    (sound_in ps ((and_parts (is_sound p.token) (list_all (λ p. is_sound p.token) ps) h).1))

-- the formula that a text is, is valid
pub text-valid : (text : List ℕ) (ps : List Placed) (f : Form) → length text < 2 ^ 31 → tokens_of text ≡ Ok ps
    → Reads Implication (tokens_in ps) f → first_empty_interval ps ≡ None → height_of f ≤ MAX_HEIGHT → IsFormula f
text-valid text ps f short scanned reads none low =
    let p = parts reads (record { sound = sound_in ps (tokens-sound text ps scanned); whole = none_empty ps none }) in
    let each = p.few in
    record {
      height = low;
      propositions = omega (arith, each, tokens-few text ps scanned, length-map ps (λ (p : Placed). p.token));
      names = p.names;
      hosts = p.hosts;
      intervals = p.intervals;
    }

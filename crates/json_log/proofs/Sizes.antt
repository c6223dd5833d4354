-- The value that a text is has no more parts than the text has bytes.
use Rattle.std.proofs.Common.{◌≡◌, ℕ, zero, suc, ◌+◌, ◌≤◌, List, [], ◌∷◌, length, Bool, true, false, Option, Some, None, option_map, option_and_then, Ordering, Less, Equal, Greater, refl, subst, arith}
use Rattle.std.specs.Prelude.{⊤}
use Rattle.std.specs.Ordering.{match_ordering}
use Rattle.json.specs.Token.{Token}
use Rattle.json.specs.Lex.{Class, Lexeme, Mode, Place, backslash, begins_colon, between, class, colon, comma, after_comma, after_key, after_value, fresh, if_allowed, in_escape, in_string, in_word, lex, lex_byte, may_begin, may_close, operator, other, place_token, punctuate, quote, space, token, tokens}
use Rattle.json.specs.Json as json
use Rattle.json.specs.Json.{Parse, after_end_array, items, items_step, members, members_step, parse_map, read_key, value, value_with}
use Rattle.json.proofs.Grammar.{after_end_array-shorter, read_key-shorter}
use Rattle.serde_json.specs.Data.{Data, Items, Members, array, boolean, item, member, no_items, no_members, null, number, object, put, string}
use Rattle.serde_json.specs.Read.{max_depth, number_of, of_items, of_json, of_members, read}

-- ---- how many parts a value has: itself, each of its items and members, and what is in them

abbrev mutual
  pub json_size : json.Json → ℕ
  json_size json.null = 1
  json_size (json.boolean b) = 1
  json_size (json.number s) = 1
  json_size (json.string s) = 1
  json_size (json.array js) = suc (json_items_size js)
  json_size (json.object ms) = suc (json_members_size ms)

  pub json_items_size : json.Items → ℕ
  json_items_size json.no_items = 0
  json_items_size (json.item j js) = json_size j + json_items_size js

  pub json_members_size : json.Members → ℕ
  json_members_size json.no_members = 0
  json_members_size (json.member k j ms) = suc (json_size j + json_members_size ms)

abbrev mutual
  pub size : Data → ℕ
  size null = 1
  size (boolean b) = 1
  size (number n) = 1
  size (string s) = 1
  size (array ds) = suc (items_size ds)
  size (object ms) = suc (members_size ms)

  pub items_size : Items → ℕ
  items_size no_items = 0
  items_size (item d ds) = size d + items_size ds

  pub members_size : Members → ℕ
  members_size no_members = 0
  members_size (member k d ms) = suc (size d + members_size ms)

-- ---- what a step finds, measured by a function

abbrev pub AtMost : {A : Type 0} → (A → ℕ) → ℕ → Option A → Type 0
AtMost f n None = ⊤
AtMost f n (Some a) = f a ≤ n

pub AtMost-map : {A B : Type 0} (f : A → ℕ) (g : B → ℕ) (m n : ℕ) (h : A → B) → ((a : A) → f a ≤ m → g (h a) ≤ n) → (o : Option A) → AtMost f m o → AtMost g n (option_map h o)
AtMost-map f g m n h k None x = tt
AtMost-map f g m n h k (Some a) x = k a x

pub AtMost-and_then : {A B : Type 0} (f : A → ℕ) (g : B → ℕ) (m n : ℕ) (h : A → Option B) → ((a : A) → f a ≤ m → AtMost g n (h a)) → (o : Option A) → AtMost f m o → AtMost g n (option_and_then h o)
AtMost-and_then f g m n h k None x = tt
AtMost-and_then f g m n h k (Some a) x = k a x

-- ---- from tokens to JSON: the parts, and the tokens that are left, are no more than the tokens

abbrev measure : {A : Type 0} → (A → ℕ) → A × List Token → ℕ
measure f p = f p.0 + length p.1

abbrev Fits : {A : Type 0} → (A → ℕ) → Parse A → Type 0
Fits f p = (ts : List Token) → AtMost (measure f) (length ts) (p ts)

module _ {B : Type 0} (g : B → ℕ) (h : json.Json → B → B) (more : Parse B) (again : Fits g more) where
  then_more : (m n extra : ℕ) → m + extra ≤ n → ((j : json.Json) (b : B) → g (h j b) ≤ extra + (json_size j + g b)) → (o : Option (json.Json × List Token)) → AtMost (measure json_size) m o
      → AtMost (measure g) n (option_and_then (λ q. parse_map (h q.0) (more q.1)) o)
  then_more m n extra room adds None x = tt
  then_more m n extra room adds (Some (j, r)) x = last (more r) (again r)
    where
      last : (o : Option (B × List Token)) → AtMost (measure g) (length r) o → AtMost (measure g) n (parse_map (h j) o)
      last None y = tt
      last (Some (b, s)) y = omega (arith, adds j b, x, y)

module _ (p : Parse json.Json) (fits : Fits json_size p) where
  item_turn : (more : Parse json.Items) → Fits json_items_size more → (ts : List Token) (o : Option (List Token)) → after_end_array ts ≡ o
      → AtMost (measure json_items_size) (length ts) (items_step p more ts o)
  item_turn more again ts (Some r) is = omega (arith, after_end_array-shorter ts r is)
  item_turn more again ts None is = then_more json_items_size json.item more again (length ts) (length ts) 0 (omega arith) (λ j b. omega arith) (p ts) (fits ts)

  Fits-items : (n : ℕ) → Fits json_items_size (items p n)
  unfolding items
  Fits-items zero ts = tt
  Fits-items (suc n) ts = item_turn (items p n) (Fits-items n) ts (after_end_array ts) refl

  member_turn : (more : Parse json.Members) → Fits json_members_size more → (ts : List Token) (o : Option (Option (List ℕ) × List Token)) → read_key ts ≡ o
      → AtMost (measure json_members_size) (length ts) (option_and_then (λ q. members_step p more q.0 q.1) o)
  member_turn more again ts None is = tt
  member_turn more again ts (Some (None, s)) is = omega (arith, read_key-shorter ts None s is)
  member_turn more again ts (Some (Some k, s)) is =
      then_more json_members_size (json.member k) more again (length s) (length ts) 1 (omega (arith, read_key-shorter ts (Some k) s is)) (λ j b. omega arith) (p s) (fits s)

  Fits-members : (n : ℕ) → Fits json_members_size (members p n)
  unfolding members
  Fits-members zero ts = tt
  Fits-members (suc n) ts = member_turn (members p n) (Fits-members n) ts (read_key ts) refl

one_more : {A : Type 0} (f : A → ℕ) (h : A → json.Json) (n : ℕ) → ((a : A) → json_size (h a) ≤ suc (f a)) → (o : Option (A × List Token))
    → AtMost (measure f) n o → AtMost (measure json_size) (suc n) (parse_map h o)
one_more f h n adds None x = tt
one_more f h n adds (Some (a, r)) x = omega (arith, adds a, x)

one_level : (a : Parse json.Items) (o : Parse json.Members) → Fits json_items_size a → Fits json_members_size o → Fits json_size (value_with a o)
one_level a o p q [] = tt
one_level a o p q (Token.begin_object ∷ ts) = one_more json_members_size json.object (length ts) (λ ms. omega arith) (o ts) (q ts)
one_level a o p q (Token.end_object ∷ ts) = tt
one_level a o p q (Token.begin_array ∷ ts) = one_more json_items_size json.array (length ts) (λ js. omega arith) (a ts) (p ts)
one_level a o p q (Token.end_array ∷ ts) = tt
one_level a o p q (Token.key s ∷ ts) = tt
one_level a o p q (Token.string s ∷ ts) = omega arith
one_level a o p q (Token.number s ∷ ts) = omega arith
one_level a o p q (Token.boolean b ∷ ts) = omega arith
one_level a o p q (Token.null ∷ ts) = omega arith
one_level a o p q (Token.bad ∷ ts) = tt

Fits-value : (d : ℕ) → Fits json_size (value d)
unfolding value
Fits-value zero = one_level (λ ts. None) (λ ts. None) (λ ts. tt) (λ ts. tt)
Fits-value (suc d) =
    one_level (λ ts. items (value d) (length ts) ts) (λ ts. members (value d) (length ts) ts) (λ ts. Fits-items (value d) (Fits-value d) (length ts) ts)
    (λ ts. Fits-members (value d) (Fits-value d) (length ts) ts)

-- ---- from JSON to data: the last value of a key stays

members_size-match_ordering : (o : Ordering) (a b c : Members) (n : ℕ) → members_size a ≤ n → members_size b ≤ n → members_size c ≤ n → members_size (match_ordering o a b c) ≤ n
members_size-match_ordering Less a b c n p q r = p
members_size-match_ordering Equal a b c n p q r = q
members_size-match_ordering Greater a b c n p q r = r

members_size-put : (k : List ℕ) (d : Data) (ms : Members) → members_size (put k d ms) ≤ suc (size d + members_size ms)
members_size-put k d no_members = omega arith
members_size-put k d (member l e ms) =
    members_size-match_ordering _ (member k d (member l e ms)) (member l d ms) (member l e (put k d ms)) (suc (size d + members_size (member l e ms)))
    (omega arith) (omega arith) (omega (arith, members_size-put k d ms))

flat : {A : Type 0} (o : Option A) → AtMost (λ _. 0) 0 o
flat None = tt
flat (Some a) = omega arith

mutual
  size-of_json : (j : json.Json) (n : ℕ) → json_size j ≤ n → AtMost size n (of_json j)
  size-of_json json.null n h = omega arith
  size-of_json (json.boolean b) n h = omega arith
  size-of_json (json.number s) n h = AtMost-map (λ _. 0) size 0 n number (λ a x. omega arith) (number_of s) (flat _)
  size-of_json (json.string s) n h = omega arith
  size-of_json (json.array js) n h = AtMost-map items_size size (json_items_size js) n array (λ a x. omega arith) _ (size-of_items js _ (omega arith))
  size-of_json (json.object ms) n h = AtMost-map members_size size (json_members_size ms) n object (λ a x. omega arith) _ (size-of_members ms no_members _ (omega arith))

  size-of_items : (js : json.Items) (n : ℕ) → json_items_size js ≤ n → AtMost items_size n (of_items js)
  size-of_items json.no_items n h = omega arith
  size-of_items (json.item j js) n h =
      AtMost-and_then size items_size (json_size j) n _
      (λ d x. AtMost-map items_size items_size (json_items_size js) n (item d) (λ ds y. omega (arith, x, y, h)) _ (size-of_items js (json_items_size js) (omega arith))) _
      (size-of_json j (json_size j) (omega arith))

  size-of_members : (ms : json.Members) (found : Members) (n : ℕ) → json_members_size ms + members_size found ≤ n → AtMost members_size n (of_members ms found)
  size-of_members json.no_members found n h = omega (arith, h)
  size-of_members (json.member k j ms) found n h =
      AtMost-and_then size members_size (json_size j) n _ (λ d x. size-of_members ms (put k d found) n (omega (arith, members_size-put k d found, x, h))) _ (size-of_json j (json_size j) (omega arith))

-- ---- from bytes to tokens

module _ (k : Mode → List Lexeme) (n : ℕ) (short : (next : Mode) → length (k next) ≤ n) where
  lex_byte-short : (m : Mode) (c : Class) (x : ℕ) (xs : List ℕ) → length (lex_byte m c x xs k) ≤ suc n
  lex_byte-short between quote x xs = omega (arith, short in_string)
  lex_byte-short between backslash x xs = omega (arith, short in_word)
  lex_byte-short between operator x xs = omega (arith, short between)
  lex_byte-short between space x xs = omega (arith, short between)
  lex_byte-short between other x xs = omega (arith, short in_word)
  lex_byte-short in_word quote x xs = omega (arith, short in_word)
  lex_byte-short in_word backslash x xs = omega (arith, short in_word)
  lex_byte-short in_word operator x xs = omega (arith, short between)
  lex_byte-short in_word space x xs = omega (arith, short between)
  lex_byte-short in_word other x xs = omega (arith, short in_word)
  lex_byte-short in_string quote x xs = omega (arith, short between)
  lex_byte-short in_string backslash x xs = omega (arith, short in_escape)
  lex_byte-short in_string operator x xs = omega (arith, short in_string)
  lex_byte-short in_string space x xs = omega (arith, short in_string)
  lex_byte-short in_string other x xs = omega (arith, short in_string)
  lex_byte-short in_escape c x xs = omega (arith, short in_string)

lex-short : (m : Mode) (xs : List ℕ) → length (lex m xs) ≤ length xs
unfolding lex
lex-short m [] = omega arith
lex-short m (x ∷ xs) = lex_byte-short (λ next. lex next xs) (length xs) (λ next. lex-short next xs) m (class x) x xs

module _ (k : Place → List Token) (n : ℕ) (short : (next : Place) → length (k next) ≤ suc n) where
  if_allowed-short : (b : Bool) (t : Token) (next : Place) → length (if_allowed b t k next) ≤ suc (suc n)
  if_allowed-short true t next = omega (arith, short next)
  if_allowed-short false t next = omega arith

  place_token-short : (p : Place) (t : Token) (before_colon : Bool) → length (place_token p t before_colon k) ≤ suc (suc n)
  place_token-short p Token.begin_object b = if_allowed-short (may_begin p) Token.begin_object fresh
  place_token-short p Token.end_object b = if_allowed-short (may_close p) Token.end_object after_value
  place_token-short p Token.begin_array b = if_allowed-short (may_begin p) Token.begin_array fresh
  place_token-short p Token.end_array b = if_allowed-short (may_close p) Token.end_array after_value
  place_token-short p (Token.key s) b = omega arith
  place_token-short p (Token.string s) true = if_allowed-short (may_begin p) (Token.key s) after_key
  place_token-short p (Token.string s) false = if_allowed-short (may_begin p) (Token.string s) after_value
  place_token-short p (Token.number s) b = if_allowed-short (may_begin p) (Token.number s) after_value
  place_token-short p (Token.boolean x) b = if_allowed-short (may_begin p) (Token.boolean x) after_value
  place_token-short p Token.null b = if_allowed-short (may_begin p) Token.null after_value
  place_token-short p Token.bad b = omega arith

-- a text that ends too early has one token more
punctuate-short : (p : Place) (ls : List Lexeme) → length (punctuate p ls) ≤ suc (length ls)
unfolding punctuate
punctuate-short fresh [] = omega arith
punctuate-short after_value [] = omega arith
punctuate-short after_comma [] = omega arith
punctuate-short after_key [] = omega arith
punctuate-short fresh (token t ∷ ls) = place_token-short (λ next. punctuate next ls) (length ls) (λ next. punctuate-short next ls) fresh t (begins_colon ls)
punctuate-short after_value (token t ∷ ls) = place_token-short (λ next. punctuate next ls) (length ls) (λ next. punctuate-short next ls) after_value t (begins_colon ls)
punctuate-short after_comma (token t ∷ ls) = place_token-short (λ next. punctuate next ls) (length ls) (λ next. punctuate-short next ls) after_comma t (begins_colon ls)
punctuate-short after_key (token t ∷ ls) = place_token-short (λ next. punctuate next ls) (length ls) (λ next. punctuate-short next ls) after_key t (begins_colon ls)
punctuate-short fresh (comma ∷ ls) = omega arith
punctuate-short after_value (comma ∷ ls) = omega (arith, punctuate-short after_comma ls)
punctuate-short after_comma (comma ∷ ls) = omega arith
punctuate-short after_key (comma ∷ ls) = omega arith
punctuate-short fresh (colon ∷ ls) = omega arith
punctuate-short after_value (colon ∷ ls) = omega arith
punctuate-short after_comma (colon ∷ ls) = omega arith
punctuate-short after_key (colon ∷ ls) = omega (arith, punctuate-short fresh ls)

-- ---- the whole text

last_within : (o : Option (json.Json × List Token)) (n : ℕ) → AtMost (measure json_size) n o → AtMost json_size n (option_and_then (λ p. json.if_last p.0 p.1) o)
last_within None n h = tt
last_within (Some (j, [])) n h = omega (arith, h)
last_within (Some (j, t ∷ r)) n h = tt

size-read_all : (text : List ℕ) → AtMost size (suc (length text)) (read text)
size-read_all text =
    let few : length (tokens text) ≤ suc (length text) = omega (arith, punctuate-short fresh (lex between text), lex-short between text) in
    AtMost-and_then json_size size (length (tokens text)) (suc (length text)) of_json (λ j x. size-of_json j (suc (length text)) (omega (arith, x, few))) _
    (last_within (value max_depth (tokens text)) (length (tokens text)) (Fits-value max_depth (tokens text)))

pub size-read : (text : List ℕ) (d : Data) → read text ≡ Some d → size d ≤ suc (length text)
size-read text d is = subst (AtMost size (suc (length text))) is (size-read_all text)

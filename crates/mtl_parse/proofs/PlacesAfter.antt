-- The places of hosts, token by token.
use Rattle.std.proofs.Common.{◌≡◌, ◌∙◌, sym, ap, refl, arith, zero, suc, ℕ, ◌+◌, ◌-◌, ◌≤◌, ◌<◌, Bool, true, false, List, [], ◌∷◌, ◌++◌, length, drop, get_or, Option, Some, None, Result, Ok, Err}
use Rattle.std.specs.Prelude.{◌↔◌, IsSome, is_some, map, if◌then◌else◌, option_map, option_to_list, slice_get}
use Rattle.std.proofs.lemmas.List.{drop_all, length-map}
use Rattle.std.proofs.lemmas.Option.{slice_get-map}
use Rattle.mt_model.specs.Form.{Form, Proposition, propositions_of}
use Rattle.mtl_parse.specs.declared.fault.FormulaFault.{FormulaFault}
use Rattle.mtl_parse.specs.Tokens.{Placed, Token, Word, Lexeme, Found, NoToken, BadNumber, is_blank, then_tokens, tokens_from, tokens_of, with_token}
use Rattle.mtl_parse.specs.FormulaOf.{FormulaOf, tokens_in}
use Rattle.mtl_parse.specs.Places.{before_dots, host_byte, host_in, is_dot}
use Rattle.mtl_parse.specs.States.{first_lexeme, lexeme_in}
use Rattle.mtl_parse.specs.declared.token.Token.{Token as ScannedToken}
use Rattle.mtl_parse.specs.declared.token.Lexeme.{Lexeme as ScannedLexeme}
use Rattle.mtl_parse.specs.declared.token.Lexeme.TheVariants as lexeme_of
use Rattle.mtl_parse.proofs.Hosts.{hosts, hosts-before-dots}
use Rattle.mtl_parse.proofs.Judging.{formula_text}
use Rattle.mtl_parse.proofs.Scanning.{no-bytes, passed-lexeme, passed-part}

-- the places of the tokens that a dot follows, where a token may stand before them
abbrev places_after : Option ℕ → List Placed → List ℕ
places_after last [] = []
places_after last (p ∷ ps) = (if is_dot p.token then option_to_list last else []) ++ places_after (Some p.byte) ps

places_behind : (p : Placed) (ps : List Placed) → places_after (Some p.byte) ps ≡ map (λ q. q.byte) (before_dots (p ∷ ps))
places_behind p [] = refl
places_behind p (q ∷ ps) =
    ap (λ xs. (if is_dot q.token then p.byte ∷ [] else []) ++ xs) (places_behind q ps)
    ∙ pick (is_dot q.token)
  where
    pick : (d : Bool) → (if d then p.byte ∷ [] else []) ++ map (λ q. q.byte) (before_dots (q ∷ ps)) ≡ map (λ q. q.byte) (if d then p ∷ before_dots (q ∷ ps) else before_dots (q ∷ ps))
    pick true = refl
    pick false = refl

places_all : (ps : List Placed) → places_after None ps ≡ map (λ q. q.byte) (before_dots ps)
places_all [] = refl
places_all (p ∷ ps) = none (is_dot p.token) ∙ places_behind p ps
  where
    none : (d : Bool) → (if d then [] else []) ++ places_after (Some p.byte) ps ≡ places_after (Some p.byte) ps
    none true = refl
    none false = refl

-- what remains of a text has the place that is sought, as one of those that are left
pub record Remains (text : List ℕ) (number : ℕ) (belong i : ℕ) (last : Option ℕ) (left : ℕ) : Type 0 where
  pub rest : List Placed
  pub scanned : tokens_from belong i (drop i text) ≡ Ok rest
  pub place : slice_get (places_after last rest) left ≡ host_byte text number

host_byte_is : (text : List ℕ) (number : ℕ) (ps : List Placed) → tokens_of text ≡ Ok ps → host_byte text number ≡ option_map (λ p. p.byte) (slice_get (before_dots ps) number)
host_byte_is text number ps scanned = ap (λ r. host_in r number) scanned

pub remains-all : (text : List ℕ) (number : ℕ) (f : Form) → FormulaOf text (Ok f) → Remains text number 0 0 None number
remains-all text number f is = let t = formula_text text f is in record {
  rest = t.tokens;
  scanned = t.scanned;
  place = ap (λ xs. slice_get xs number) (places_all t.tokens) ∙ slice_get-map (λ (q : Placed). q.byte) (before_dots t.tokens) number ∙ sym (host_byte_is text number t.tokens t.scanned);
}

pub remains-none : (text : List ℕ) (number belong i : ℕ) (last : Option ℕ) (left : ℕ) → length text ≤ i → Remains text number belong i last left → None ≡ host_byte text number
remains-none text number belong i last left over remains =
    let none : Ok [] ≡ Ok remains.rest = sym (no-bytes belong i) ∙ ap (tokens_from belong i) (sym (drop_all i text over)) ∙ remains.scanned in
    let empty : [] ≡ remains.rest = cc in
    ap (λ xs. slice_get (places_after last xs) left) empty ∙ remains.place

some_is : (o : Option ℕ) → is_some o ≡ true → (p : ℕ) × (o ≡ Some p)
some_is None h = absurd (cc)
some_is (Some p) h = (p, refl)

none_is : (o : Option ℕ) → is_some o ≡ false → o ≡ None
none_is None h = refl
none_is (Some p) h = absurd (cc)

-- the tokens that are left begin with one that was found
taken : (place : ℕ) (t : Token) (r : Result (List Placed) FormulaFault) (all : List Placed)
    → with_token (record { token = t; byte = place }) r ≡ Ok all
    → (rest : List Placed) × (r ≡ Ok rest) × (all ≡ record { token = t; byte = place } ∷ rest)
taken place t (Err e) all h = absurd (cc)
taken place t (Ok rest) all h = (rest, refl, cc)

module _ (text : List ℕ) (number belong i : ℕ) (last : Option ℕ) (left b : ℕ) (within : i < length text) (is : b ≡ get_or text i 0) (remains : Remains text number belong i last left) where
  pub remains-part : 0 < belong → Remains text number (belong - 1) (i + 1) last left
  remains-part some = record { rest = remains.rest; scanned = sym (passed-part text i b within is belong some) ∙ remains.scanned; place = remains.place }

  module _ (own : belong ≡ 0) where
    begun : tokens_from 0 i (drop i text) ≡ Ok remains.rest
    begun = ap (λ n. tokens_from n i (drop i text)) (sym own) ∙ remains.scanned

    module _ (blank : is_blank b ≡ false) where
      lexeme : (l : Lexeme) → l ≡ first_lexeme (drop i text) → then_tokens i l (λ more. tokens_from more (i + 1) (drop (i + 1) text)) ≡ Ok remains.rest
      lexeme l found = ap (λ l. then_tokens i l (λ more. tokens_from more (i + 1) (drop (i + 1) text))) found ∙ sym (passed-lexeme text i b within is blank) ∙ begun

      -- something was found
      pub remains-some : (l : ScannedLexeme) → lexeme_in l ≡ first_lexeme (drop i text) → ((t : ScannedToken) (more : ℕ) → l ≡ lexeme_of.Found t more → ⊥) → ⊥
      remains-some (lexeme_of.Found t more) found other = other t more refl
      remains-some lexeme_of.NoToken found other = let h = lexeme NoToken found in absurd (cc)
      remains-some lexeme_of.BadNumber found other = let h = lexeme BadNumber found in absurd (cc)

      module _ (t : Token) (more : ℕ) (found : Found t more ≡ first_lexeme (drop i text)) where
        first : (rest : List Placed) × (tokens_from more (i + 1) (drop (i + 1) text) ≡ Ok rest) × (remains.rest ≡ record { token = t; byte = i } ∷ rest)
        first = taken i t (tokens_from more (i + 1) (drop (i + 1) text)) remains.rest (lexeme (Found t more) found)

        -- the places that are left, by whether the token is a dot
        after_first : slice_get ((if is_dot t then option_to_list last else []) ++ places_after (Some i) first.0) left ≡ host_byte text number
        after_first = ap (λ xs. slice_get (places_after last xs) left) (sym first.2) ∙ remains.place

        pub remains-plain : is_dot t ≡ false → Remains text number more (i + 1) (Some i) left
        remains-plain plain = record { rest = first.0; scanned = first.1; place = ap (λ v. slice_get ((if v then option_to_list last else []) ++ places_after (Some i) first.0) left) (sym plain) ∙ after_first }

        pub remains-first : is_some last ≡ false → Remains text number more (i + 1) (Some i) left
        remains-first has = let none = none_is last has in record { rest = first.0; scanned = first.1; place = nothing (is_dot t) ∙ ap (λ o. slice_get ((if is_dot t then option_to_list o else []) ++ places_after (Some i) first.0) left) (sym none) ∙ after_first }
          where
            nothing : (d : Bool) → slice_get (places_after (Some i) first.0) left ≡ slice_get ((if d then [] else []) ++ places_after (Some i) first.0) left
            nothing true = refl
            nothing false = refl

        dotted : is_dot t ≡ true → slice_get (option_to_list last ++ places_after (Some i) first.0) left ≡ host_byte text number
        dotted dot = ap (λ v. slice_get ((if v then option_to_list last else []) ++ places_after (Some i) first.0) left) (sym dot) ∙ after_first

        pub remains-found : is_dot t ≡ true → is_some last ≡ true → left ≡ 0 → last ≡ host_byte text number
        remains-found dot has none = let some = (some_is last has).1 in some ∙ sym (ap (λ n. slice_get (option_to_list last ++ places_after (Some i) first.0) n) none ∙ ap (λ o. slice_get (option_to_list o ++ places_after (Some i) first.0) 0) some) ∙ dotted dot

        pub remains-dot : is_dot t ≡ true → is_some last ≡ true → 0 < left → Remains text number more (i + 1) (Some i) (left - 1)
        remains-dot dot has some_left = record {
          rest = first.0;
          scanned = first.1;
          place =
              let next : left ≡ suc (left - 1) = omega arith in
              let some = (some_is last has).1 in
              sym (ap (λ n. slice_get (option_to_list last ++ places_after (Some i) first.0) n) next
              ∙ ap (λ o. slice_get (option_to_list o ++ places_after (Some i) first.0) (suc (left - 1))) some) ∙ dotted dot;
        }

found_within : {X : Type 0} (xs : List X) (n : ℕ) → IsSome (slice_get xs n) ↔ (n < length xs)
found_within [] n = (λ h. absurd (cc), λ h. absurd (omega arith))
found_within (x ∷ xs) zero = (λ h. omega arith, λ h. refl)
found_within (x ∷ xs) (suc n) = (λ h. let less = (found_within xs n).0 h in omega (arith, less), λ h. (found_within xs n).1 (omega arith))

some_mapped : {X Y : Type 0} (f : X → Y) (o : Option X) → is_some (option_map f o) ≡ is_some o
some_mapped f None = refl
some_mapped f (Some x) = refl

-- there is a place for each proposition
pub place-found : (text : List ℕ) (number : ℕ) (result : Option ℕ) (f : Form) → FormulaOf text (Ok f) → result ≡ host_byte text number → IsSome result ↔ (number < length (propositions_of f))
place-found text number result f is same =
    let t = formula_text text f is in
    let all : length (tokens_in (before_dots t.tokens)) ≡ length (hosts f) = ap length (hosts-before-dots t.tokens f t.reads) in
    let many : length (before_dots t.tokens) ≡ length (propositions_of f) =
    sym (length-map (before_dots t.tokens) (λ (p : Placed). p.token)) ∙ all
    ∙ length-map (propositions_of f) (λ (p : Proposition). Word p.host) in
    let some : is_some result ≡ is_some (slice_get (before_dots t.tokens) number) =
    ap is_some (same ∙ host_byte_is text number t.tokens t.scanned)
    ∙ some_mapped (λ (p : Placed). p.byte) (slice_get (before_dots t.tokens) number) in
    let each = found_within (before_dots t.tokens) number in
    (λ h. let less = each.0 (sym some ∙ h) in omega (arith, less, many), λ h. some ∙ each.1 (omega (arith, h, many)))
